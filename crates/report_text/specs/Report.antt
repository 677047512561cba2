-- How the lines of a report are spelled.
use Rattle.std.specs.Prelude.{ℕ, ◌+◌, ◌/◌, ◌%◌, Bool, true, false, ◌==◌, nat_lt, if◌then◌else◌, List, [], ◌∷◌, ◌++◌, map, Option, Some, None, codes}
use Rattle.std.specs.Fmt.{decimal}
use Rattle.std.specs.Int.{bytes_high_first}
use Rattle.std.specs.List.{flat_map}
use Rattle.maple_base.specs.declared.cells.Place.{Place}
use Rattle.maple_base.specs.declared.decision.Decision.{Decision}
use Rattle.maple_base.specs.declared.decision.Decision.TheVariants.{Path}
use Rattle.maple_base.specs.declared.key.Field.{Field}
use Rattle.maple_base.specs.declared.key.Field.TheVariants.{DlSrc, DlDst, DlType, NwSrc, NwDst}
use Rattle.maple_base.specs.declared.key.Match.{Match}
use Rattle.maple_base.specs.declared.update_refused.UpdateRefused.{UpdateRefused}
use Rattle.maple_base.specs.declared.update_refused.UpdateRefused.TheVariants.{UnknownTable, UnknownSwitch, PortRange, Full as full}
use Rattle.maple_base.specs.Decisions.{actions_at}
use Rattle.maple_base.specs.FieldNames.{name_of, all_fields}
use Rattle.maple_base.specs.Keys.{fixed_of}
use Rattle.maple_base.specs.PolicyFaults.{fault_name}
use Rattle.maple_base.specs.Ports.{flood_port, controller_port}
use Rattle.report_text.specs.declared.line.Line.{Line}
use Rattle.report_text.specs.declared.line.Line.TheVariants.{Open, Closed, Ready, State, RefusedUpdate, RefusedPolicy, RefusedScript, Error, Quiet, Malformed, TooBig, Overload, Answer, Spent, Stale, Hit, Miss, Turned, Settled, Unsettled, Absent, Gone, Present, Rule, Rules, End}
use Rattle.report_text.specs.declared.line.Why.{Why}
use Rattle.report_text.specs.declared.line.Why.TheVariants.{Bad, Version, Twice, Full, Clear, Early, Xids, Link, Fault}
use Rattle.report_text.specs.declared.line.Learnt.{Learnt}
use Rattle.report_text.specs.declared.line.Learnt.TheVariants.{Learned, Known, Levels, Rows, Quiet as quiet}
use Rattle.report_text.specs.declared.line.ScriptRefusal.{ScriptRefusal}
use Rattle.report_text.specs.declared.line.ScriptRefusal.TheVariants.{Grammar, TooLong, Switch}

-- one text and then another
infixr 8 ◌&◌
abbrev pub ◌&◌ : List ℕ → List ℕ → List ℕ
a & b = a ++ b

-- texts, each behind a sign
abbrev pub behind : List ℕ → List (List ℕ) → List ℕ
behind sign [] = []
behind sign (t ∷ ts) = sign & t & behind sign ts

-- texts with a sign between
abbrev pub joined : List ℕ → List (List ℕ) → List ℕ
joined sign [] = []
joined sign (t ∷ ts) = t & behind sign ts

-- a digit of base 16, in small letters, and the two digits of a byte
abbrev pub digit : ℕ → ℕ
digit d = if nat_lt d 10 then 48 + d else 87 + d

abbrev pub pair : ℕ → List ℕ
pair byte = digit (byte / 16) ∷ digit (byte % 16) ∷ []

-- an Ethernet address in pairs with colons, and an IP address in dots
unfoldable pub ethernet : ℕ → List ℕ
ethernet n = joined (codes ":") (map pair (bytes_high_first 6 n))

abbrev pub dotted : ℕ → List ℕ
dotted n = joined (codes ".") (map decimal (bytes_high_first 4 n))

-- `0x` and four digits of base 16
abbrev pub four_digits : ℕ → List ℕ
four_digits n = codes "0x" & flat_map pair (bytes_high_first 2 n)

abbrev pub spelled_value : Field → ℕ → List ℕ
spelled_value DlSrc n = ethernet n
spelled_value DlDst n = ethernet n
spelled_value DlType n = four_digits n
spelled_value NwSrc n = dotted n
spelled_value NwDst n = dotted n
spelled_value f n = decimal n

-- `name=value`
abbrev pub spelled_field : Field → ℕ → List ℕ
spelled_field f n = name_of f & codes "=" & spelled_value f n

abbrev pub onto : Field → Option ℕ → List (List ℕ) → List (List ℕ)
onto f None ts = ts
onto f (Some n) ts = spelled_field f n ∷ ts

-- those of some fields that a match fixes
abbrev pub fixed_texts : Match → List Field → List (List ℕ)
fixed_texts m [] = []
fixed_texts m (f ∷ fs) = onto f (fixed_of m f) (fixed_texts m fs)

abbrev pub is_free : List (List ℕ) → Bool
is_free [] = true
is_free (t ∷ ts) = false

-- a match
unfoldable pub spelled_match : Match → List ℕ
spelled_match m = if is_free (fixed_texts m all_fields) then codes "any" else joined (codes ",") (fixed_texts m all_fields)

-- a port by itself has a word where it floods or sends to the controller
abbrev pub spelled_port : ℕ → List ℕ
spelled_port p = if p == flood_port then codes "flood" else (if p == controller_port then codes "barrier" else codes "out " & decimal p)

unfoldable pub spelled_actions : List ℕ → List ℕ
spelled_actions [] = codes "drop"
spelled_actions (p ∷ []) = spelled_port p
spelled_actions (p ∷ q ∷ ps) = codes "out " & joined (codes ",") (map decimal (p ∷ q ∷ ps))

abbrev pub spelled_hop : Place → List ℕ
spelled_hop p = codes "s" & decimal p.switch & codes ":" & decimal p.port

unfoldable pub spelled_decision : ℕ → Decision → List ℕ
spelled_decision s (Path hops) = codes "path " & joined (codes ",") (map spelled_hop hops)
spelled_decision s d = spelled_actions (actions_at d s)

unfoldable pub spelled_learnt : Learnt → List ℕ
spelled_learnt Learned = codes "learned"
spelled_learnt Known = codes "known"
spelled_learnt (Levels need limit) = codes "unlearned levels " & decimal need & codes " " & decimal limit
spelled_learnt (Rows need capacity) = codes "unlearned rows " & decimal need & codes " " & decimal capacity
spelled_learnt quiet = codes "unlearned quiet"

unfoldable pub spelled_why : Why → List ℕ
spelled_why (Bad place cause) = codes "bad " & decimal place & codes " " & decimal cause
spelled_why Version = codes "version"
spelled_why (Twice dpid) = codes "twice " & decimal dpid
spelled_why Full = codes "full"
spelled_why Clear = codes "clear"
spelled_why (Early xid) = codes "early " & decimal xid
spelled_why Xids = codes "xids"
spelled_why Link = codes "link"
spelled_why Fault = codes "fault"

unfoldable pub spelled_update : UpdateRefused → List ℕ
spelled_update UnknownTable = codes "UnknownTable"
spelled_update UnknownSwitch = codes "UnknownSwitch"
spelled_update PortRange = codes "PortRange"
spelled_update (full count limit) = codes "Full " & decimal count & codes " " & decimal limit

unfoldable pub spelled_script : ScriptRefusal → List ℕ
spelled_script Grammar = codes "Grammar"
spelled_script TooLong = codes "TooLong"
spelled_script Switch = codes "Switch"

-- a line, with its line feed
abbrev pub spelled : Line → List ℕ
spelled (Open c) = codes "open c" & decimal c & codes "\n"
spelled (Closed c why) = codes "closed c" & decimal c & codes " " & spelled_why why & codes "\n"
spelled (Ready c s) = codes "ready c" & decimal c & codes " s" & decimal s & codes "\n"
spelled (State n pruned) = codes "state " & decimal n & codes " pruned " & decimal pruned & codes "\n"
spelled (RefusedUpdate kind) = codes "refused update " & spelled_update kind & codes "\n"
spelled (RefusedPolicy l c kind) = codes "refused policy " & decimal l & codes ":" & decimal c & codes " " & fault_name kind & codes "\n"
spelled (RefusedScript l kind) = codes "refused script " & decimal l & codes " " & spelled_script kind & codes "\n"
spelled (Error c kind code) = codes "error c" & decimal c & codes " " & decimal kind & codes " " & decimal code & codes "\n"
spelled (Quiet s retired) = codes "quiet s" & decimal s & codes " retired " & decimal retired & codes "\n"
spelled (Malformed c kind) = codes "malformed c" & decimal c & codes " " & decimal kind & codes "\n"
spelled (TooBig c n) = codes "toobig c" & decimal c & codes " " & decimal n & codes "\n"
spelled (Overload c) = codes "overload c" & decimal c & codes "\n"
spelled (Answer s p decision learnt) =
    codes "answer s" & decimal s & codes " " & decimal p & codes " " & spelled_decision s decision & codes " " & spelled_learnt learnt & codes "\n"
spelled (Spent s p) = codes "spent s" & decimal s & codes " " & decimal p & codes "\n"
spelled (Stale job) = codes "stale " & decimal job & codes "\n"
spelled (Hit c p actions) = codes "hit c" & decimal c & codes " " & decimal p & codes " " & spelled_actions actions & codes "\n"
spelled (Miss c p reason) = codes "miss c" & decimal c & codes " " & decimal p & codes " " & decimal reason & codes "\n"
spelled (Turned c n) = codes "turned c" & decimal c & codes " " & decimal n & codes "\n"
spelled (Settled n) = codes "settled " & decimal n & codes "\n"
spelled (Unsettled n) = codes "unsettled " & decimal n & codes "\n"
spelled (Absent c) = codes "absent c" & decimal c & codes "\n"
spelled (Gone c) = codes "gone c" & decimal c & codes "\n"
spelled (Present c) = codes "present c" & decimal c & codes "\n"
spelled (Rule s priority actions of) =
    codes "rule s" & decimal s & codes " " & decimal priority & codes " " & spelled_actions actions & codes " " & spelled_match of & codes "\n"
spelled (Rules s n) = codes "rules s" & decimal s & codes " " & decimal n & codes "\n"
spelled End = codes "end\n"
