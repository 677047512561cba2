-- What acts of the board leave of each connection: sends, and closing.
use Rattle.std.proofs.Common.{◌≡◌, ℕ, ◌==◌, Bool, true, false, ◌&&◌, ◌||◌, not, List, [], ◌∷◌, ◌++◌, append-nil, append_assoc, refl, sym, ap, ◌∙◌, subst}
use Rattle.std.proofs.Math.Bool.{or-false, or-true}
use Rattle.std.specs.List.{list_all}
use Rattle.std.proofs.lemmas.Bool.{and_parts, or_left}
use Rattle.std.proofs.lemmas.Grind.{flat_map-append}
use Rattle.std.proofs.lemmas.List.Folds.{list_any-append, list_all-append}
use Rattle.maple_io.specs.declared.act.Act.{Act}
use Rattle.maple_io.specs.declared.act.Act.TheVariants as acts
use Rattle.maple_io.specs.Boards.{is_closing, is_opening, sent, sent_in, was_closed, was_opened}
use Rattle.serve_steps.specs.Runs.{taken_report}
use Rattle.serve_steps.specs.Deeds.{Past, acts_of, bytes_of, has_failed, inputs_of, is_open, is_over, taken_of, turns_of, was_accepted, was_cut}
use Rattle.serve_steps.specs.Deeds.Deed.{Does}
use Rattle.serve_steps.specs.Parts.{is_quiet}
use Rattle.serve_channels.specs.Stretches.{IsQuietly}
use Rattle.serve_channels.specs.declared.connection.Connection.{Connection}
use Rattle.serve_channels.specs.Keeping.{Agrees}
use Rattle.serve_channels.specs.Servers.{number_of}
use Rattle.serve_channels.proofs.Alike.{IsAlike, heard_same}

-- ---- acts, one behind the other

-- these acts were done behind what was done
abbrev pub did : List Act → Past → Past
did [] past = past
did (a ∷ more) past = did more (Does a ∷ past)

pub did_on : (more : List Act) (done ahead : Past) → did more done ++ ahead ≡ did more (done ++ ahead)
did_on [] done ahead = refl
did_on (a ∷ more) done ahead = did_on more (Does a ∷ done) ahead

pub did_last : (more : List Act) (a : Act) (past : Past) → did (more ++ a ∷ []) past ≡ Does a ∷ did more past
did_last [] a past = refl
did_last (b ∷ more) a past = did_last more a (Does b ∷ past)

pub acts_did : (more : List Act) (past : Past) → acts_of (did more past) ≡ acts_of past ++ more
acts_did [] past = sym (append-nil (acts_of past))
acts_did (a ∷ more) past = acts_did more (Does a ∷ past) ∙ append_assoc (acts_of past) (a ∷ []) more

pub turns_did : (more : List Act) (past : Past) → turns_of (did more past) ≡ turns_of past
turns_did [] past = refl
turns_did (a ∷ more) past = turns_did more (Does a ∷ past) ∙ append-nil (turns_of past)

-- nothing of the report is taken
pub unread_did : (more : List Act) (past : Past) → taken_report (did more past) ≡ taken_report past
unread_did [] past = refl
unread_did (a ∷ more) past = unread_did more (Does a ∷ past) ∙ append-nil (taken_report past)

-- ---- what stays of each connection

-- all but what was sent, whether a send failed, and whether it was closed
pub record Stays (c : ℕ) (old new : Past) : Type 0 where
  pub accepted : was_accepted c new ≡ was_accepted c old
  pub over : is_over c new ≡ is_over c old
  pub cut : was_cut c new ≡ was_cut c old
  pub taken : taken_of c new ≡ taken_of c old
  pub inputs : inputs_of c new ≡ inputs_of c old
  pub bytes : bytes_of c new ≡ bytes_of c old
  pub opened : was_opened c (acts_of new) ≡ was_opened c (acts_of old)

-- an act that is no turn and no start
abbrev pub is_quiet_act : Act → Bool
is_quiet_act act = is_quiet (Does act)

none_opened : (c : ℕ) (act : Act) (log : List Act) → is_opening c act ≡ false → was_opened c (log ++ act ∷ []) ≡ was_opened c log
none_opened c act log e = list_any-append (is_opening c) log (act ∷ []) ∙ ap (λ (b : Bool). was_opened c log || (b || false)) e ∙ or-false (was_opened c log)

stays_by : (c : ℕ) (act : Act) (past : Past) → is_opening c act ≡ false → bytes_of c (Does act ∷ past) ≡ bytes_of c past → Stays c past (Does act ∷ past)
stays_by c act past unopened bytes = record {
  accepted = refl;
  over = refl;
  cut = refl;
  taken = append-nil (taken_of c past);
  inputs = append-nil (inputs_of c past);
  bytes = bytes;
  opened = none_opened c act (acts_of past) unopened;
}

pub stays_one : (c : ℕ) (act : Act) (past : Past) → is_quiet_act act ≡ true → Stays c past (Does act ∷ past)
stays_one c (acts.Takes d bytes answer) past quiet = stays_by c (acts.Takes d bytes answer) past refl refl
stays_one c (acts.Closes d) past quiet = stays_by c (acts.Closes d) past refl refl
stays_one c (acts.Starts listen control) past quiet = absurd (cc quiet)
stays_one c (acts.Gives t bytes) past quiet = absurd (cc quiet)

pub stays_then : (c : ℕ) (a b d : Past) → Stays c a b → Stays c b d → Stays c a d
stays_then c a b d h i = record {
  accepted = i.accepted ∙ h.accepted;
  over = i.over ∙ h.over;
  cut = i.cut ∙ h.cut;
  taken = i.taken ∙ h.taken;
  inputs = i.inputs ∙ h.inputs;
  bytes = i.bytes ∙ h.bytes;
  opened = i.opened ∙ h.opened;
}

pub stays_same : (c : ℕ) (past : Past) → Stays c past past
stays_same c past = record { accepted = refl; over = refl; cut = refl; taken = refl; inputs = refl; bytes = refl; opened = refl }

pub stays_did : (c : ℕ) (more : List Act) (past : Past) → list_all is_quiet_act more ≡ true → Stays c past (did more past)
stays_did c [] past quiet = stays_same c past
stays_did c (a ∷ more) past quiet =
    let parts = and_parts (is_quiet_act a) (list_all is_quiet_act more) quiet in
    stays_then c past (Does a ∷ past) (did more (Does a ∷ past)) (stays_one c a past parts.0) (stays_did c more (Does a ∷ past) parts.1)

-- ---- what is kept of it

pub open_same : (c : ℕ) (old new : Past) → Stays c old new → is_open c new ≡ is_open c old
open_same c old new h = ap (λ (a : Bool). a && not (is_over c new)) h.accepted ∙ ap (λ (o : Bool). was_accepted c old && not o) h.over

-- what is kept of a connection whose queue alone changed agrees, if the queue does
pub agrees_on : (old new : Past) (k l : Connection) → l ≡ record k { queue = l.queue } → l.queue.number ≡ k.queue.number → Stays (number_of k) old new → Agrees old k
    → taken_of (number_of k) old ≡ sent (number_of k) (acts_of new) ++ l.queue.rest → l.queue.failed ≡ has_failed (number_of k) new
    → was_closed (number_of k) (acts_of new) ≡ false → Agrees new l
agrees_on old new k l is number h a step failed closed =
    subst (λ (x : Connection). Agrees new x) (sym is) (record {
      queue = number ∙ a.queue;
      begun = a.begun;
      live = open_same (number_of k) old new h ∙ a.live;
      over = h.over ∙ a.over;
      cut = a.cut ∙ sym h.cut;
      step = h.taken ∙ step;
      failed = failed;
      heard = λ live. heard_same (number_of k) old new k.inbound.from.stream h.inputs h.bytes (a.heard live);
      opened = h.opened ∙ a.opened;
      closed = closed;
    })

-- with the same sent to it, and as many failed sends
pub alike_of : (c : ℕ) (old new : Past) → Stays c old new → sent c (acts_of new) ≡ sent c (acts_of old) → has_failed c new ≡ has_failed c old
    → was_closed c (acts_of new) ≡ was_closed c (acts_of old) → IsAlike c old new
alike_of c old new h same failed closed = record {
  accepted = h.accepted;
  over = h.over;
  cut = h.cut;
  failed = failed;
  inputs = h.inputs;
  taken = h.taken;
  sent_is = same;
  closed = closed;
  opened = λ was. h.opened ∙ was;
}

-- ---- an act that does nothing with a connection, but that bytes may come, or that it may be opened

none_closed : (c : ℕ) (act : Act) (log : List Act) → is_closing c act ≡ false → was_closed c (log ++ act ∷ []) ≡ was_closed c log
none_closed c act log e = list_any-append (is_closing c) log (act ∷ []) ∙ ap (λ (b : Bool). was_closed c log || (b || false)) e ∙ or-false (was_closed c log)

none_sent : (c : ℕ) (act : Act) (log : List Act) → sent_in c act ≡ [] → sent c (log ++ act ∷ []) ≡ sent c log
none_sent c act log e = flat_map-append (sent_in c) log (act ∷ []) ∙ ap (λ (xs : List ℕ). sent c log ++ (xs ++ [])) e ∙ append-nil (sent c log)

pub act_alike : (c : ℕ) (act : Act) (past : Past) → sent_in c act ≡ [] → has_failed c (Does act ∷ past) ≡ has_failed c past → is_closing c act ≡ false
    → IsAlike c past (Does act ∷ past)
act_alike c act past unsent failed unclosed = record {
  accepted = refl;
  over = refl;
  cut = refl;
  failed = failed;
  inputs = append-nil (inputs_of c past);
  taken = append-nil (taken_of c past);
  sent_is = none_sent c act (acts_of past) unsent;
  closed = none_closed c act (acts_of past) unclosed;
  opened = λ was. list_any-append (is_opening c) (acts_of past) (act ∷ []) ∙ or_left (was_opened c (acts_of past)) (was_opened c (act ∷ [])) was;
}

-- ---- a connection is closed

pub closing_own : (c : ℕ) (log : List Act) → (c == c) ≡ true → was_closed c (log ++ acts.Closes c ∷ []) ≡ true
closing_own c log e = list_any-append (is_closing c) log (acts.Closes c ∷ []) ∙ ap (λ (b : Bool). was_closed c log || (b || false)) e ∙ or-true (was_closed c log)

pub closing_stays : (c d : ℕ) (past : Past) → Stays c past (Does (acts.Closes d) ∷ past)
closing_stays c d past = stays_one c (acts.Closes d) past refl

pub closing_alike : (c d : ℕ) (past : Past) → (d == c) ≡ false → IsAlike c past (Does (acts.Closes d) ∷ past)
closing_alike c d past e = act_alike c (acts.Closes d) past refl refl e

-- ---- the log

pub quietly_none : (log : List Act) → IsQuietly log log
quietly_none log = record { acts = []; log = sym (append-nil log); quiet = refl }

pub quietly_then : (a b d : List Act) → IsQuietly a b → IsQuietly b d → IsQuietly a d
quietly_then a b d h k = record {
  acts = h.acts ++ k.acts;
  log = k.log ∙ ap (λ (l : List Act). l ++ k.acts) h.log ∙ append_assoc a h.acts k.acts;
  quiet = list_all-append (λ (act : Act). is_quiet (Does act)) h.acts k.acts
      ∙ ap (λ (b : Bool). b && list_all (λ (act : Act). is_quiet (Does act)) k.acts) h.quiet ∙ k.quiet;
}
