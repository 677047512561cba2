-- The command of a line, as the grammar has it and as it is read.
use Rattle.std.proofs.Common.{◌≡◌, ℕ, ◌+◌, ◌≤◌, ◌^◌, Bool, true, false, cond, eqb, List, [], ◌∷◌, Option, Some, None, refl, sym, ap, ◌∙◌, subst, ⊎_elim, arith}
use Rattle.std.specs.Prelude.{IfSome, IfOk, Result, Ok, Err, nat_le}
use Rattle.std.specs.Option.{option_and_then}
use Rattle.std.specs.List.{join_with_byte}
use Rattle.std.specs.Str.{bytes_eq}
use Rattle.std.proofs.lemmas.Bool.{cases_Bool, eqb-true}
use Rattle.std.proofs.lemmas.Slice.Eq.{bytes_eq-Decides}
use Rattle.maple_base.specs.declared.cells.Place.{Place}
use Rattle.maple_base.specs.Keys.{anything}
use Rattle.maple_base.specs.Names.{is_name}
use Rattle.maple_text.specs.Numbers.{value_of}
use Rattle.script_text.specs.declared.command.Command.{Command}
use Rattle.script_text.specs.declared.command.Command.TheVariants.{Nothing, Plug, Unplug, Packet, Frame, Turn, Settle, Host, NoHost, Link, NoLink, Set, Unset, NewPolicy, Rules, Quit}
use Rattle.script_text.specs.declared.verb.Verb.{Verb}
use Rattle.script_text.specs.declared.verb.Verb.TheVariants.{Plug as plug, Unplug as unplug, Packet as packet, Frame as frame, Turn as turn, Settle as settle, Host as host, NoHost as nohost, Link as link, NoLink as nolink, Set as set_, Unset as unset, NewPolicy as newpolicy, Rules as rules_, Quit as quit}
use Rattle.script_text.specs.Laws.{OneCommand, ReadsLines}
use Rattle.script_text.specs.Grammar.{IsNoLine, IsFrameLine, IsLine, EmptyLine, CommentLine, PlugLine, UnplugLine, PacketLine, FrameLine, TurnLine, SettleLine, HostLine, NoHostLine, LinkLine, NoLinkLine, SetLine, UnsetLine, NewPolicyLine, RulesLine, QuitLine}
use Rattle.script_text.specs.Hexadecimal.{are_pairs, paired_bytes}
use Rattle.script_text.specs.PacketFields.{key_by, is_packet}
use Rattle.script_text.specs.FieldReading.{named_by, packet_of}
use Rattle.script_text.specs.Reading.{port_of, address_of, turns_of, most_turns, place_of, frame_words, command_of, is_silent, words_command, line_command, holds_bytes}
use Rattle.script_text.specs.Spelling.{AreWords, IsNumber, IsPort, IsTurns, IsPlace, AreFields}
use Rattle.script_text.specs.Verbs.{word_of, all_verbs, verb_among, verb_of}
use Rattle.script_text.specs.Words.{number_below, name_of}
use Rattle.script_text.proofs.Cuts.{parts_of, cut_parts, is_cut}
use Rattle.script_text.proofs.FieldWords.{fields_are, fields_back}
use Rattle.script_text.proofs.Options.{of_and_then, has_it, number_is, number_back, if_is}
use Rattle.script_text.proofs.Pairs.{are_pairs_of, are_pairs_back}

verb_is : (vs : List Verb) (word : List ℕ) (v : Verb) → verb_among vs word ≡ Some v → word ≡ word_of v
verb_is [] word v e = absurd (cc e)
verb_is (u ∷ us) word v e =
    ⊎_elim
    (λ t.
    let q : u ≡ v = cc (e, ap (λ x. cond x (Some u) (verb_among us word)) t) in
    sym ((bytes_eq-Decides (word_of u) word).0 t) ∙ ap word_of q)
    (λ t. verb_is us word v (sym (ap (λ x. cond x (Some u) (verb_among us word)) t) ∙ e))
    (cases_Bool (bytes_eq (word_of u) word))

turns_are : (word : List ℕ) (n : ℕ) → turns_of word ≡ Some n → IsTurns word n
turns_are word n e = go (number_below (most_turns + 1) word) refl e
  where
    go : (o : Option ℕ) → number_below (most_turns + 1) word ≡ o → option_and_then (λ n. cond (nat_le 1 n) (Some n) None) o ≡ Some n → IsTurns word n
    go None h e = absurd (cc e)
    go (Some m) h e =
        let k = number_is (most_turns + 1) word m h in
        let s : (1 ≤ m) × (m ≡ n) = grind (arith, e) in
        (k.0 ∙ ap Some s.1, grind (arith, s.0, s.1), grind (arith, k.1, s.1))

turns_back : (word : List ℕ) (n : ℕ) → IsTurns word n → turns_of word ≡ Some n
turns_back word n t = let b = number_back (most_turns + 1) word n t.0 (omega (arith, t.2)) in rw b (grind (arith, t.1))

place_is : (s p : List ℕ) → IfSome (place_of s p) (IsPlace s p)
place_is s p =
    of_and_then (IsPlace s p) _ (value_of s) (λ n e.
    of_and_then (IsPlace s p) _ (port_of p) (λ m g.
    record { of_switch = e; of_port = number_is (2 ^ 16) p m g }))

place_back : (s p : List ℕ) (place : Place) → IsPlace s p place → place_of s p ≡ Some place
place_back s p place i = let port = number_back (2 ^ 16) p place.port i.of_port.0 i.of_port.1 in rw (i.of_switch, port) refl

pub record HasFrame (c p digits : List ℕ) (w : ℕ × ℕ × List ℕ) : Type 0 where
  device : IsNumber c w.0
  port : IsPort p w.1
  pairs : are_pairs digits ≡ true
  same : digits ≡ w.2

frame_is : (c p digits : List ℕ) → IfSome (frame_words (c ∷ p ∷ digits ∷ [])) (HasFrame c p digits)
frame_is c p digits =
    of_and_then (HasFrame c p digits) _ (value_of c) (λ n e.
    of_and_then (HasFrame c p digits) _ (port_of p) (λ m g. go n m e (number_is (2 ^ 16) p m g) (are_pairs digits) refl))
  where
    go : (n m : ℕ) → IsNumber c n → IsPort p m → (b : Bool) → are_pairs digits ≡ b → IfSome (cond b (Some (n, m, digits)) None) (HasFrame c p digits)
    go n m e g true h = record { device = e; port = g; pairs = h; same = refl }
    go n m e g false h = tt

-- the words after a verb
said : (line : List ℕ) (v : Verb) (ws : List (List ℕ)) → AreWords line (word_of v ∷ ws) → IfSome (command_of v ws) (IsLine line)
said line plug (c ∷ []) a = of_and_then (IsLine line) _ (value_of c) (λ n e. PlugLine a e)
said line plug ws a = tt
said line unplug (c ∷ []) a = of_and_then (IsLine line) _ (value_of c) (λ n e. UnplugLine a e)
said line unplug ws a = tt
said line packet (c ∷ p ∷ ws) a =
    of_and_then (IsLine line) _ (value_of c) (λ device e.
    of_and_then (IsLine line) _ (port_of p) (λ port g.
    of_and_then (IsLine line) _ (named_by ws anything) (λ named h.
    of_and_then (IsLine line) _ (packet_of (key_by port named)) (λ key k.
    let packet = if_is (is_packet (key_by port named)) (key_by port named) key k in
    let fields = has_it (AreFields anything ws) (named_by ws anything) named h (fields_are ws anything) in
    subst (λ x. IsLine line (Packet device x)) packet.1 (PacketLine a e (number_is (2 ^ 16) p port g) fields packet.0)))))
said line packet ws a = tt
said line frame (c ∷ p ∷ digits ∷ []) a =
    of_and_then (IsLine line) _ (frame_words (c ∷ p ∷ digits ∷ [])) (λ w e.
    let h = has_it (HasFrame c p digits) (frame_words (c ∷ p ∷ digits ∷ [])) w e (frame_is c p digits) in
    let pairs = are_pairs_of digits h.pairs in
    subst (λ x. IsLine line (Frame w.0 w.1 (paired_bytes x))) h.same (FrameLine a h.device h.port pairs.0 pairs.1))
said line frame ws a = tt
said line turn (c ∷ n ∷ []) a = of_and_then (IsLine line) _ (value_of c) (λ device e. of_and_then (IsLine line) _ (turns_of n) (λ turns g. TurnLine a e (turns_are n turns g)))
said line turn ws a = tt
said line settle [] a = SettleLine a
said line settle ws a = tt
said line host (m ∷ s ∷ p ∷ []) a =
    of_and_then (IsLine line) _ (address_of m) (λ n e.
    of_and_then (IsLine line) _ (place_of s p) (λ place g. HostLine a (number_is (2 ^ 48) m n e) (has_it (IsPlace s p) (place_of s p) place g (place_is s p))))
said line host ws a = tt
said line nohost (m ∷ []) a = of_and_then (IsLine line) _ (address_of m) (λ n e. NoHostLine a (number_is (2 ^ 48) m n e))
said line nohost ws a = tt
said line link (s ∷ p ∷ to_s ∷ to_p ∷ []) a =
    of_and_then (IsLine line) _ (place_of s p) (λ from e.
    of_and_then (IsLine line) _ (place_of to_s to_p) (λ to g.
    LinkLine a (has_it (IsPlace s p) (place_of s p) from e (place_is s p)) (has_it (IsPlace to_s to_p) (place_of to_s to_p) to g (place_is to_s to_p))))
said line link ws a = tt
said line nolink (s ∷ p ∷ []) a = of_and_then (IsLine line) _ (place_of s p) (λ from e. NoLinkLine a (has_it (IsPlace s p) (place_of s p) from e (place_is s p)))
said line nolink ws a = tt
said line set_ (name ∷ k ∷ v ∷ []) a =
    of_and_then (IsLine line) _ (name_of name) (λ n e.
    of_and_then (IsLine line) _ (value_of k) (λ key g.
    of_and_then (IsLine line) _ (value_of v) (λ value h.
    let named = if_is (is_name name) name n e in
    subst (λ x. IsLine line (Set x key value)) named.1 (SetLine a named.0 g h))))
said line set_ ws a = tt
said line unset (name ∷ k ∷ []) a =
    of_and_then (IsLine line) _ (name_of name) (λ n e.
    of_and_then (IsLine line) _ (value_of k) (λ key g.
    let named = if_is (is_name name) name n e in
    subst (λ x. IsLine line (Unset x key)) named.1 (UnsetLine a named.0 g)))
said line unset ws a = tt
said line newpolicy [] a = NewPolicyLine a
said line newpolicy ws a = tt
said line rules_ (s ∷ []) a = of_and_then (IsLine line) _ (value_of s) (λ n e. RulesLine a e)
said line rules_ ws a = tt
said line quit [] a = QuitLine a
said line quit ws a = tt

words_said : (line : List ℕ) (ws : List (List ℕ)) → AreWords line ws → IfSome (words_command ws) (IsLine line)
words_said line [] a = tt
words_said line (w ∷ ws) a =
    of_and_then (IsLine line) _ (verb_of w) (λ v e. said line v ws (subst (λ x. AreWords line (x ∷ ws)) (verb_is all_verbs w v e) a))

-- the command that is read is the line's
pub line_said : (line : List ℕ) → IfSome (line_command line) (IsLine line)
line_said [] = EmptyLine refl
line_said (b ∷ bs) =
    let words = words_command (parts_of 32 (b ∷ bs)) in
    let P : Bool → Type 0 = λ t. IfSome (cond t (Some Nothing) words) (IsLine (b ∷ bs)) in
    ⊎_elim
    (λ t. subst P (sym t) (CommentLine bs (ap (λ x. x ∷ bs) (eqb-true b 35 t))))
    (λ t. subst P (sym t) (words_said (b ∷ bs) (parts_of 32 (b ∷ bs)) (is_cut 32 (b ∷ bs))))
    (cases_Bool (eqb b 35))

verb_back : (v : Verb) → verb_of (word_of v) ≡ Some v
verb_back plug = refl
verb_back v = refl

no_comment : (v : Verb) (ws : List (List ℕ)) → is_silent (join_with_byte 32 (word_of v ∷ ws)) ≡ false
no_comment plug [] = refl
no_comment plug (w ∷ ws) = refl
no_comment v [] = refl
no_comment v (w ∷ ws) = refl

worded : (line : List ℕ) (v : Verb) (ws : List (List ℕ)) (c : Command) → AreWords line (word_of v ∷ ws) → command_of v ws ≡ Some c → line_command line ≡ Some c
worded line v ws c a e =
    let silent : is_silent line ≡ false = ap is_silent a.joined ∙ no_comment v ws in
    let words = cut_parts 32 line (word_of v) ws a in
    let verb = verb_back v in
    rw (silent, words, verb) e

-- the line's command is read
pub line_back : {line : List ℕ} {c : Command} → IsLine line c → line_command line ≡ Some c
line_back (EmptyLine e) = ap line_command e
line_back (CommentLine text e) = ap line_command e
line_back {line} (PlugLine {c} {device} a e) = worded line plug (c ∷ []) (Plug device) a (rw e refl)
line_back {line} (UnplugLine {c} {device} a e) = worded line unplug (c ∷ []) (Unplug device) a (rw e refl)
line_back {line} (PacketLine {c} {p} {fields} {device} {port} {named} a e g h k) =
    let port_read = number_back (2 ^ 16) p port g.0 g.1 in
    let fields_read = fields_back h in
    worded line packet (c ∷ p ∷ fields) (Packet device (key_by port named)) a (rw (e, port_read, fields_read, k) refl)
line_back {line} (FrameLine {c} {p} {digits} {device} {port} {bytes} a e g h some) =
    let port_read = number_back (2 ^ 16) p port g.0 g.1 in
    let pairs = are_pairs_back digits bytes h some in
    worded line frame (c ∷ p ∷ digits ∷ []) (Frame device port bytes) a (rw (e, port_read, pairs.0, pairs.1) refl)
line_back {line} (TurnLine {c} {n} {device} {turns} a e g) = let t = turns_back n turns g in worded line turn (c ∷ n ∷ []) (Turn device turns) a (rw (e, t) refl)
line_back {line} (SettleLine a) = worded line settle [] Settle a refl
line_back {line} (HostLine {m} {s} {p} {address} {place} a e g) =
    let m_read = number_back (2 ^ 48) m address e.0 e.1 in
    let place_read = place_back s p place g in
    worded line host (m ∷ s ∷ p ∷ []) (Host address place) a (rw (m_read, place_read) refl)
line_back {line} (NoHostLine {m} {address} a e) = let m_read = number_back (2 ^ 48) m address e.0 e.1 in worded line nohost (m ∷ []) (NoHost address) a (rw m_read refl)
line_back {line} (LinkLine {s} {p} {to_s} {to_p} {from} {to} a e g) =
    let from_read = place_back s p from e in
    let to_read = place_back to_s to_p to g in
    worded line link (s ∷ p ∷ to_s ∷ to_p ∷ []) (Link from to) a (rw (from_read, to_read) refl)
line_back {line} (NoLinkLine {s} {p} {from} a e) = let from_read = place_back s p from e in worded line nolink (s ∷ p ∷ []) (NoLink from) a (rw from_read refl)
line_back {line} (SetLine {name} {k} {v} {key} {value} a n e g) = worded line set_ (name ∷ k ∷ v ∷ []) (Set name key value) a (rw (n, e, g) refl)
line_back {line} (UnsetLine {name} {k} {key} a n e) = worded line unset (name ∷ k ∷ []) (Unset name key) a (rw (n, e) refl)
line_back {line} (NewPolicyLine a) = worded line newpolicy [] NewPolicy a refl
line_back {line} (RulesLine {s} {switch} a e) = worded line rules_ (s ∷ []) (Rules switch) a (rw e refl)
line_back {line} (QuitLine a) = worded line quit [] Quit a refl

pub reads_lines : ReadsLines
reads_lines line c = ((λ e. has_it (IsLine line) (line_command line) c e (line_said line)), line_back)

pub one_command : OneCommand
one_command line c d h k = let e : Some c ≡ Some d = sym (line_back h) ∙ line_back k in cc e

pub none_said : (line : List ℕ) → line_command line ≡ None → IsNoLine line
none_said line e c h = absurd (cc (e, line_back h))

pub none_back : (line : List ℕ) → IsNoLine line → line_command line ≡ None
none_back line h = go (line_command line) refl
  where
    go : (o : Option Command) → line_command line ≡ o → line_command line ≡ None
    go None e = e
    go (Some c) e = absurd (h c (has_it (IsLine line) (line_command line) c e (line_said line)))

pub frame_said : (line : List ℕ) → holds_bytes (line_command line) ≡ true → IsFrameLine line
frame_said line h = go (line_command line) (line_said line) h
  where
    go : (o : Option Command) → IfSome o (IsLine line) → holds_bytes o ≡ true → IsFrameLine line
    go None i e = absurd (cc e)
    go (Some (Frame device port bytes)) i e = (device, port, bytes, i)
    go (Some c) i e = absurd (cc e)

pub said_by : {E : Type 0} (line : List ℕ) (r : Result Command E) → IfOk r (λ c. line_command line ≡ Some c) → IfOk r (IsLine line)
said_by line (Ok c) e = has_it (IsLine line) (line_command line) c e (line_said line)
said_by line (Err x) e = tt
