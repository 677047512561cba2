-- What is never sent wasn't taken out.
use Rattle.std.proofs.Common.{◌≡◌, ℕ, ◌==◌, Bool, true, false, if◌then◌else◌, List, [], ◌∷◌, ◌++◌, Option, Some, None, refl, sym, ap, ◌∙◌, ⊎_elim}
use Rattle.std.specs.Option.{option_or}
use Rattle.std.proofs.lemmas.Grind.{flat_map-append}
use Rattle.maple_io.specs.declared.act.Act.TheVariants as acts
use Rattle.maple_io.specs.declared.board.Sent.{Sent}
use Rattle.maple_io.specs.declared.board.Sent.TheVariants as sends
use Rattle.maple_io.specs.Boards.{sent, sent_in}
use Rattle.serve_steps.specs.Deeds.{Deed, Past, acts_of, act_in, answer_to, fails, has_failed, last_answer}
use Rattle.serve_steps.specs.Deeds.Deed.{Enters, Does}
use Rattle.serve_steps.specs.Parts.{Part, deeds_of, is_held, was_held}
use Rattle.serve_steps.specs.Laws.{NeverSends}

none_of_two : {A : Type 0} (a b : Option A) → option_or a b ≡ None → (a ≡ None) × (b ≡ None)
none_of_two None b e = (refl, e)
none_of_two (Some a) b e = absurd (cc)

unanswered_on : (c : ℕ) (done ahead : Past) → last_answer c (done ++ ahead) ≡ None → (last_answer c done ≡ None) × (last_answer c ahead ≡ None)
unanswered_on c [] ahead e = (refl, e)
unanswered_on c (d ∷ done) ahead e = (
  rw ((none_of_two (answer_to c d) (last_answer c (done ++ ahead)) e).0) ((unanswered_on c done ahead (none_of_two (answer_to c d) (last_answer c (done ++ ahead)) e).1).0),
  (unanswered_on c done ahead (none_of_two (answer_to c d) (last_answer c (done ++ ahead)) e).1).1,
)

held_none : (c : ℕ) (first : Past) (parts : List Part) → last_answer c (deeds_of first parts) ≡ None → was_held c parts ≡ false
held_none c first [] e = refl
held_none c first (p ∷ ahead) e =
    rw ((unanswered_on c p.done (Does (acts.Gives p.given p.bytes) ∷ deeds_of first ahead) e).0)
    (held_none c first ahead (unanswered_on c p.done (Does (acts.Gives p.given p.bytes) ∷ deeds_of first ahead) e).1)

is_held_none : (c : ℕ) (first : Past) (ahead : List Part) (p : Part) → last_answer c (deeds_of first (p ∷ ahead)) ≡ None → is_held c p ahead ≡ false
is_held_none c first ahead p e =
    rw ((unanswered_on c p.done (Does (acts.Gives p.given p.bytes) ∷ deeds_of first ahead) e).0)
    (held_none c first ahead (unanswered_on c p.done (Does (acts.Gives p.given p.bytes) ∷ deeds_of first ahead) e).1)

no_bytes : (bytes : List ℕ) (answer : Sent) (own : Bool) → (if own then Some answer else None) ≡ None → (if own then bytes else []) ++ [] ≡ []
no_bytes bytes answer true e = absurd (cc)
no_bytes bytes answer false e = refl

not_own : (answer : Sent) (own : Bool) → (if own then Some answer else None) ≡ None → own ≡ false
not_own answer true e = absurd (cc)
not_own answer false e = refl

sends_none : (c : ℕ) (d : Deed) → answer_to c d ≡ None → sent c (act_in d) ≡ []
sends_none c (Enters t) e = refl
sends_none c (Does (acts.Starts listen control)) e = refl
sends_none c (Does (acts.Gives t bytes)) e = refl
sends_none c (Does (acts.Takes d bytes answer)) e = no_bytes bytes answer (d == c) e
sends_none c (Does (acts.Closes d)) e = refl

fails_none : (c : ℕ) (d : Deed) → answer_to c d ≡ None → fails c d ≡ false
fails_none c (Does (acts.Takes d bytes sends.Failed)) e = not_own sends.Failed (d == c) e
fails_none c d e = refl

nothing_sent : (c : ℕ) (past : Past) → last_answer c past ≡ None → sent c (acts_of past) ≡ []
nothing_sent c [] e = refl
nothing_sent c (d ∷ past) e =
    flat_map-append (sent_in c) (acts_of past) (act_in d)
    ∙ ap (λ (xs : List ℕ). xs ++ sent c (act_in d)) (nothing_sent c past (none_of_two (answer_to c d) (last_answer c past) e).1)
    ∙ sends_none c d (none_of_two (answer_to c d) (last_answer c past) e).0

none_failed : (c : ℕ) (past : Past) → last_answer c past ≡ None → has_failed c past ≡ false
none_failed c [] e = refl
none_failed c (d ∷ past) e =
    rw (fails_none c d (none_of_two (answer_to c d) (last_answer c past) e).0) (none_failed c past (none_of_two (answer_to c d) (last_answer c past) e).1)

not_both : (b : Bool) → b ≡ false → b ≡ true → ⊥
not_both true e f = absurd (cc)
not_both false e f = absurd (cc)

pub never_sends : NeverSends
never_sends first ahead p c is none uncut =
    ⊎_elim
    (λ e. sym e ∙ nothing_sent c (deeds_of first (p ∷ ahead)) none)
    (λ later. ⊎_elim
    (λ e. absurd (not_both (has_failed c (deeds_of first (p ∷ ahead))) (none_failed c (deeds_of first (p ∷ ahead)) none) e))
    (λ last. ⊎_elim (λ e. absurd (not_both _ uncut e)) (λ e. absurd (not_both (is_held c p ahead) (is_held_none c first ahead p none) e)) last)
    later)
    (is.all_sent c)
