-- Runs at other ends, and ends that are none.
use Rattle.std.proofs.Common.{◌≡◌, ℕ, ◌==◌, true, false, List, [], ◌∷◌, Some, None, refl, sym, inl, inr, ⊎_elim}
use Rattle.std.proofs.lemmas.Bool.{cases_Bool}
use Rattle.maple_base.specs.declared.decision.Settings.{Settings}
use Rattle.policy_lang.specs.declared.Policy.{Policy}
use Rattle.std.specs.Fmt.{digits}
use Rattle.report_text.specs.declared.line.ScriptRefusal.{ScriptRefusal}
use Rattle.report_text.specs.declared.line.ScriptRefusal.TheVariants.{Grammar}
use Rattle.maple_io.specs.declared.act.Act.{Act}
use Rattle.serve_steps.specs.Deeds.{turns_of}
use Rattle.serve_steps.specs.Parts.{IsDelivered, deeds_of}
use Rattle.serve_tries.specs.Row.{first_row, part1, part2}
use Rattle.serve_tries.specs.Ends.{DoneTooSoon, FirstFails, Gathers, GoesOn, LacksMemory, PassesOver, RefusesNone, RefusesWithout, StartFails, StartsBehindQuit, ThirdFails, Unwritten, WriteFails, lacking}
use Rattle.serve_tries.proofs.Smooth.{smooth}
use Rattle.serve_tries.proofs.Row.{first_is, part1_is, part2_is}

pub start_fails : StartFails
start_fails p s =
    (record { stops = record { ahead = tt; last = (record { asked = tt; memory = refl }, refl, tt, inl refl); not_ended = refl }; text_is = refl }, smooth false [] refl)

pub first_fails : FirstFails
first_fails p s =
    (record { stops = record { ahead = tt; last = (record { asked = tt; memory = refl }, refl, (tt, tt), inr refl); not_ended = refl }; text_is = refl }, smooth false [] refl)

one_is : digits 10 false 1 ≡ 49 ∷ []
unfolding digits
one_is = refl

pub third_fails : ThirdFails
third_fails p s = (
  record {
    stops = record { ahead = (part1_is p s, first_is p s); last = ((part2_is p s).asked, (part2_is p s).free); not_ended = refl };
    text_is = rw one_is refl;
  },
  smooth false (turns_of (deeds_of first_row (part2 p s ∷ part1 p s ∷ []))) refl,
)

pub write_fails : WriteFails
write_fails p s = (
  record { ahead = (part1_is p s, first_is p s); written = ([], rw one_is refl); front = ([], rw one_is refl) },
  smooth false (turns_of (deeds_of first_row (part2 p s ∷ part1 p s ∷ []))) refl,
)

never : false ≡ true → ⊥
never e = absurd (cc)

ever : true ≡ false → ⊥
ever e = absurd (cc)

pub done_too_soon : DoneTooSoon
done_too_soon p s text is = never is.ended

pub goes_on : GoesOn
goes_on p s text is = ever is.all.0.asked.goes_on

lacking_delivers : (p : Policy) (s : Settings) → IsDelivered first_row (part2 p s ∷ part1 p s ∷ []) (lacking p s)
lacking_delivers p s = record {
  taken = λ c. ⊎_elim (λ e. rw e (λ served. refl)) (λ e. rw e (λ served. absurd (cc))) (cases_Bool (1 == c));
  in_order = (tt, (tt, tt));
  all_sent = λ c. inl (⊎_elim (λ e. rw e refl) (λ e. rw e refl) (cases_Bool (1 == c)));
  closed = λ c. ⊎_elim (λ e. rw e refl) (λ e. rw e refl) (cases_Bool (1 == c));
}

pub lacks_memory : LacksMemory
lacks_memory p s = (
  record {
    asked = record { goes_on = refl; asked = tt; memory = refl; while_open = (refl, (refl, tt)); told = refl; none_due = refl };
    free = (tt, (tt, tt));
    delivered = lacking_delivers p s;
    worked = λ none. refl;
  },
  λ text is. (is.1.memory refl).1.1.1.1.1.0 refl,
)

pub refuses_without : RefusesWithout
refuses_without p s text is = (is.1.memory refl).1.0 refl

begins : (x : ℕ) (xs : List ℕ) → [] ≡ x ∷ xs → ⊥
begins x xs e = absurd (cc)

pub gathers : Gathers
gathers p s is = begins 111 _ (sym is.written.1)

pub unwritten : Unwritten
unwritten p s is = begins 111 _ is.text_is

some_is : (n : ℕ × ScriptRefusal) → Some n ≡ None → ⊥
some_is n e = absurd (cc)

none_is : (n : ℕ × ScriptRefusal) → None ≡ Some n → ⊥
none_is n e = absurd (cc)

pub passes_over : PassesOver
passes_over p s text is = some_is (4, Grammar) is.all.none_refused

pub refuses_none : RefusesNone
refuses_none p s line text is = none_is (line, Grammar) is.refused

starts : (a : Act) (rest : List Act) → a ∷ rest ≡ [] → ⊥
starts a rest e = absurd (cc)

pub starts_behind_quit : StartsBehindQuit
starts_behind_quit p s text is = starts _ _ is.all.started
