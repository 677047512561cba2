-- The law of traces, how many items a trace has, how it ends, and the values that are asked of.
use Rattle.std.proofs.Common.{◌≡◌, ℕ, ◌-◌, ◌≤◌, Bool, true, arith, [], length, refl, sym, ap, ◌∙◌, subst}
use Rattle.std.specs.Prelude.{◌==◌, ◌&&◌, if◌then◌else◌, List, ◌∷◌}
use Rattle.std.specs.List.{list_all}
use Rattle.std.proofs.lemmas.Bool.{and_parts, cond_both}
use Rattle.maple_base.specs.declared.key.Key.{Key}
use Rattle.maple_base.specs.declared.cells.Cell.{Cell}
use Rattle.maple_base.specs.declared.cells.Cell.TheVariants.{Host, Hop, Up, Num}
use Rattle.maple_base.specs.declared.cells.Value.{Value}
use Rattle.maple_base.specs.declared.decision.Outcome.{Outcome}
use Rattle.maple_base.specs.Keys.{field_of, valid_key, anything}
use Rattle.maple_base.specs.Questions.{within_domain}
use Rattle.maple_base.specs.Kinds.{of_kind, blank_value}
use Rattle.policy_meaning.specs.Asking.{Asking, Done, AsksField, AsksTest, AsksCell}
use Rattle.policy_meaning.specs.Cells.{Gives, is_of_kind}
use Rattle.policy_meaning.specs.Readings.{outcome_in, items_of, cells_of}
use Rattle.policy_meaning.specs.Through.{through, nothing}
use Rattle.policy_meaning.specs.QuestionLaws.{AsEvaluated, AsksAtMost, AsksFew, EndsWithin, TracesEndSo, TestsWithin, LawOfTraces}
use Rattle.policy_meaning.proofs.Traces.{owns, alike}
use Rattle.policy_meaning.proofs.Rightly.{right_within, right_unsettled, right_once, knows_nothing, right_normal}
use Rattle.policy_meaning.proofs.Valid.{domain_of}
use Rattle.policy_meaning.proofs.Follows.{Follows, follows}

follows_all : (c : Asking Outcome) (k : Key) (env : Cell → Value)
    → valid_key k ≡ true → Follows k env nothing (length (items_of c k env)) (outcome_in c k env) (through c nothing)
follows_all c k env valid = follows k env valid c nothing (record { items = refl; cells = tt })

pub as_evaluated : AsEvaluated
as_evaluated c k env valid = (follows_all c k env valid).answer

at_most : {A : Type 0} (c : Asking A) (n : ℕ) (k : Key) (env : Cell → Value) → AsksAtMost n c → length (items_of c k env) ≤ n
at_most (Done a) n k env h = omega arith
at_most (AsksField f by) n k env h = omega (arith, h.0, at_most (by (field_of k f)) (n - 1) k env (h.1 (field_of k f)))
at_most (AsksTest f v by) n k env h = omega (arith, h.0, at_most (by (field_of k f == v)) (n - 1) k env (h.1 (field_of k f == v)))
at_most (AsksCell c by) n k env h = at_most (by (env c)) n k env (h (env c))

pub asks_few : AsksFew
asks_few c n k env h valid = omega (arith, (follows_all c k env valid).few, at_most c n k env h)

pub values_within : {A : Type 0} (c : Asking A) (k : Key) (env : Cell → Value) → TestsWithin c → valid_key k ≡ true → list_all within_domain (items_of c k env) ≡ true
values_within (Done a) k env h valid = refl
values_within (AsksField f by) k env h valid =
    ap (λ x. x && list_all within_domain (items_of (by (field_of k f)) k env)) (domain_of k f valid) ∙ values_within (by (field_of k f)) k env (h (field_of k f)) valid
values_within (AsksTest f v by) k env h valid =
    ap (λ x. x && list_all within_domain (items_of (by (field_of k f == v)) k env)) h.0 ∙ values_within (by (field_of k f == v)) k env (h.1 (field_of k f == v)) valid
values_within (AsksCell c by) k env h valid = values_within (by (env c)) k env (h (env c)) valid

pub law_of_traces : LawOfTraces
law_of_traces c k env valid =
    let f = follows_all c k env valid in
    let is = items_of (through c nothing) k env in
    let own = owns (through c nothing) k env in record {
      law = λ l right met other g.
          let a = alike (through c nothing) k l env other met g in record {
            items = a.items;
            cells = a.cells;
            outcome = sym (as_evaluated c l other right) ∙ a.outcome ∙ f.answer;
          };
      valid = valid;
      own = own.items;
      some = (env, own.cells);
      within = right_within is [] f.items;
      normal = right_normal is anything [] knows_nothing refl f.items;
      unsettled = right_unsettled is [] f.items;
      once = right_once is [] [] (λ g. refl) f.items;
      cells = f.cells;
    }

-- an environment in which each cell has a value of its kind: that of this one, where it is
kindly : (Cell → Value) → Cell → Value
kindly env c = if of_kind c (env c) then env c else blank_value c

blank_kind : (c : Cell) → of_kind c (blank_value c) ≡ true
blank_kind (Host m) = refl
blank_kind (Hop from to) = refl
blank_kind (Up switch port) = refl
blank_kind (Num table key) = refl

kindly_kind : (env : Cell → Value) (c : Cell) → of_kind c (kindly env c) ≡ true
unfolding kindly
kindly_kind env c = cond_both (of_kind c (env c)) (env c) (blank_value c) (λ v. of_kind c v ≡ true) (λ e. e) (λ e. blank_kind c)

kindly_gives : (cs : List (Cell × Value)) (env : Cell → Value) → Gives env cs → list_all is_of_kind cs ≡ true → Gives (kindly env) cs
unfolding kindly
kindly_gives [] env g h = tt
kindly_gives (c ∷ cs) env g h =
    let q = and_parts (is_of_kind c) (list_all is_of_kind cs) h in
    let e : of_kind c.0 (env c.0) ≡ true = ap (of_kind c.0) g.0 ∙ q.0 in
    (ap (λ b. if b then env c.0 else blank_value c.0) e ∙ g.0, kindly_gives cs env g.1 q.1)

ends_within : (such : Outcome → Bool) (c : Asking Outcome) (k : Key) (env : Cell → Value)
    → ((d : Cell) → of_kind d (env d) ≡ true) → EndsWithin such c → such (outcome_in c k env) ≡ true
ends_within such (Done o) k env kind h = h
ends_within such (AsksField f by) k env kind h = ends_within such (by (field_of k f)) k env kind (h (field_of k f))
ends_within such (AsksTest f v by) k env kind h = ends_within such (by (field_of k f == v)) k env kind (h (field_of k f == v))
ends_within such (AsksCell c by) k env kind h = ends_within such (by (env c)) k env kind (h (env c) (kind c))

-- the law of traces, in the environment of the cells that were asked in which the others are of their kinds too
pub traces_end_so : TracesEndSo
traces_end_so such c k env h valid kinds =
    let t = law_of_traces c k env valid in
    let cs = cells_of (through c nothing) k env in
    let a = t.law k valid t.own (kindly env) (kindly_gives cs env (owns (through c nothing) k env).cells kinds) in
    subst (λ o. such o ≡ true) a.outcome (ends_within such c k (kindly env) (kindly_kind env) h)
