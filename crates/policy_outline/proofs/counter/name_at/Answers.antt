use Rattle.std.proofs.Common.{◌<◌, ◌≤◌, length, refl, sym, ⊎_elim, arith}
use Rattle.std.proofs.lemmas.Bool.{cases_lt, false≢true}
use Rattle.policy_outline.specs.Counting.{with_name}
use Rattle.policy_outline.proofs.Growing.{set_at, past_at}
use Rattle.policy_outline.proofs.counter.name_at.Goals as goal

pub returns-in-Some : goal.returns-in-Some
returns-in-Some c =
    let cs = c.args.counts.now.items in
    let within : c.args.token < length cs = omega (arith, c.args.counts.now.ok.0, c.get_mut.ensures.variant.0, c.in-Some.ensures.variant.0 refl) in
    set_at (λ d. with_name c.args.name d) cs c.args.token c.in-Some.count.now c.name_behind.new.self within c.in-Some.ensures.value c.name_behind.ensures

pub returns-in_default : goal.returns-in_default
returns-in_default c =
    let cs = c.args.counts.now.items in
    let n = c.args.token in
    let past : length cs ≤ n = ⊎_elim (λ (lt : n < length cs). absurd (false≢true (c.in_default.ensures.variant.1 (omega (arith, c.args.counts.now.ok.0, lt))))) (λ (le : length cs ≤ n). le) (cases_lt n (length cs)) in
    sym (past_at (λ d. with_name c.args.name d) cs n past)
