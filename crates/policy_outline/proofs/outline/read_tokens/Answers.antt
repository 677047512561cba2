use Rattle.std.proofs.Common.{◌≡◌, ◌≤◌, length, Some, sym, subst, ◌∙◌, arith}
use Rattle.std.proofs.lemmas.Bool.{false≢true}
use Rattle.std.proofs.lemmas.List.{length-map}
use Rattle.policy_grammar.specs.Reading.{plain, Runs}
use Rattle.policy_grammar.proofs.Progress.{runs_to_end, stops_at_end}
use Rattle.policy_outline.specs.Outlining.{Advances}
use Rattle.policy_outline.proofs.Growing.{outlines_next}
use Rattle.policy_outline.proofs.outline.read_tokens.Goals as goal
use Rattle.policy_outline.proofs.outline.read_tokens.Goals.{then-is_at_end, else-is_at_end}

pub loop-index-preserved : goal.loop-index-preserved
loop-index-preserved c =
    let placed = c.index-tokens-index.result in
    let s = c.loop-index.reader in
    let n = c.in-Some.next in
    let es = c.loop-index.events.items in
    let us = c.read.new.events.items in
    let k = c.loop-index.counter in
    let d = c.read.new.counter in
    let r : Advances (Some n) placed.token s es us k d = subst (λ o. Advances o placed.token s es us k d) c.in-Some.is c.in_ok-next.ensures.read in
    outlines_next c.args.tokens.now c.loop-index.index placed s n es us k d c.loop-index-test.true c.index-tokens-index.is r c.loop-index.invariant

pub returns-clause-run : goal.returns-clause-run
returns-clause-run c =
    let ts = plain c.args.tokens.now in
    let i = c.loop-index.index in
    let s = c.loop-index.reader in
    let es = c.loop-index.events.items in
    let same : length ts ≡ length c.args.tokens.now = length-map c.args.tokens.now (λ p. p.token) in
    let all : length ts ≤ i = omega (arith, c.loop-index-test.false, same) in
    elim c.if-is_at_end.branch [
      | then-is_at_end w ↦ subst (Runs ts) (sym w.wrong-is) (runs_to_end ts i s es all c.loop-index.invariant.progress (c.is_at_end.ensures.0 w.if-is_at_end.true))
      | else-is_at_end w ↦
          subst (Runs ts) (sym w.wrong-is) (stops_at_end ts i (length c.args.tokens.now) s es all (sym same) c.loop-index.invariant.progress (λ e. false≢true (sym w.if-is_at_end.false ∙ c.is_at_end.ensures.1 e)))
    ]
