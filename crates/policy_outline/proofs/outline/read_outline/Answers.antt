use Rattle.std.proofs.Common.{ap, subst, ◌∙◌}
use Rattle.std.proofs.lemmas.Result.{err_from_is_err_and}
use Rattle.policy_grammar.specs.Reading.{plain, ahead_of, Runs}
use Rattle.policy_outline.specs.Outlining.{counts_of}
use Rattle.policy_outline.proofs.Outlines.{stop_told, syntax_told, outline_told}
use Rattle.policy_outline.proofs.outline.read_outline.Goals as goal

pub returns-in_err-nodes-clause-fault : goal.returns-in_err-nodes-clause-fault
returns-in_err-nodes-clause-fault c =
    let ts = plain c.args.tokens.now in
    let reading = c.in_ok-reading.ensures in
    let p = err_from_is_err_and c.from_residual-in_err-nodes.result c.from_residual-in_err-nodes.ensures.1 in
    rw (p.1, p.2) (stop_told ts c.in_ok-reading.reading.wrong c.deref.result.now c.in_err-nodes.field-0.0 reading.run (c.deref.ensures.value ∙ reading.counts) c.in_err-nodes.ensures.stop)

pub returns-in-Some-clause-fault : goal.returns-in-Some-clause-fault
returns-in-Some-clause-fault c =
    let ts = plain c.args.tokens.now in
    let reading = c.in_ok-reading.ensures in
    let is = c.in-Some.is in
    syntax_told ts c.in-Some.token c.deref.result.now (subst (Runs ts) is reading.run) (c.deref.ensures.value ∙ reading.counts ∙ ap (λ w. counts_of (ahead_of w ts)) is) c.in_ok-nodes.ensures.free

pub returns-in-None-clause-outline : goal.returns-in-None-clause-outline
returns-in-None-clause-outline c =
    let ts = plain c.args.tokens.now in
    let reading = c.in_ok-reading.ensures in
    let is = c.in-None.is in
    outline_told ts c.deref.result.now c.in_ok-reading.reading.events.items c.in_ok-nodes.nodes.items (subst (Runs ts) is reading.run)
    (c.deref.ensures.value ∙ reading.counts ∙ ap (λ w. counts_of (ahead_of w ts)) is) c.in_ok-nodes.ensures.free (reading.events is) c.in_ok-nodes.ensures.nodes
