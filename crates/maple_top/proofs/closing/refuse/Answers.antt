use Rattle.std.proofs.Common.{◌≡◌, ◌++◌, ap, ◌∙◌, subst}
use Rattle.report_text.specs.Report.{spelled}
use Rattle.report_text.specs.declared.line.Line.TheVariants.{RefusedScript}
use Rattle.maple_top.specs.declared.status.Status.TheVariants.{Script}
use Rattle.maple_top.specs.Ends.{Ends}
use Rattle.maple_top.proofs.Endings.{nothing_front}
use Rattle.maple_top.proofs.closing.refuse.Goals as goal

pub returns-clause-ends : goal.returns-clause-ends
returns-clause-ends g c =
    let line = spelled (RefusedScript c.args.line c.args.kind) in
    let text : c.deref.result.now ≡ line = c.deref.ensures.value ∙ c.in-Ok.ensures.line ∙ ap (λ b. b ++ line) c.new-text.ensures.items in
    subst (λ t. Ends (g.O.Sink.tells c.args.output.now) (g.O.Sink.tells c.put_text.new.output) Script t c.put_text.result) text c.put_text.ensures.ends

pub returns-in_default-clause-ends : goal.returns-in_default-clause-ends
returns-in_default-clause-ends g c = nothing_front (g.O.Sink.tells c.args.output.now) (spelled (RefusedScript c.args.line c.args.kind))
