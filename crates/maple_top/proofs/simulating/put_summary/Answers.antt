use Rattle.std.proofs.Common.{◌≡◌, ◌++◌, ap, ◌∙◌, subst}
use Rattle.gen_script.specs.Summary.{summary_of}
use Rattle.maple_top.specs.declared.status.Status.TheVariants.{Done}
use Rattle.maple_top.specs.Ends.{Ends}
use Rattle.maple_top.proofs.Endings.{nothing_front}
use Rattle.maple_top.proofs.simulating.put_summary.Goals as goal

pub returns-clause-ends : goal.returns-clause-ends
returns-clause-ends g c =
    let summary = summary_of c.args.report.now in
    let text : c.deref.result.now ≡ summary = c.deref.ensures.value ∙ c.in-Ok.ensures.summary ∙ ap (λ b. b ++ summary) c.new-text.ensures.items in
    subst (λ t. Ends (g.O.Sink.tells c.args.output.now) (g.O.Sink.tells c.put_text.new.output) Done t c.put_text.result) text c.put_text.ensures.ends

pub returns-in_default-clause-ends : goal.returns-in_default-clause-ends
returns-in_default-clause-ends g c = nothing_front (g.O.Sink.tells c.args.output.now) (summary_of c.args.report.now)
