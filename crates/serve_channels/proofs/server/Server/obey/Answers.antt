use Rattle.std.proofs.Common.{[], ◌∷◌, subst, sym}
use Rattle.core_machine.proofs.Hearing.{on_err}
use Rattle.serve_steps.specs.Texts.{ahead_of_refused, asked_by}
use Rattle.serve_steps.specs.Texts.Ask.{Refuses}
use Rattle.serve_channels.specs.declared.scripting.ScriptEnd.TheVariants.{Quit, Refused, Whole}
use Rattle.serve_channels.proofs.AskedFor.{AnswersBy, answers_then}
use Rattle.serve_channels.proofs.Items.{ends_so}
use Rattle.serve_channels.proofs.server.Server.obey.Goals as goal

pub returns-in-Whole-clause-goes : goal.returns-in-Whole-clause-goes
returns-in-Whole-clause-goes g c =
    let i = c.args.item.now in
    let done = c.in_ok-carry_out.ensures in
    subst (λ asks. AnswersBy asks c.args.self.now c.carry_out.new.self) (ends_so i _ Whole done.end c.in-Whole.is).0 done.goes

pub returns-in-Whole-clause-quit : goal.returns-in-Whole-clause-quit
returns-in-Whole-clause-quit g c = (ends_so c.args.item.now _ Whole c.in_ok-carry_out.ensures.end c.in-Whole.is).1

pub returns-in-Quit-clause-goes : goal.returns-in-Quit-clause-goes
returns-in-Quit-clause-goes g c =
    let i = c.args.item.now in
    let done = c.in_ok-carry_out.ensures in
    subst (λ asks. AnswersBy asks c.args.self.now c.carry_out.new.self) (ends_so i _ Quit done.end c.in-Quit.is).0 done.goes

pub returns-in-Quit-clause-quit : goal.returns-in-Quit-clause-quit
returns-in-Quit-clause-quit g c = (ends_so c.args.item.now _ Quit c.in_ok-carry_out.ensures.end c.in-Quit.is).1

pub returns-in_ok-refuse-in-Refused-clause-goes : goal.returns-in_ok-refuse-in-Refused-clause-goes
returns-in_ok-refuse-in-Refused-clause-goes g c =
    let i = c.args.item.now in
    let asks = ahead_of_refused (asked_by i) in
    let here = Refuses c.in-Refused.line c.in-Refused.kind ∷ [] in
    let done = c.in_ok-carry_out.ensures in
    let told = c.in_ok-refuse-in-Refused.ensures in
    subst (λ asks. AnswersBy asks c.args.self.now c.refuse.new.self) (ends_so i _ (Refused c.in-Refused.line c.in-Refused.kind) done.end c.in-Refused.is).0
    (answers_then asks here c.args.self.now c.carry_out.new.self c.refuse.new.self told.connections done.goes told.goes)

pub returns-in_ok-refuse-in-Refused-clause-quit : goal.returns-in_ok-refuse-in-Refused-clause-quit
returns-in_ok-refuse-in-Refused-clause-quit g c =
    (ends_so c.args.item.now _ (Refused c.in-Refused.line c.in-Refused.kind) c.in_ok-carry_out.ensures.end c.in-Refused.is).1

pub returns-in_err-refuse-in-Refused-clause-stopped : goal.returns-in_err-refuse-in-Refused-clause-stopped
returns-in_err-refuse-in-Refused-clause-stopped g c =
    on_err c.from_residual-in_err-refuse-in-Refused.result _
    (sym (ends_so c.args.item.now _ (Refused c.in-Refused.line c.in-Refused.kind) c.in_ok-carry_out.ensures.end c.in-Refused.is).1)
