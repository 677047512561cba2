use Rattle.std.proofs.Common.{rules}
use Rattle.script_text.specs.Lines.{ended_lines, without_end}
use Rattle.script_text.specs.Orders.{order_of}
use Rattle.script_text.specs.Steps.{Asks, IsStop}
use Rattle.script_text.proofs.Nexts.{leads, halted}
use Rattle.script_text.proofs.next.next_order.Goals as goal

pub returns-clause-order : goal.returns-clause-order
returns-clause-order c =
    let asks : Asks (order_of c.args.places (without_end c.cut_line.result.0.now)) c.in_ok-step.step = rw c.without_end.ensures at c.in_ok-step.ensures.step in
    rw c.cut_line.ensures.lines (leads c.args.places c.cut_line.result.0.now (ended_lines c.cut_line.result.1.now) c.in_ok-step.step _ _ _ asks c.text_behind-lines.ensures.behind)

pub returns-in_err-step-clause-stop : goal.returns-in_err-step-clause-stop
returns-in_err-step-clause-stop c =
    let stops : IsStop (order_of c.args.places (without_end c.cut_line.result.0.now)) c.in_err-step.field-0.0 = rw c.without_end.ensures at c.in_err-step.ensures.stop in
    let halts = halted c.args.places c.cut_line.result.0.now (ended_lines c.cut_line.result.1.now) c.in_err-step.field-0.0 stops in
    let from = c.from_residual in
    rw c.cut_line.ensures.lines (search (rules, halts))
