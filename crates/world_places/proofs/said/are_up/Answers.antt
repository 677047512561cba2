use Rattle.std.proofs.Common.{◌≡◌, ◌+◌, false, not, List, length, get_or, sym, ap, ◌∙◌, arith}
use Rattle.std.proofs.lemmas.Bool.{false≢true}
use Rattle.maple_base.specs.declared.cells.Port.{Port}
use Rattle.world_places.proofs.Ports.{answers_no, count_up, port_at, port_up, is_port}
use Rattle.world_places.proofs.said.are_up.Goals as goal

pub returns-then-ports-count : goal.returns-then-ports-count
returns-then-ports-count c = answers_no (λ e. c.if-ports-count.true (ap length e ∙ count_up c.args.count))

pub returns-then-ne : goal.returns-then-ne
returns-then-ne c = answers_no (λ e.
    let port : get_or c.args.ports.now c.loop-i.i (record { number = 0; up = false }) ≡ port_up (c.loop-i.i + 1) =
    ap (λ (ps : List Port). get_or ps c.loop-i.i (record { number = 0; up = false })) e ∙ port_at c.args.count c.loop-i.i _ (omega arith) ∙ ap port_up (omega arith) in
    false≢true (sym (ap not (is_port _ _ port)) ∙ sym c.ne.ensures ∙ c.if-ne.true))
