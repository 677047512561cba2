use Rattle.std.proofs.Common.{true, false, ap, sym, ◌∙◌, get_or}
use Rattle.std.specs.FinSet as set
use Rattle.maple_base.specs.declared.cells.Port.{Port}
use Rattle.env_cells.proofs.Sets.{listed_up-more}
use Rattle.env_cells.proofs.up_ports.UpPorts.listed.Goals as goal
use Rattle.env_cells.proofs.up_ports.UpPorts.listed.Goals.{then-is_listed_up+in_ok-insert, else-is_listed_up}

pub loop-port-preserved : goal.loop-port-preserved
loop-port-preserved c =
    let d : Port = record { number = 0; up = false } in
    let more = listed_up-more c.args.ports.now c.loop-port.port-index d in
    elim c.if-is_listed_up.branch [
      | then-is_listed_up+in_ok-insert w ↦
          w.up-is ∙ w.in_ok-insert.ensures.ok
          ∙ ap (λ s. set.insert s (get_or c.args.ports.now c.loop-port.port-index d).number) c.loop-port.invariant
          ∙ more true c.loop-port-test.true (sym w.if-is_listed_up.ensures)
      | else-is_listed_up w ↦ w.up-is ∙ c.loop-port.invariant ∙ more false c.loop-port-test.true (sym w.if-is_listed_up.ensures)
    ]
