use Rattle.std.proofs.lemmas.List.{drop_more}
use Rattle.report_text.proofs.spelling.further_ports.Goals as goal

pub loop-port-preserved : goal.loop-port-preserved
loop-port-preserved g c = λ u h.
    c.loop-port.invariant u
    (rw (drop_more c.args.ports.now c.loop-port.port-index 0 c.loop-port-test.true)
    (g.met.S.Sheet.joined _ _ _ _ _ c.text.ensures (g.met.S.Sheet.joined _ _ _ _ _ c.number.ensures h)))
