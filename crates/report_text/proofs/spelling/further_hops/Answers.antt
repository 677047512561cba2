use Rattle.std.proofs.lemmas.List.{drop_more}
use Rattle.report_text.proofs.spelling.further_hops.Goals as goal

pub loop-hop-preserved : goal.loop-hop-preserved
loop-hop-preserved g c = λ u h.
    c.loop-hop.invariant u
    (rw (drop_more c.args.hops.now c.loop-hop.hop-index (record { switch = 0; port = 0 }) c.loop-hop-test.true)
    (g.met.S.Sheet.joined _ _ _ _ _ c.text.ensures (g.met.S.Sheet.joined _ _ _ _ _ c.hop_text.ensures h)))
