use Rattle.std.proofs.Common.{ℕ, List, get_or, sym, ◌∙◌, subst, arith}
use Rattle.std.proofs.lemmas.Bool.{both_ways}
use Rattle.std.proofs.lemmas.List.{get_or_default}
use Rattle.topo_paths.specs.declared.rows.Ends.{Ends}
use Rattle.topo_paths.specs.Walks.{Link}
use Rattle.topo_paths.specs.Levels.{IsLevel, IsGrown}
use Rattle.topo_paths.proofs.Levels.{grown_more, grown_end}
use Rattle.topo_paths.proofs.rows.extend.Goals as goal
use Rattle.topo_paths.proofs.rows.extend.Goals.{then-join, else-join}

pub loop-i-preserved : goal.loop-i-preserved
loop-i-preserved c =
    let links = c.args.links.now in
    let ends = c.args.ends.now in
    let link : Link = get_or links c.loop-i.i (record { switch = 0; port = 0 }, record { switch = 0; port = 0 }) in
    let e : Ends = get_or ends c.loop-i.i (record { from = 0; to = 0 }) in
    record {
      square = c.join.ensures.square;
      masks = c.join.ensures.masks;
      grown' = λ switches level are l. grown_more links switches ends are level c.loop-i.i link e c.copy_from_slice.new.self c.loop-i.reach c.join.new.reach c.args.rows.now c.loop-i.rows c.join.new.rows c.loop-i-test.true (get_or_default links c.loop-i.i link _ c.loop-i-test.true) (get_or_default ends c.loop-i.i e _ (omega (arith, c.loop-i-test.true, c.requires.long))) l c.join.ensures.joined (c.loop-i.invariant.grown' switches level are l);
      none = elim c.if-join.branch [
        | then-join w ↦ λ h. absurd (both_ways _ h w.grown-is)
        | else-join w ↦ λ h. c.join.ensures.none w.if-join.false ∙ c.loop-i.invariant.none (sym w.grown-is ∙ h)
      ];
    }

pub returns-clause-more : goal.returns-clause-more
returns-clause-more c = λ switches level are rise short l.
    let l' = subst (λ (m : List ℕ). IsLevel c.args.links.now switches level m c.args.rows.now) (sym c.copy_from_slice.ensures.after) l in
    grown_end c.args.links.now switches c.args.ends.now are level c.loop-i.reach c.loop-i.rows rise
    (subst (λ n. IsGrown c.args.links.now switches level n c.loop-i.reach c.loop-i.rows) (omega (arith, c.loop-i-test.false, c.loop-i.auto.i-end)) (c.loop-i.invariant.grown' switches level are l'))
