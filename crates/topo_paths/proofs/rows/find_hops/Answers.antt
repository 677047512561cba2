use Rattle.std.proofs.Common.{ℕ, ◌+◌, List, subst, arith}
use Rattle.topo_paths.specs.Levels.{IsLevel}
use Rattle.topo_paths.proofs.Levels.{level_start, level_end, settled_same, settled_all}
use Rattle.topo_paths.proofs.rows.find_hops.Goals as goal

pub loop-init : goal.loop-init
loop-init c =
    record {
      square = c.clear.ensures.square;
      masks = c.alone-reach.ensures.masks;
      level = λ switches are rise. level_start c.args.links.now switches c.args.ends.now are c.alone-reach.result c.clear.new.rows c.alone-reach.ensures.own c.clear.ensures.none;
    }

pub returns-then-not-extend-clause-hops : goal.returns-then-not-extend-clause-hops
returns-then-not-extend-clause-hops c = λ switches are rise.
    let l = c.loop.invariant.level switches are rise in
    let l' = c.extend.ensures.more switches c.loop.index are rise c.loop-test.true l in
    let same = c.extend.ensures.none c.if-not-extend.true in
    level_end c.args.links.now switches c.args.ends.now are (c.loop.index + 1) c.extend.new.reach c.extend.new.rows
    (settled_same c.args.links.now switches c.args.ends.now are c.loop.index c.loop.reach c.loop.rows c.extend.new.rows l (subst (λ (m : List ℕ). IsLevel c.args.links.now switches (c.loop.index + 1) m c.extend.new.rows) same l')) l'

pub returns-clause-hops : goal.returns-clause-hops
returns-clause-hops c = λ switches are rise.
    level_end c.args.links.now switches c.args.ends.now are c.loop.index c.loop.reach c.loop.rows (settled_all c.args.links.now switches c.args.ends.now are c.loop.index (omega (arith, c.loop-test.false))) (c.loop.invariant.level switches are rise)
