use Rattle.std.proofs.Common.{Some, ◌∙◌, arith}
use Rattle.std.specs.Int.{w64, trailing_zeros}
use Rattle.std.proofs.lemmas.List.{length-set}
use Rattle.topo_paths.proofs.Masks.{taken, taken_less, written_more, rows_set}
use Rattle.topo_paths.proofs.rows.write_hops.Goals as goal

pub loop-left-smaller : goal.loop-left-smaller
loop-left-smaller c = taken_less c.loop-left.left _ (trailing_zeros w64 c.loop-left.left) (taken c.loop-left.left (omega arith) (omega arith))

pub loop-left-preserved : goal.loop-left-preserved
loop-left-preserved c =
    let t = taken c.loop-left.left (omega arith) (omega arith) in
    record {
      square = length-set c.loop-left.rows _ _ ∙ c.loop-left.invariant.square;
      rows = rows_set c.loop-left.rows (trailing_zeros w64 c.loop-left.left) c.args.from (Some c.args.hop) c.loop-left.invariant.rows;
      rest = λ to at lt la. written_more c.loop-left.rows c.args.from c.args.hop c.loop-left.left _ (trailing_zeros w64 c.loop-left.left) c.loop-left.invariant.square (c.loop-left.invariant.rows (trailing_zeros w64 c.loop-left.left) (omega (arith, t.within, c.loop-left.invariant.square))) c.requires.from t to at lt ∙ c.loop-left.invariant.rest to at lt la;
    }
