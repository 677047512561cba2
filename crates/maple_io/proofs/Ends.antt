-- The end of a source.
use Rattle.std.proofs.Common.{ℕ, List, [], Option, Some, None, sym, ◌∙◌}
use Rattle.std.specs.Io.KnownBytes.{Consumes, Keeps, IsAtEnd}

-- a source that is at its end after it gave nothing was there before
pub ends_before : (old new : Option (List ℕ)) → Consumes old new [] → IsAtEnd new → IsAtEnd old × Keeps old new
ends_before None new gave end = (tt, tt)
ends_before (Some xs) None gave end = absurd gave
ends_before (Some xs) (Some ys) gave end = (gave ∙ end, sym gave)
