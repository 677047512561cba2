-- What stands in the wildcards for a number, by the test that it is not fixed.
use Rattle.std.proofs.Common.{◌≡◌, ℕ, Bool, true, false}
use Rattle.std.specs.Prelude.{Option, Some, None, not, is_some, if◌then◌else◌}
use Rattle.of10_codec.specs.Written.{wild}

pub wild_by_test : (worth : ℕ) (o : Option ℕ) (test : Bool) (bits : ℕ) → is_some o ≡ not test → bits ≡ (if test then worth else 0) → bits ≡ wild worth o
wild_by_test worth None true bits e b = b
wild_by_test worth None false bits e b = absurd (cc)
wild_by_test worth (Some v) true bits e b = absurd (cc)
wild_by_test worth (Some v) false bits e b = b
