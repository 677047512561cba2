use Rattle.std.proofs.Common.{◌≡◌, true, [], drop}
use Rattle.maple_base.specs.Questions.{asks_once}
use Rattle.net_cases.proofs.admission.asks_once.Given as goal

-- if the rest asks of none of the fixed fields again, all ask once
abbrev pub invariant-loop-item : goal.invariant-loop-item
invariant-loop-item l = asks_once l.fixed.items (drop l.item-index l.items) ≡ true → asks_once [] l.items ≡ true
