-- What an update answers, and what it leaves.
use Rattle.std.specs.Prelude.{◌≡◌, Result, Ok, Err, Option, Some, None}
use Rattle.env_cells.specs.declared.updates.Update.{Update}
use Rattle.maple_base.specs.declared.update_refused.UpdateRefused.{UpdateRefused}
use Rattle.env_cells.specs.declared.updates.UpdateError.{UpdateError}
use Rattle.env_cells.specs.declared.updates.UpdateError.TheVariants.{Refused, NoMemory}
use Rattle.env_cells.specs.Environment.{Environment}
use Rattle.env_cells.specs.Changes.{applied}
use Rattle.env_cells.specs.Refusals.{refusal_of}

-- an update that is accepted is made; one that is refused for the first reason there is, or for want of memory, changes nothing
abbrev pub Answers : Environment → Update → Result (Unit {0}) UpdateError → Environment → Type 0
Answers old u (Ok x) new = (refusal_of old u ≡ None) × (new ≡ applied old u)
Answers old u (Err (Refused r)) new = (refusal_of old u ≡ Some r) × (new ≡ old)
Answers old u (Err NoMemory) new = new ≡ old

-- the answer tells whether there is a reason to refuse
abbrev pub Tells : Result (Unit {0}) UpdateRefused → Option UpdateRefused → Type 0
Tells (Ok x) refusal = refusal ≡ None
Tells (Err r) refusal = refusal ≡ Some r
