-- The turns of calls, one behind the other.
use Rattle.std.proofs.Common.{◌≡◌, List, [], ◌∷◌, ◌++◌, suc, length, map, refl, ap}
use Rattle.history_lock.specs.Histories.{state_behind}
use Rattle.machine_steps.specs.Machine.{State}
use Rattle.machine_sharing.specs.Legal.{call_of, turn_of, turns_of}
use Rattle.machine_sharing.specs.Sharing.{Call}

pub turns_append : (m : State) (xs ys : List Call) → turns_of m (xs ++ ys) ≡ turns_of m xs ++ turns_of (state_behind m xs) ys
turns_append m [] ys = refl
turns_append m (x ∷ xs) ys = ap (λ ts. turn_of m x ∷ ts) (turns_append x.behind xs ys)

pub calls_same : (m : State) (log : List Call) → map call_of (turns_of m log) ≡ log
calls_same m [] = refl
calls_same m (e ∷ es) = ap (λ cs. e ∷ cs) (calls_same e.behind es)

pub turns_length : (m : State) (log : List Call) → length (turns_of m log) ≡ length log
turns_length m [] = refl
turns_length m (e ∷ es) = ap suc (turns_length e.behind es)

pub nothing_behind : {X : Type 0} (xs ys : List X) → xs ++ ys ≡ xs → ys ≡ []
nothing_behind [] ys e = e
nothing_behind (x ∷ xs) ys e = nothing_behind xs ys (let same = e in cc)
