-- Room and memory for all turns of a run, by what who drove it knows, and by how who worked beside it ended.
use Rattle.std.proofs.Common.{◌≡◌, ⊎_elim, ap, arith, ℕ, Bool, true, false, List, [], ◌∷◌, ◌++◌, length, refl, sym, ◌∙◌, subst}
use Rattle.std.specs.Prelude.{◌≢◌, Ok, Err}
use Rattle.std.specs.List.{AllByRecursion}
use Rattle.history_lock.specs.Histories.{AreAllPositions, AreAllowed, Replays, state_behind}
use Rattle.history_lock.proofs.States.{replays_cut}
use Rattle.machine_steps.specs.declared.entry.Input.{Input}
use Rattle.machine_steps.specs.declared.reply.Reply.TheVariants.{NoMemory}
use Rattle.machine_steps.specs.Histories.{Turn}
use Rattle.machine_steps.specs.Machine.{State}
use Rattle.machine_steps.specs.Waiting.{Waiting}
use Rattle.machine_sharing.specs.Legal.{turns_of}
use Rattle.machine_sharing.specs.Sharing.{Allows, Call, Turns}
use Rattle.machine_desk.specs.Arriving.{OthersFindRoom, TakesIn, is_packet}
use Rattle.machine_desk.specs.Desks.{NoneOverflows}
use Rattle.machine_desk.proofs.Turning.{turns_append}
use Rattle.packet_workers.specs.Adding.{PassView}
use Rattle.packet_workers.specs.Crewing.{Makes}
use Rattle.worker_crew.specs.declared.gave_up.GaveUp.{GaveUp}
use Rattle.worker_crew.specs.declared.rule.Account.{Account}
use Rattle.worker_crew.specs.Tasks.{Toiled, Worked}
use Rattle.machine_desk.specs.Crews.{EndsOf, ended_with, given_up, joined}
use Rattle.machine_desk.specs.Homes.{HasRoom, Home, LeavesNone}
use Rattle.machine_desk.specs.Runs.{IsSmoothFor}
use Rattle.machine_desk.proofs.HadMemory.{had_at_all, had_joined}

-- ---- by how the workers ended

module _ {E : Type 0} (ends : EndsOf E) (short : (cause : GaveUp) → ends.is_whole (given_up ends cause) ≡ false) where
  -- a run that came to its end beside workers did so with all of them
  pub whole_joined : (end : E) (told : Worked) → ends.is_whole (joined ends end told) ≡ true → (ends.is_whole end ≡ true) × (done : Unit {0}) × (told ≡ Ok done)
  whole_joined end told whole = go (ends.is_whole end) refl told whole
    where
      go : (b : Bool) → ends.is_whole end ≡ b → (w : Worked) → ends.is_whole (ended_with (given_up ends) b end w) ≡ true
          → (ends.is_whole end ≡ true) × (done : Unit {0}) × (w ≡ Ok done)
      go true e (Ok done) all = (e, done, refl)
      go true e (Err cause) all = (let f : false ≡ true = sym (short cause) ∙ all in absurd (cc))
      go false e w all = (let f : false ≡ true = sym e ∙ all in absurd (cc))

  -- and memory sufficed for each turn where it did for each call of who drove it
  pub memory_joined : (end : E) (outcome : Worked) (start : State) (budget : ℕ) (mine x : PassView) (account w : Account Waiting)
      → IsSmoothFor (ends.is_whole end) (turns_of start mine.seen) mine.own → Toiled (λ item told made. Makes budget item told made) mine account outcome x w
      → AreAllPositions (length x.seen) x.own → ends.is_whole (joined ends end outcome) ≡ true
      → AllByRecursion (λ (t : Turn). t.reply ≢ NoMemory) (turns_of start x.seen)
  memory_joined end outcome start budget mine x account w smooth toiled all whole =
      let is = whole_joined end outcome whole in
      let went_on = subst (λ (o : Worked). Toiled (λ item told made. Makes budget item told made) mine account o x w) is.2 toiled in
      had_at_all start x.seen x.own (had_joined start budget mine x account w is.1 went_on (smooth.memory is.0)) all

-- ---- behind what others did

none_then : (xs ys : List Turn) → NoneOverflows xs → NoneOverflows ys → NoneOverflows (xs ++ ys)
none_then [] ys h k = k
none_then (x ∷ xs) ys (one, h) k = (one, none_then xs ys h k)

-- there was room for each packet, too
pub room_joined : OthersFindRoom → (start : State) (seen rest : List Call) (m : State) → Replays Turns start (seen ++ rest) m → AreAllowed Allows seen rest
    → NoneOverflows (turns_of start seen) → NoneOverflows (turns_of start (seen ++ rest))
room_joined others start seen rest m all allowed none =
    let mid = state_behind start seen in
    let later = others seen rest mid m allowed (replays_cut Turns start seen rest m all).1 in
    subst NoneOverflows (sym (turns_append start seen rest)) (none_then (turns_of start seen) (turns_of mid rest) none later)

-- ---- ahead of a packet

-- who works alone has none that waits
pub takes_in : {D : Type 0} (home : Home D) (input : Input) (driver : D) → (is_packet input ≡ true → HasRoom home driver)
    → LeavesNone home driver → TakesIn input (home.desk driver).now
takes_in home input driver room none packet =
    ⊎_elim (λ alone. (let empty : length (home.desk driver).now.jobs ≡ 0 = ap length (none alone) in omega (arith, empty))) (λ few. few) (room packet)
