-- The parts of the pass for the queue stay, whatever a driver does about packets that wait.
use Rattle.std.proofs.Common.{◌≡◌, ◌⊎◌, ℕ, Bool, true, false, List, [], ◌∷◌, Result, Ok, Err, inl, inr, ap, ◌∙◌}
use Rattle.std.specs.Prelude.{IfErr, OnOk}
use Rattle.machine_steps.specs.Waiting.{Waiting}
use Rattle.worker_crew.specs.declared.gave_up.GaveUp.{GaveUp}
use Rattle.worker_crew.specs.declared.gave_up.GaveUp.TheVariants as gave_up
use Rattle.worker_crew.specs.Takers.{Taker, shares}
use Rattle.machine_desk.specs.Desks.{DeskView}
use Rattle.machine_desk.specs.declared.tending.Broken.{Broken}
use Rattle.machine_desk.specs.declared.tending.Broken.TheVariants.{Own, Worker}
use Rattle.machine_desk.specs.Tending.{FailsToAsk, FailsToWork, GoesOn, Reaches, Rounds, Sight, Stops, StopsAsleep, Until, at}

abbrev pub parts : Sight → ℕ
parts s = s.queue.parts

module _ (until : Until) where
  goes_on : (works : Bool) (s t : Sight) → GoesOn until works s t → parts t ≡ parts s
  goes_on true s t works = ap (λ q. q.parts) works.makes.takes.after
  goes_on false s t (same, may) = ap parts same

  rounds : (ms : List Sight) (s t : Sight) → Rounds until ms s t → parts t ≡ parts s
  rounds [] s t same = ap parts same
  rounds (m ∷ ms) s t (one, rest) = rounds ms m t rest ∙ goes_on one.works one.asked m one.goes_on ∙ ap (λ q. q.parts) one.asks.asks.queue

  pub parts_reached : (s t : Sight) → Reaches until s t → parts t ≡ parts s
  parts_reached s t r = ap (λ q. q.parts) r.asks.queue ∙ rounds r.tends.behind s r.before r.tends.rounds

  unasked : (cause : GaveUp) (s t : Sight) → FailsToAsk cause s t → parts t ≡ parts s
  unasked gave_up.Worn s t (wears, same) = ap (λ q. q.parts) same
  unasked gave_up.NoMemory s t fails = absurd fails

  failed : (cause : GaveUp) (s t : Sight) → FailsToAsk cause s t ⊎ FailsToWork until cause s t → parts t ≡ parts s
  failed cause s t (inl f) = unasked cause s t f
  failed cause s t (inr f) = ap (λ q. q.parts) f.works.makes.takes.after ∙ ap (λ q. q.parts) f.asks.asks.queue

  asleep : (s t : Sight) → StopsAsleep until s t → parts t ≡ parts s
  asleep s t r = ap (λ q. q.parts) r.asks.asks.queue ∙ rounds r.tends.behind s r.before r.tends.rounds

  pub parts_stopped : (why : Broken) (s t : Sight) → Stops until why s t → parts t ≡ parts s
  parts_stopped (Own cause) s t r = failed cause r.before t r.fails ∙ rounds r.tends.behind s r.before r.tends.rounds
  parts_stopped (Worker gave_up.NoMemory) s t r = asleep s t r
  parts_stopped (Worker gave_up.Worn) s t (m, r, count, asks) = ap (λ q. q.parts) asks.queue ∙ asleep s m r

  -- however it ended
  pub parts_waited : (result : Result (Unit {0}) Broken) (a b : DeskView) (p q : Taker Waiting) → OnOk result (Reaches until (at a p) (at b q))
      → IfErr result (λ why. Stops until why (at a p) (at b q)) → shares q ≡ shares p
  parts_waited (Ok done) a b p q reaches stops = parts_reached (at a p) (at b q) reaches
  parts_waited (Err why) a b p q reaches stops = parts_stopped why (at a p) (at b q) stops
