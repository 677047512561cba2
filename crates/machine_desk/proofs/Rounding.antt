-- One round more, and how rounds end.
use Rattle.std.proofs.Common.{◌≡◌, ℕ, Bool, true, false, List, [], ◌∷◌, ◌++◌, Result, Ok, Err, IfOk, inl, inr, refl, subst, sym}
use Rattle.std.specs.Prelude.{IsFalse, IsTrue}
use Rattle.machine_steps.specs.declared.entry.Entry.TheVariants.{OpenJobs}
use Rattle.machine_steps.specs.declared.reply.Reply.TheVariants.{Count}
use Rattle.machine_steps.specs.Waiting.{Waiting}
use Rattle.worker_crew.specs.declared.gave_up.GaveUp.{GaveUp}
use Rattle.worker_crew.specs.declared.gave_up.GaveUp.TheVariants.{NoMemory, Worn}
use Rattle.worker_crew.specs.declared.rule.Account.{Account}
use Rattle.machine_desk.specs.Desks.{DeskView, Enters, WearsOut}
use Rattle.machine_desk.specs.declared.tending.Broken.{Broken}
use Rattle.machine_desk.specs.declared.tending.Broken.TheVariants.{Own, Worker}
use Rattle.machine_desk.specs.Tending.{AsksInVain, BreaksBy, Done, GoesOn, MaySleep, Reaches, Room, Round, Rounds, Sight, Stops, StopsAsleep, StopsBeside, StopsBy, Tends, Until, WorksSo, is_reached}

-- who waits till none does may sleep wherever who waits for room may
pub sleeps_too : (r : Result Bool GaveUp) (s t : Sight) → IfOk r (λ works. GoesOn Room works s t) → IfOk r (λ works. GoesOn Done works s t)
sleeps_too (Ok true) s t works = works
sleeps_too (Ok false) s t (same, empty) = (same, tt)
sleeps_too (Err cause) s t h = tt

-- where it didn't work
pub slept : (until : Until) (works : Bool) (s t : Sight) → works ≡ false → GoesOn until works s t → (t ≡ s) × MaySleep until s.queue
slept until true s t is h = absurd (let e = is in cc)
slept until false s t is h = h

module _ (until : Until) where
  rounds_more : (ms : List Sight) (s m t : Sight) → Rounds until ms s m → Round until m t → Rounds until (ms ++ t ∷ []) s t
  rounds_more [] s m t is one = (subst (λ x. Round until x t) is one, refl)
  rounds_more (x ∷ ms) s m t (first, rest) one = (first, rounds_more ms x m t rest one)

  more : (s m t : Sight) → Tends until s m → Round until m t → Tends until s t
  more s m t tends one = record { behind = tends.behind ++ t ∷ []; rounds = rounds_more tends.behind s m t tends.rounds one }

  pub tends_not : (s : Sight) → Tends until s s
  tends_not s = record { behind = []; rounds = refl }

  module _ (s : Sight) (a b : DeskView) (q : Account Waiting) (tends : Tends until s (record { desk = a; queue = q })) where
    abbrev before : Sight
    before = record { desk = a; queue = q }

    abbrev asked : Sight
    asked = record { desk = b; queue = q }

    pub reaches_so : (count : ℕ) → Enters a OpenJobs (Count count) b → IsTrue (is_reached until count) → Reaches until s (record { desk = b; queue = q })
    reaches_so count enters reached = record { before = before; tends = tends; count = count; asks = record { enters = enters; queue = refl }; reached = reached }

    pub wears_out : WearsOut a b → StopsBy until Worn s (record { desk = b; queue = q })
    wears_out wears = record { before = before; tends = tends; fails = inl (wears, refl) }

    module _ (count : ℕ) (enters : Enters a OpenJobs (Count count) b) (too_many : IsFalse (is_reached until count)) where
      vain : AsksInVain until before asked
      vain = record { count = count; asks = record { enters = enters; queue = refl }; more = too_many }

      pub works_then : (t : Sight) → WorksSo (Ok tt) (record { desk = b; queue = q }) t → Tends until s t
      works_then t works = more s before t tends (record { asked = asked; asks = vain; works = true; goes_on = works })

      pub sleeps_then : (t : Sight) → t ≡ record { desk = b; queue = q } → MaySleep until q → Tends until s t
      sleeps_then t same may = more s before t tends (record { asked = asked; asks = vain; works = false; goes_on = (same, may) })

      pub fails_then : (t : Sight) (cause : GaveUp) → WorksSo (Err cause) (record { desk = b; queue = q }) t → StopsBy until cause s t
      fails_then t cause fails = record { before = before; tends = tends; fails = inr (record { asked = asked; asks = vain; works = fails }) }

      asleep_then : (t : Sight) → t ≡ record { desk = b; queue = q } → MaySleep until q → StopsAsleep until s t
      asleep_then t same may =
          let P : Sight → Type 0 = λ x. StopsAsleep until s x in
          subst P (sym same) (record { before = before; tends = tends; asks = vain; sleeps = may })

      -- it slept, and was told that a worker gave up
      pub told_then : (t : Sight) → t ≡ record { desk = b; queue = q } → MaySleep until q → (cause : GaveUp) (why : Broken) (d : DeskView) → BreaksBy cause why t.desk d
          → Stops until why s (record { desk = d; queue = t.queue })
      told_then t same may NoMemory why d (is, still) =
          let P : DeskView → Type 0 = λ x. StopsAsleep until s (record { desk = x; queue = t.queue }) in
          let Q : Broken → Type 0 = λ x. Stops until x s (record { desk = d; queue = t.queue }) in
          subst Q (sym is) (subst P (sym still) (asleep_then t same may))
      told_then t same may Worn (Own cause) d (is, wears) =
          let P : GaveUp → Type 0 = λ x. StopsBy until x s (record { desk = d; queue = t.queue }) in
          subst P (sym is) (record { before = t; tends = sleeps_then t same may; fails = inl (wears, refl) })
      told_then t same may Worn (Worker cause) d (is, more, asks) =
          let P : GaveUp → Type 0 = λ x. StopsBeside until x s (record { desk = d; queue = t.queue }) in
          subst P (sym is) (t, asleep_then t same may, more, record { enters = asks; queue = refl })

pub ruleset tending = (tends_not, reaches_so, wears_out, works_then, sleeps_then, fails_then, told_then)
