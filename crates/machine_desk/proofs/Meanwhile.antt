-- What the machine did meanwhile, put together.
use Rattle.std.proofs.Common.{◌≡◌, ◌⊎◌, ℕ, Bool, true, false, List, [], ◌∷◌, ◌++◌, length, inl, inr, ap, append-nil, append_assoc, arith, refl, subst, sym, ◌∙◌}
use Rattle.std.specs.Prelude.{◌==◌, IsTrue}
use Rattle.std.proofs.lemmas.Bool.Decides.{nat_tests}
use Rattle.history_lock.specs.Histories.{AreAllowed}
use Rattle.machine_steps.specs.declared.entry.Entry.TheVariants.{OpenJobs}
use Rattle.machine_steps.specs.declared.job.Job.{Job}
use Rattle.machine_steps.specs.declared.reply.Reply.TheVariants.{Count}
use Rattle.machine_steps.specs.Histories.{Leads, Turn}
use Rattle.machine_steps.specs.Machine.{State}
use Rattle.machine_steps.specs.Sound.{IsSound}
use Rattle.machine_steps.specs.Waiting.{Waiting}
use Rattle.worker_crew.specs.declared.gave_up.GaveUp.{GaveUp}
use Rattle.worker_crew.specs.declared.gave_up.GaveUp.TheVariants as gave_up
use Rattle.machine_sharing.specs.Between.{NothingChanges}
use Rattle.machine_sharing.specs.Legal.{TurnsAreCalls, call_of}
use Rattle.machine_sharing.specs.Sharing.{Allows, Call}
use Rattle.packet_workers.specs.declared.worked.Worked.{Worked}
use Rattle.machine_desk.specs.Desks.{DeskView, Enters, WearsOut, calls_of, turn}
use Rattle.machine_desk.specs.Working.{Works}
use Rattle.machine_desk.specs.declared.tending.Broken.{Broken}
use Rattle.machine_desk.specs.declared.tending.Broken.TheVariants.{Own, Worker}
use Rattle.machine_desk.specs.declared.tending.Handed.{Handed}
use Rattle.machine_desk.specs.declared.tending.Handed.TheVariants.{Queued, Worked as WorkedAtOnce}
use Rattle.machine_desk.specs.Laws.{Meanwhile, TendingIsAllowed}
use Rattle.machine_desk.specs.Tending.{Done, FailsToAsk, FailsToWork, GoesOn, HandsOver, Reaches, Round, Rounds, Sight, Stops, StopsAsleep, TakesAndWorks, Until, is_reached}

-- ---- one behind the other

pub leads_then : (m : State) (xs ys : List Turn) (n last : State) → Leads m xs n → Leads n ys last → Leads m (xs ++ ys) last
leads_then m [] ys n last is more = subst (λ (x : State). Leads x ys last) is more
leads_then m (x ∷ xs) ys n last (begins, made, rest) more = (begins, made, leads_then x.behind xs ys n last rest more)

calls_append : (xs ys : List Turn) → calls_of (xs ++ ys) ≡ calls_of xs ++ calls_of ys
calls_append [] ys = refl
calls_append (x ∷ xs) ys = ap (λ cs. call_of x ∷ cs) (calls_append xs ys)

are_then : (log : List Call) (xs ys : List Turn) → AreAllowed Allows log (calls_of xs) → AreAllowed Allows (log ++ calls_of xs) (calls_of ys) → AreAllowed Allows log (calls_of (xs ++ ys))
are_then log [] ys are more = let P : List Call → Type 0 = λ l. AreAllowed Allows l (calls_of ys) in subst P (append-nil log) more
are_then log (x ∷ xs) ys (one, are) more =
    let P : List Call → Type 0 = λ l. AreAllowed Allows l (calls_of ys) in
    (one, are_then (log ++ call_of x ∷ []) xs ys are (subst P (sym (append_assoc log (call_of x ∷ []) (calls_of xs))) more))

then_more : (a b c : DeskView) → Meanwhile a b → Meanwhile b c → Meanwhile a c
then_more a b c x y =
    let P : List Call → Type 0 = λ l. AreAllowed Allows l (calls_of y.turns) in
    record {
      turns = x.turns ++ y.turns;
      past = y.past ∙ ap (λ p. p ++ y.turns) x.past ∙ append_assoc a.past x.turns y.turns;
      leads = leads_then a.now x.turns y.turns b.now c.now x.leads y.leads;
      allowed = are_then (calls_of a.past) x.turns y.turns x.allowed (subst P (ap calls_of x.past ∙ calls_append a.past x.turns) y.allowed);
    }

-- ---- the parts

pub none_between : (a : DeskView) → Meanwhile a a
none_between a = record { turns = []; past = sym (append-nil a.past); leads = refl; allowed = tt }

asked : (count : ℕ) (a b : DeskView) → Enters a OpenJobs (Count count) b → Meanwhile a b
asked count a b e =
    let last : List Turn = turn e.between OpenJobs (Count count) b.now ∷ [] in
    record {
      turns = e.others ++ last;
      past = e.past ∙ append_assoc a.past e.others last;
      leads = leads_then a.now e.others last e.between b.now e.meanwhile (refl, e.made, refl);
      allowed = are_then (calls_of a.past) e.others last e.allowed (tt, tt);
    }

pub worked_between : (item : Waiting) (how : Worked) (a b : DeskView) → Works item how a b → Meanwhile a b
worked_between item how a b w = record { turns = w.turns; past = w.past; leads = w.meanwhile; allowed = w.allowed }

wore_out : (a b : DeskView) → WearsOut a b → Meanwhile a b
wore_out a b w = record {
  turns = [];
  past = ap (λ (d : DeskView). d.past) w.same ∙ sym (append-nil a.past);
  leads = ap (λ (d : DeskView). d.now) w.same;
  allowed = tt;
}

-- ---- rounds

module _ (until : Until) where
  goes_on : (works : Bool) (s t : Sight) → GoesOn until works s t → Meanwhile s.desk t.desk
  goes_on true s t works = worked_between works.makes.item works.worked s.desk t.desk works.makes.works
  goes_on false s t (same, may) = subst (λ (x : Sight). Meanwhile s.desk x.desk) (sym same) (none_between s.desk)

  round : (s t : Sight) → Round until s t → Meanwhile s.desk t.desk
  round s t r = then_more s.desk r.asked.desk t.desk (asked r.asks.count s.desk r.asked.desk r.asks.asks.enters) (goes_on r.works r.asked t r.goes_on)

  rounds : (ms : List Sight) (s t : Sight) → Rounds until ms s t → Meanwhile s.desk t.desk
  rounds [] s t same = subst (λ (x : Sight). Meanwhile s.desk x.desk) (sym same) (none_between s.desk)
  rounds (m ∷ ms) s t (one, rest) = then_more s.desk m.desk t.desk (round s m one) (rounds ms m t rest)

  reaches : (s t : Sight) → Reaches until s t → Meanwhile s.desk t.desk
  reaches s t r = then_more s.desk r.before.desk t.desk (rounds r.tends.behind s r.before r.tends.rounds) (asked r.count r.before.desk t.desk r.asks.enters)

  fails_to_ask : (cause : GaveUp) (s t : Sight) → FailsToAsk cause s t → Meanwhile s.desk t.desk
  fails_to_ask gave_up.Worn s t (wears, same) = wore_out s.desk t.desk wears
  fails_to_ask gave_up.NoMemory s t fails = absurd fails

  fails : (cause : GaveUp) (s t : Sight) → FailsToAsk cause s t ⊎ FailsToWork until cause s t → Meanwhile s.desk t.desk
  fails cause s t (inl f) = fails_to_ask cause s t f
  fails cause s t (inr f) =
      then_more s.desk f.asked.desk t.desk (asked f.asks.count s.desk f.asked.desk f.asks.asks.enters) (worked_between f.works.makes.item f.works.worked f.asked.desk t.desk f.works.makes.works)

  asleep : (s t : Sight) → StopsAsleep until s t → Meanwhile s.desk t.desk
  asleep s t r =
      then_more s.desk r.before.desk t.desk (rounds r.tends.behind s r.before r.tends.rounds) (asked r.asks.count r.before.desk t.desk r.asks.asks.enters)

  stops : (why : Broken) (s t : Sight) → Stops until why s t → Meanwhile s.desk t.desk
  stops (Own cause) s t r = then_more s.desk r.before.desk t.desk (rounds r.tends.behind s r.before r.tends.rounds) (fails cause r.before t r.fails)
  stops (Worker gave_up.NoMemory) s t r = asleep s t r
  stops (Worker gave_up.Worn) s t (m, r, count, asks) = then_more s.desk m.desk t.desk (asleep s m r) (asked count m.desk t.desk asks.enters)

hands : (handed : Handed) (item : Waiting) (places : ℕ) (s t : Sight) → HandsOver handed item places s t → Meanwhile s.desk t.desk
hands Queued item places s t (offers, same) = subst (λ (d : DeskView). Meanwhile s.desk d) (sym same) (none_between s.desk)
hands (WorkedAtOnce how) item places s t (held, same, works) = worked_between item how s.desk t.desk works

works_one : (how : Worked) (s t : Sight) → TakesAndWorks how s t → Meanwhile s.desk t.desk
works_one how s t r = worked_between r.item how s.desk t.desk r.works

pub tending : TendingIsAllowed
tending = record { hands = hands; works = works_one; reaches = reaches; stops = stops }

-- ---- how many wait

pub counted : (until : Until) (s t : Sight) → Reaches until s t → IsTrue (is_reached until (length t.desk.now.jobs))
counted until s t r =
    let e = r.asks.enters in
    let told : Count r.count ≡ Count (length e.between.jobs) = e.made.steps.0 in
    let same : t.desk.now ≡ e.between = e.made.steps.1 in
    let is : r.count ≡ length t.desk.now.jobs = (let one = told in let lasts = ap (λ (m : State). length m.jobs) same in cc) in
    subst (λ n. IsTrue (is_reached until n)) is r.reached

module _ (calls : TurnsAreCalls) where
  zero_of : (n : ℕ) → (n == 0) ≡ true → n ≡ 0
  zero_of n is = grind (arith, nat_tests)

  none_of : (jobs : List Job) → (length jobs == 0) ≡ true → jobs ≡ []
  none_of [] is = refl
  none_of (j ∷ js) is = absurd (let zero_is = zero_of (length (j ∷ js)) is in omega (arith, zero_is))

  pub nothing_left : NothingChanges → (s t : Sight) (d : DeskView) → IsSound t.desk.now → Reaches Done s t → Meanwhile t.desk d → (d.now ≡ t.desk.now) × (d.now.jobs ≡ [])
  nothing_left frozen s t d sound r m =
      let replays = (calls t.desk.now m.turns d.now sound m.leads).replays in
      let none = none_of t.desk.now.jobs (counted Done s t r) in
      let same : d.now ≡ t.desk.now = frozen (calls_of t.desk.past) (calls_of m.turns) t.desk.now d.now none replays m.allowed in
      (same, ap (λ (x : State). x.jobs) same ∙ none)
