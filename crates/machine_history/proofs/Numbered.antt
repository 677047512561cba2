-- Jobs are numbered upwards along a history.
use Rattle.std.proofs.Common.{◌≡◌, ℕ, zero, suc, ◌<◌, ◌≤◌, List, [], ◌∷◌, length, get_or, refl, sym, ap, ◌∙◌, subst, arith}
use Rattle.std.specs.Prelude.{Option, Some, None}
use Rattle.std.proofs.lemmas.Option.{same_Some}
use Rattle.maple_base.specs.declared.key.Key.{Key}
use Rattle.machine_steps.specs.declared.reply.Reply.TheVariants.{Job as JobOpened}
use Rattle.machine_steps.specs.Machine.{State, opening}
use Rattle.machine_steps.specs.Histories.{Turn, IsTurn, Leads}
use Rattle.machine_steps.specs.Waiting.{Waiting}
use Rattle.machine_steps.proofs.Later.{opened_by, Counts, IsLater, is_later}
use Rattle.machine_history.specs.Jobs.{WasOpened}
use Rattle.machine_history.specs.Laws.{OpenedOnce}

-- the turn at this place opened a job for this packet
record OpensAt (ts : List Turn) (place : ℕ) (w : Waiting) : Type 0 where
  turn : Turn
  within : place < length ts
  there : get_or ts place turn ≡ turn
  opened : turn.reply ≡ JobOpened w

later : (t : Turn) → IsTurn t → IsLater t.before t.reply t.behind
later t is = is_later t.before t.reply t.behind t.entry is.steps

-- the count never falls
never_falls : (o : Option Waiting) (before behind : ℕ) → Counts o before behind → before ≤ behind
never_falls None before behind e = omega (arith, e)
never_falls (Some w) before behind e = omega (arith, e.0)

-- a job that opens has the next number
numbered : (t : Turn) → IsTurn t → (w : Waiting) → t.reply ≡ JobOpened w → Counts (Some w) t.before.job_count t.behind.job_count
numbered t is w r = subst (λ o. Counts o t.before.job_count t.behind.job_count) (ap opened_by r) (later t is).jobs

-- the first turn opened it
first_opened : (t : Turn) (ts : List Turn) (w : Waiting) → OpensAt (t ∷ ts) zero w → t.reply ≡ JobOpened w
first_opened t ts w o = ap (λ (x : Turn). x.reply) o.there ∙ o.opened

-- or a later one
later_opens : (t : Turn) (ts : List Turn) (place : ℕ) (w : Waiting) → OpensAt (t ∷ ts) (suc place) w → OpensAt ts place w
later_opens t ts place w o = record { turn = o.turn; within = omega (arith, o.within); there = o.there; opened = o.opened }

-- the numbers of a history's jobs are above the count ahead of it
above : (m : State) (ts : List Turn) (last : State) → Leads m ts last → (place : ℕ) (w : Waiting) → OpensAt ts place w → m.job_count < w.job
above m [] last e place w o = absurd (omega (arith, o.within))
above m (t ∷ ts) last (e, is, rest) zero w o =
    let n = (numbered t is w (first_opened t ts w o)).1 in
    let f = ap (λ (x : State). x.job_count) e in
    omega (arith, n, f)
above m (t ∷ ts) last (e, is, rest) (suc place) w o =
    let n = never_falls (opened_by t.reply) t.before.job_count t.behind.job_count (later t is).jobs in
    let f = ap (λ (x : State). x.job_count) e in
    let b = above t.behind ts last rest place w (later_opens t ts place w o) in
    omega (arith, n, f, b)

-- the first turn opened a job: each later one has another number
apart : (t : Turn) (ts : List Turn) (last : State) → IsTurn t → Leads t.behind ts last → (place : ℕ) (w v : Waiting) → OpensAt (t ∷ ts) zero w → OpensAt (t ∷ ts) (suc place) v → w.job ≡ v.job → ⊥
apart t ts last is rest place w v o p same =
    let n = numbered t is w (first_opened t ts w o) in
    let b = above t.behind ts last rest place v (later_opens t ts place v p) in
    absurd (omega (arith, n.0, n.1, b, same))

once : (m : State) (ts : List Turn) (last : State) → Leads m ts last → (i j : ℕ) (w v : Waiting) → OpensAt ts i w → OpensAt ts j v → w.job ≡ v.job → (i ≡ j) × (w ≡ v)
once m [] last e i j w v o p same = absurd (omega (arith, o.within))
once m (t ∷ ts) last (e, is, rest) zero zero w v o p same = (refl, same_Some w v (ap opened_by (sym (first_opened t ts w o) ∙ first_opened t ts v p)))
once m (t ∷ ts) last (e, is, rest) zero (suc j) w v o p same = absurd (apart t ts last is rest j w v o p same)
once m (t ∷ ts) last (e, is, rest) (suc i) zero w v o p same = absurd (apart t ts last is rest i v w p o (sym same))
once m (t ∷ ts) last (e, is, rest) (suc i) (suc j) w v o p same =
    let r = once t.behind ts last rest i j w v (later_opens t ts i w o) (later_opens t ts j v p) same in
    (ap suc r.0, r.1)

pub opened_once : OpenedOnce
opened_once ts m legal number s q k l was again =
    let r = once (opening legal.policy legal.settings) ts m legal.leads was.among.0 again.among.0
    (record { job = number; switch = s; key = k }) (record { job = number; switch = q; key = l }) (at s k was) (at q l again) refl in
    (ap (λ (w : Waiting). w.switch) r.1, ap (λ (w : Waiting). w.key) r.1, r.0)
  where
    at : (switch : ℕ) (key : Key) (w : WasOpened ts number switch key) → OpensAt ts w.among.0 (record { job = number; switch = switch; key = key })
    at switch key w = record { turn = w.turn; within = w.among.1; there = w.among.2; opened = w.opened }
