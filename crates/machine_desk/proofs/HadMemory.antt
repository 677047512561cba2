-- Memory sufficed for each turn of a history: all positions of it are of calls for which it did.
use Rattle.std.proofs.Common.{◌≡◌, ◌⊎◌, ℕ, zero, suc, ◌<◌, ◌≤◌, ◌==◌, Bool, true, false, List, [], ◌∷◌, ◌++◌, length, refl, sym, ap, ◌∙◌, subst, inl, inr}
use Rattle.std.proofs.Common.{⊎_elim, arith}
use Rattle.std.specs.Prelude.{◌≢◌, Some, Ok, Err}
use Rattle.std.specs.List.{AllByRecursion, slice_get}
use Rattle.std.specs.Result.{result_and}
use Rattle.std.proofs.lemmas.Bool.Decides.{nat_tests}
use Rattle.history_lock.specs.Histories.{AllAt, AreAllPositions, times}
use Rattle.machine_steps.specs.declared.entry.Entry.{Entry}
use Rattle.machine_steps.specs.declared.reply.Reply.{Reply}
use Rattle.machine_steps.specs.declared.reply.Reply.TheVariants as replies
use Rattle.machine_steps.specs.Histories.{Turn}
use Rattle.machine_steps.specs.Machine.{State}
use Rattle.machine_steps.specs.Waiting.{Waiting}
use Rattle.machine_sharing.specs.Legal.{turns_of}
use Rattle.machine_sharing.specs.Sharing.{Call}
use Rattle.machine_desk.specs.Desks.{HadMemory, calls_of}
use Rattle.machine_desk.proofs.Memory.{AllHad, memory_stays, rounds_had}
use Rattle.machine_desk.proofs.Turning.{calls_same}
use Rattle.packet_workers.specs.Adding.{PassView}
use Rattle.packet_workers.specs.Crewing.{Makes, told_as}
use Rattle.packet_workers.specs.declared.worked.Worked.{Worked as Ended}
use Rattle.packet_workers.specs.declared.worked.Worked.TheVariants as how
use Rattle.worker_crew.specs.declared.rule.Account.{Account}
use Rattle.worker_crew.specs.Tasks.{AllMade, Task, Toiled, Worked, calls_in, told_by}

-- memory sufficed for each turn
abbrev AllHadMemory : List Turn → Type 0
AllHadMemory history = AllByRecursion (λ (t : Turn). t.reply ≢ replies.NoMemory) history

all_append : {X : Type 0} (P : X → Type 0) (xs ys : List X) → AllByRecursion P xs → AllByRecursion P ys → AllByRecursion P (xs ++ ys)
all_append P [] ys h k = k
all_append P (x ∷ xs) ys h k = (h.0, all_append P xs ys h.1 k)

abbrev Had : Call → Type 0
Had e = e.reply ≢ replies.NoMemory

-- ---- by positions

here_or_later : (q p : ℕ) (qs : List ℕ) → 1 ≤ times p (q ∷ qs) → (q ≡ p) ⊎ (1 ≤ times p qs)
here_or_later q p qs some = go (q == p) refl
  where
    go : (b : Bool) → (q == p) ≡ b → (q ≡ p) ⊎ (1 ≤ times p qs)
    go true same = inl (grind (arith, nat_tests))
    go false other = inr (grind (arith, nat_tests))

none_there : (p : ℕ) → 1 ≤ times p [] → ⊥
none_there p some = omega (arith, some)

had_there : (seen : List Call) (q p : ℕ) (d c : Call) → slice_get seen q ≡ Some d → Had d → slice_get seen p ≡ Some c → q ≡ p → Had c
had_there seen q p d c here had there place = let is : d ≡ c = cc in subst Had is had

-- the call at a position that is among those of such calls
at_one : (seen : List Call) (own : List ℕ) (calls : List Call) → AllAt seen own calls → AllHad calls → (p : ℕ) (c : Call) → 1 ≤ times p own
    → slice_get seen p ≡ Some c → Had c
at_one seen [] calls at had p c some there = absurd (none_there p some)
at_one seen (q ∷ qs) [] at had p c some there = absurd at
at_one seen (q ∷ qs) (d ∷ ds) at had p c some there =
    ⊎_elim (had_there seen q p d c at.0 had.0 there) (λ later. at_one seen qs ds at.1 had.1 p c later there) (here_or_later q p qs some)

by_place : (seen : List Call) → ((p : ℕ) (c : Call) → p < length seen → slice_get seen p ≡ Some c → Had c) → AllHad seen
by_place [] at = tt
by_place (c ∷ cs) at = (at zero c (omega arith) refl, by_place cs (λ p d short there. at (suc p) d (omega (arith, short)) there))

turns_had : (m : State) (seen : List Call) → AllHad seen → AllHadMemory (turns_of m seen)
turns_had m [] had = tt
turns_had m (e ∷ es) had = (had.0, turns_had e.behind es had.1)

pub had_seen : (start : State) (seen : List Call) (own : List ℕ) → HadMemory (calls_of (turns_of start seen)) own → HadMemory seen own
had_seen start seen own had = subst (λ cs. HadMemory cs own) (calls_same start seen) had

pub had_at_all : (start : State) (seen : List Call) (own : List ℕ) → HadMemory seen own → AreAllPositions (length seen) own → AllHadMemory (turns_of start seen)
had_at_all start seen own h all =
    turns_had start seen (by_place seen (λ p c short there. at_one seen own h.calls h.at h.memory p c (let once = all p in grind (arith, nat_tests)) there))

-- ---- with the calls of workers that didn't give up

goes_on : (worked : Ended) (done : Unit {0}) → Ok done ≡ told_as worked → worked ≢ how.NoMemory
goes_on worked done told lacks = let e : Ok done ≡ told_as how.NoMemory = told ∙ ap told_as lacks in absurd (cc)

all_worked : (budget : ℕ) (ts : List (Task State Entry Reply Waiting)) (done : Unit {0}) → AllMade (λ item told made. Makes budget item told made) ts
    → Ok done ≡ told_by ts → AllHad (calls_in ts)
all_worked budget [] done made told = tt
all_worked budget (t ∷ ts) done (makes, made) told = go t.worked refl (λ rest. all_worked budget ts done made rest)
  where
    go : (worked : Worked) → t.worked ≡ worked → (Ok done ≡ told_by ts → AllHad (calls_in ts)) → AllHad (t.calls ++ calls_in ts)
    go (Ok u) is others =
        all_append Had t.calls (calls_in ts) (rounds_had t.item budget 3 t.calls makes.0 makes.1 (goes_on makes.0 u (sym is ∙ makes.2)))
        (others (told ∙ ap (λ (r : Worked). result_and r (told_by ts)) is))
    go (Err stop) is others = (let e : Ok done ≡ Err stop = told ∙ ap (λ (r : Worked). result_and r (told_by ts)) is in absurd (cc))

pub had_joined : (start : State) (budget : ℕ) (mine x : PassView) (account w : Account Waiting) (done : Unit {0})
    → Toiled (λ item told made. Makes budget item told made) mine account (Ok done) x w
    → HadMemory (calls_of (turns_of start mine.seen)) mine.own → HadMemory x.seen x.own
had_joined start budget mine x account w done toiled had =
    memory_stays mine x (calls_in toiled.tasks) toiled.did false false (λ enough. all_worked budget toiled.tasks done toiled.made toiled.told)
    (λ enough. had_seen start mine.seen mine.own had) refl
