-- What a crew's worker makes of a packet, by what `work` does.
use Rattle.std.proofs.Common.{◌≡◌, ℕ, ◌≤◌, ◌^◌, Option, Some, IfSome, Ok, Err, subst, sym, ◌∙◌}
use Rattle.machine_steps.specs.Machine.{State}
use Rattle.machine_steps.specs.Waiting.{Waiting}
use Rattle.machine_sharing.specs.Sharing.{Call}
use Rattle.worker_crew.specs.declared.gave_up.GaveUp.TheVariants as gave_up
use Rattle.worker_crew.specs.Tasks.{OneWork, Worked as Told}
use Rattle.packet_workers.specs.declared.worked.Worked.{Worked}
use Rattle.packet_workers.specs.declared.worked.Worked.TheVariants as how
use Rattle.packet_workers.specs.Adding.{PassView}
use Rattle.packet_workers.specs.Rounds.{IsBudgetOf, IsWornBy, Works}
use Rattle.packet_workers.specs.Crewing.{Makes, told_as}

pub budget_suits : (budget : ℕ) (k : PassView) → IfSome k.opening (λ (m : State). m.settings.budget ≡ budget) → IsBudgetOf budget k
budget_suits budget k fit = λ m is. (let P : Option State → Type 0 = λ o. IfSome o (λ (x : State). x.settings.budget ≡ budget) in subst P is fit)

pub work_made : (item : Waiting) (budget : ℕ) (old new : PassView) (worked : Worked) (told : Told) → Works item budget old new worked → told ≡ told_as worked
    → OneWork (λ i t calls. Makes budget i t calls) item told old new
work_made item budget old new worked told d is = record { calls = d.calls; did = d.adds.did; made = (worked, d.are, is) }

worn_only : (worked : Worked) (n : ℕ) → IsWornBy worked n → told_as worked ≡ Err gave_up.Worn → 2 ^ 62 ≤ n
worn_only how.Worn n h e = h
worn_only how.NoMemory n h e = absurd (cc)
worn_only how.Answered n h e = absurd (cc)
worn_only how.Spent n h e = absurd (cc)
worn_only how.NotOpen n h e = absurd (cc)

pub work_worn : (item : Waiting) (budget : ℕ) (old new : PassView) (worked : Worked) (told : Told) → Works item budget old new worked → told ≡ told_as worked → told ≡ Err gave_up.Worn → 2 ^ 62 ≤ new.number
work_worn item budget old new worked told d is e = worn_only worked new.number d.worn (sym is ∙ e)

pub work_stays : (item : Waiting) (budget : ℕ) (old new : PassView) (worked : Worked) → Works item budget old new worked → (new.opening ≡ old.opening) × (new.parts ≡ old.parts)
work_stays item budget old new worked d = (d.adds.opening, d.adds.parts)

pub work_leads : (item : Waiting) (budget : ℕ) (old new : PassView) (worked : Worked) → Works item budget old new worked → new.leads ≡ old.leads
work_leads item budget old new worked d = d.adds.leads

-- what `work` of a crew says, by what `work` does
pub ruleset of_work = (work_made, work_worn, work_stays, work_leads, budget_suits)
