-- Lists that a session may be led to, and when a batch of changes was carried out.
use Rattle.std.proofs.Common.{ℕ, List, []}
use Rattle.std.specs.List.Sorted.{IsPermutation}
use Rattle.std.proofs.lemmas.List.Sorted.{Contains-permutation, IsPermutation-refl, IsPermutation-sym}
use Rattle.maple_base.specs.declared.decision.Rule.{Rule}
use Rattle.maple_base.specs.declared.decision.TableMod.{TableMod}
use Rattle.maple_base.specs.RuleLists.{Rules}
use Rattle.update_plan.specs.Batches.{no_rules, batch, IsSent}
use Rattle.update_plan.specs.Laws.{AreFrom, SentLaw}
use Rattle.update_plan.proofs.Safe.{no_target}
use Rattle.world_stages.specs.Updates.{IsSteady}

pub steady_none : (capacity : ℕ) (X : Rules) → IsSteady capacity X → IsSteady capacity no_rules
steady_none capacity X h = record { target = no_target capacity X h.target; lasting = tt }

-- all that was sent of a batch was carried out
pub all_done : SentLaw → (adds deletes : List Rule) (mods done : List TableMod) → IsSent adds deletes mods → IsPermutation done mods → AreFrom done (batch adds deletes)
all_done law adds deletes mods done sent whole m c =
    Contains-permutation mods done m (IsPermutation-sym done mods whole) (Contains-permutation (batch adds deletes) mods m (law adds deletes mods sent) c)

-- a batch without changes
pub none_done : SentLaw → (adds deletes : List Rule) → IsSent adds deletes [] → AreFrom [] (batch adds deletes)
none_done law adds deletes sent = all_done law adds deletes [] [] sent (IsPermutation-refl [])
