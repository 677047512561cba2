-- A whole run, by how its block ended.
use Rattle.std.proofs.Common.{◌≡◌, ℕ, [], subst}
use Rattle.maple_base.specs.declared.decision.Decision.TheVariants.{Drop as Dropped}
use Rattle.maple_base.specs.declared.decision.Outcome.{Outcome}
use Rattle.maple_base.specs.declared.decision.Outcome.TheVariants.{Decided}
use Rattle.policy_meaning.specs.Asking.{End, concluded}
use Rattle.policy_meaning.specs.Leads.{Saying, Leads}
use Rattle.policy_meaning.proofs.Walks.{leads_whole}
use Rattle.policy_lang.specs.Tree.{Acts}
use Rattle.policy_meaning.specs.Values.{Scope}
use Rattle.policy_meaning.specs.Meaning.{acts_of, in_block, meaning}

pub run_ends : {S : Type 0} (said : Saying S) (s : S) (b : Acts) (n switch : ℕ) (t : S) (e : End (Scope × ℕ)) (o : Outcome)
    → Leads said s (in_block (acts_of b switch) [] n) t e → concluded (Decided Dropped) e ≡ o → Leads said s (meaning b n switch) t o
run_ends said s b n switch t e o h q = subst (λ x. Leads said s (meaning b n switch) t x) q (leads_whole said s (Decided Dropped) (in_block (acts_of b switch) [] n) t e h)
