-- What the values of the walks stand for.
use Rattle.std.specs.Prelude.{ℕ, Option, Some, None}
use Rattle.policy_lang.specs.declared.faults.Site.{Site as CodeSite}
use Rattle.policy_lang.specs.declared.faults.Site.TheVariants as sites
use Rattle.policy_lang.specs.declared.faults.Fault.{Fault as CodeFault}
use Rattle.policy_lang.specs.Faults.{Site, AtTable, AtNode, AtWhole, AtName, Fault, sooner_by}

abbrev pub site_of : CodeSite → Site
site_of sites.AtTable = AtTable
site_of (sites.AtNode n) = AtNode n
site_of (sites.AtWhole n) = AtWhole n
site_of (sites.AtName n) = AtName n

abbrev pub fault_of : CodeFault → Fault
fault_of f = record { kind = f.kind; site = site_of f.site }

abbrev pub told : Option CodeFault → Option Fault
told None = None
told (Some f) = Some (fault_of f)

-- the first of two faults, where each site has its place; of two that neither is before the other, the first of the two
abbrev pub merged_by : (Site → ℕ) → Option Fault → Option Fault → Option Fault
merged_by place None g = g
merged_by place (Some f) g = Some (sooner_by place f g)
