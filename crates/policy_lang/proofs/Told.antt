-- What an error tells of the first fault.
use Rattle.std.proofs.Common.{◌≡◌, ℕ, ◌≤◌, List, [], ◌∷◌, length, refl, sym, ap, ◌∙◌, subst}
use Rattle.std.specs.Prelude.{Option, Some, None}
use Rattle.std.proofs.lemmas.List.{append-nil}
use Rattle.policy_lang.specs.declared.nodes.Node.{Node}
use Rattle.policy_lang.specs.declared.nodes.Limit.{Limit}
use Rattle.policy_lang.specs.declared.faults.Fault.{Fault as CodeFault}
use Rattle.maple_base.specs.PolicyFaults.{number_of}
use Rattle.policy_lang.specs.Tree.{Acts}
use Rattle.policy_lang.specs.Nodes.{nodes_of, limit_of, AreFree}
use Rattle.policy_lang.specs.Faults.{Fault, Site, Names, node_of, place_in, tables_faults, table_names, acts_faults, name_faults, first_by, IsWellFormed}
use Rattle.policy_lang.specs.Walks.{site_of, told, merged_by}
use Rattle.policy_lang.specs.Built.{IsTold}
use Rattle.policy_lang.proofs.NodeChains.{free_behind}
use Rattle.policy_lang.proofs.Order.{first_both}

none_passed : (nodes : List Node) → AreFree nodes → limit_of nodes ≡ None
none_passed nodes f = ap limit_of (sym (append-nil nodes)) ∙ free_behind nodes [] f

pub limit_told : (tables : List (List ℕ)) (body : Acts) (l : Limit) (kind : ℕ) → limit_of (nodes_of body) ≡ Some l → kind ≡ number_of l.kind
    → IsTold l.node kind (limit_of (nodes_of body)) (first_by (place_in (nodes_of body)) (name_faults tables body))
limit_told tables body l kind h k = subst (λ o. IsTold l.node kind o (first_by (place_in (nodes_of body)) (name_faults tables body))) (sym h) (refl, k)

pub fault_told : (tables : List (List ℕ)) (body : Acts) (nodes : List Node) (f : CodeFault) (node kind : ℕ) → nodes ≡ nodes_of body → AreFree nodes → told (Some f) ≡ first_by (place_in nodes) (name_faults tables body)
    → node ≡ node_of (site_of f.site) → kind ≡ number_of f.kind → IsTold node kind (limit_of (nodes_of body)) (first_by (place_in (nodes_of body)) (name_faults tables body))
fault_told tables body nodes f node kind q free is n k =
    subst (λ ns. IsTold node kind (limit_of ns) (first_by (place_in ns) (name_faults tables body))) q
    (subst (λ o. IsTold node kind o (first_by (place_in nodes) (name_faults tables body))) (sym (none_passed nodes free)) (subst (IsTold node kind None) is (n, k)))

none_wrong : (place : Site → ℕ) (fs : List Fault) → None ≡ first_by place fs → fs ≡ []
none_wrong place [] h = refl
none_wrong place (f ∷ fs) h = absurd (cc)

pub well_formed : (tables : List (List ℕ)) (body : Acts) (nodes : List Node) → nodes ≡ nodes_of body → AreFree nodes → None ≡ first_by (place_in nodes) (name_faults tables body) → IsWellFormed tables body
well_formed tables body nodes q free is =
    record { free = subst AreFree q free; named = none_wrong (place_in nodes) (name_faults tables body) is }

pub few_nodes : (nodes : List Node) (body : Acts) → nodes ≡ nodes_of body → AreFree nodes → length (nodes_of body) ≤ 4096
few_nodes nodes body q free = (subst AreFree q free).few

-- the first of the tables' faults and the body's
pub names_told : (place : Site → ℕ) (tables : List (List ℕ)) (body : Acts) (names : Names) (a b found : Option Fault) → names ≡ table_names tables → a ≡ first_by place (tables_faults [] tables)
    → b ≡ first_by place (acts_faults body names 1) → found ≡ merged_by place a b → found ≡ first_by place (name_faults tables body)
names_told place tables body names a b found names_are named wrong is =
    is ∙ ap (λ o. merged_by place o b) named
    ∙ ap (merged_by place (first_by place (tables_faults [] tables))) (wrong ∙ ap (λ ns. first_by place (acts_faults body ns 1)) names_are)
    ∙ sym (first_both place (tables_faults [] tables) (acts_faults body (table_names tables) 1))
