-- What building a policy answers where it builds none.
use Rattle.std.specs.Prelude.{◌≡◌, ℕ, List, Option, Some, None}
use Rattle.policy_lang.specs.declared.build.BuildError.{BuildError}
use Rattle.policy_lang.specs.declared.build.BuildError.TheVariants as errors
use Rattle.policy_lang.specs.declared.nodes.Limit.{Limit}
use Rattle.maple_base.specs.PolicyFaults.{number_of}
use Rattle.policy_lang.specs.Tree.{Acts}
use Rattle.policy_lang.specs.Nodes.{nodes_of, limit_of}
use Rattle.policy_lang.specs.Faults.{Fault, node_of, place_in, name_faults, first_by}

-- the node and the kind's number are those of the first limit that is passed, and where none is of the first fault of names and types
abbrev pub IsTold : ℕ → ℕ → Option Limit → Option Fault → Type 0
IsTold node kind (Some l) f = (node ≡ l.node) × (kind ≡ number_of l.kind)
IsTold node kind None (Some f) = (node ≡ node_of f.site) × (kind ≡ number_of f.kind)
IsTold node kind None None = ⊥

-- an error tells the first fault of these tables and this body, by the places in their printed form, or that memory ran out
abbrev pub IsErrorOf : BuildError → List (List ℕ) → Acts → Type 0
IsErrorOf (errors.Fault node kind) tables body = IsTold node kind (limit_of (nodes_of body)) (first_by (place_in (nodes_of body)) (name_faults tables body))
IsErrorOf errors.NoMemory tables body = Unit {0}
