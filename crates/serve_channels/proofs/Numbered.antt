-- The same connections are there.
use Rattle.std.proofs.Common.{◌≡◌, ℕ, ◌<◌, List, get_or, length, set, sym, ap, ◌∙◌, subst}
use Rattle.std.proofs.lemmas.Option.{slice_get-get_or}
use Rattle.std.specs.Prelude.{Some}
use Rattle.std.specs.List.{slice_get}
use Rattle.serve_channels.specs.declared.connection.Connection.{Connection}
use Rattle.serve_channels.specs.declared.server.Server.{Server}
use Rattle.serve_channels.specs.Servers.{IsAt, SameNumbers, number_of}
use Rattle.serve_channels.proofs.Kept.{set_numbers}
use Rattle.serve_channels.proofs.Stretching.{StayKnown}

-- ---- the same connections

pub numbers_of : (a b : Server) → b.connections.items ≡ a.connections.items → SameNumbers a b
numbers_of a b same at c = (subst (IsAt at c) (sym same), subst (IsAt at c) same)

pub numbers_then : (a b d : Server) → SameNumbers a b → SameNumbers b d → SameNumbers a d
numbers_then a b d h k at c = (λ is. (k at c).0 ((h at c).0 is), λ is. (h at c).1 ((k at c).1 is))

pub numbers_same : (s : Server) → SameNumbers s s
numbers_same s at c = (λ is. is, λ is. is)

pub stay_known : (a b : Server) → SameNumbers a b → StayKnown a b
stay_known a b h c known = (known.0, (h known.0 c).0 known.1)

-- what stands at an index
pub there_at : (ks : List Connection) (at : ℕ) (k : Connection) → at < length ks → k ≡ get_or ks at k → slice_get ks at ≡ Some k
there_at ks at k within is = slice_get-get_or ks at k within ∙ ap (λ (x : Connection). Some x) (sym is)

-- one became another with its number, where the list is the same
pub numbers_at : (ks ms : List Connection) (at : ℕ) (k l : Connection) → ms ≡ ks → at < length ks → k ≡ get_or ms at k → number_of l ≡ number_of k
    → (n c : ℕ) → (IsAt n c ks → IsAt n c (set ms at l)) × (IsAt n c (set ms at l) → IsAt n c ks)
numbers_at ks ms at k l same within is number =
    set_numbers ks (set ms at l) at k l (there_at ks at k within (is ∙ ap (λ (xs : List Connection). get_or xs at k) same)) (ap (λ (xs : List Connection). set xs at l) same) number
