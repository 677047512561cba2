-- What follows of the outline of a text, of its parts, and of what is found wrong with their names.
use Rattle.std.proofs.Common.{◌≡◌, ℕ, ◌≤◌, List, [], ◌∷◌, length, Option, Some, None, refl, sym, ap, subst, ◌∙◌, inr}
use Rattle.std.proofs.lemmas.List.{append-nil}
use Rattle.maple_base.specs.PolicyFaults.{number_of}
use Rattle.policy_lang.specs.declared.nodes.Node.{Node}
use Rattle.policy_lang.specs.declared.faults.Fault.{Fault as CodeFault}
use Rattle.policy_lang.specs.declared.build.BuildError.TheVariants as build_error
use Rattle.policy_lang.specs.Built as built
use Rattle.policy_lang.specs.Faults.{Site, Fault, name_faults, first_by, place_in, IsWellFormed}
use Rattle.policy_lang.specs.Nodes.{nodes_of, limit_of, AreFree}
use Rattle.policy_lang.specs.Tree.{Acts}
use Rattle.policy_lang.specs.TreeOf.{tree_of}
use Rattle.policy_lang.specs.Walks.{site_of, told}
use Rattle.policy_lang.proofs.NodeChains.{free_behind}
use Rattle.policy_tokens.specs.declared.token.Position.{Position}
use Rattle.policy_tokens.specs.declared.token.Token.{Token}
use Rattle.policy_tokens.specs.Tokens.{TokenList}
use Rattle.policy_grammar.specs.declared.event.Event.{Event}
use Rattle.policy_outline.specs.FileNodes.{file_nodes, site_token}
use Rattle.policy_outline.specs.Limits.{IsOutline}
use Rattle.policy_tree.specs.declared.building.PolicyParts.{PolicyParts}
use Rattle.policy_tree.specs.Building.{ArePartsOf, IsMade}
use Rattle.policy_text.specs.declared.reading.ReadError.TheVariants.{Refused}
use Rattle.policy_text.specs.Texts.{plain, token_position, file_faults, IsFileOf, IsWrong}
use Rattle.policy_text.proofs.TextDepths.{tree_free}

none_wrong : (place : Site → ℕ) (fs : List Fault) → first_by place fs ≡ None → fs ≡ []
none_wrong place [] h = refl
none_wrong place (f ∷ fs) h = absurd (cc)

module _ (tokens : List Token) (events : List Event) (nodes : List Node) (o : IsOutline tokens events nodes) where
  is_file : IsFileOf o.file tokens
  is_file = record { body = o.body; same = o.same; free = o.free }

  module _ (es : List Event) (e : es ≡ events) (parts : PolicyParts) (made : IsMade es parts) where
    pub parts_are : ArePartsOf o.file parts
    parts_are = made o.file o.body (e ∙ o.read)

    free_tree : AreFree (nodes_of (tree_of parts.body))
    free_tree = subst (λ b. AreFree (nodes_of b)) (sym parts_are.body) (tree_free o.file o.free.nodes)

    pub few_nodes : length (nodes_of (tree_of parts.body)) ≤ 4096
    few_nodes = free_tree.few

    faults_are : name_faults parts.tables.items (tree_of parts.body) ≡ file_faults o.file
    faults_are = ap (λ ts. name_faults ts (tree_of parts.body)) parts_are.tables ∙ ap (name_faults o.file.tables) parts_are.body

    -- nothing is wrong with the names where no first fault is told
    pub formed : (ns : List Node) (names : List (List ℕ)) (found : Option CodeFault) → names ≡ parts.tables.items → told found ≡ first_by (place_in ns) (name_faults names (tree_of parts.body)) → found ≡ None
        → IsWellFormed parts.tables.items (tree_of parts.body)
    formed ns names found n f is =
        record { free = free_tree; named = ap (λ ts. name_faults ts (tree_of parts.body)) (sym n) ∙ none_wrong (place_in ns) (name_faults names (tree_of parts.body)) (sym f ∙ ap told is) }

-- the first fault of names and types is told at its position
pub named_wrong : (list : TokenList) (events : List Event) (nodes : List Node) (o : IsOutline (plain list) events nodes) (es : List Event) (e : es ≡ events) (parts : PolicyParts) (made : IsMade es parts)
    (ns : List Node) (names : List (List ℕ)) (f : CodeFault) (position : Position) (kind : ℕ) → ns ≡ nodes → names ≡ parts.tables.items → told (Some f) ≡ first_by (place_in ns) (name_faults names (tree_of parts.body))
    → position ≡ token_position list (site_token o.file (site_of f.site)) → kind ≡ number_of f.kind → IsWrong list (Refused position.line position.column kind)
named_wrong list events nodes o es e parts made ns names f position kind q n is l k =
    let faults = ap (λ ts. name_faults ts (tree_of parts.body)) n ∙ faults_are (plain list) events nodes o es e parts made in
    inr (record {
      file = o.file;
      is_file = is_file (plain list) events nodes o;
      fault = record { kind = f.kind; site = site_of f.site };
      first = sym (is ∙ ap (λ ms. first_by (place_in ms) (name_faults names (tree_of parts.body))) (q ∙ o.listed) ∙ ap (first_by (place_in (file_nodes o.file))) faults);
      lies = l;
      number = k;
    })

-- where nothing is wrong no fault is told
none_passed : (nodes : List Node) → AreFree nodes → limit_of nodes ≡ None
none_passed nodes free = ap limit_of (sym (append-nil nodes)) ∙ free_behind nodes [] free

pub none_told : (tables : List (List ℕ)) (body : Acts) (node kind : ℕ) → IsWellFormed tables body → built.IsErrorOf (build_error.Fault node kind) tables body → ⊥
none_told tables body node kind formed h =
    subst (built.IsTold node kind None) (ap (first_by (place_in (nodes_of body))) formed.named)
    (subst (λ o. built.IsTold node kind o (first_by (place_in (nodes_of body)) (name_faults tables body))) (none_passed (nodes_of body) formed.free) h)
