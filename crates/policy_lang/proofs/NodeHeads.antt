-- Heads that bind a name.
use Rattle.std.proofs.Common.{◌≡◌, ℕ, ◌+◌, List, [], ◌∷◌, ◌++◌, length, length-append, sym, ap, ◌∙◌, subst, arith}
use Rattle.std.specs.Prelude.{Bool, nat_le, Ok, Err}
use Rattle.std.proofs.lemmas.List.Folds.{list_all-append}
use Rattle.std.proofs.Math.ListN.{set}
use Rattle.std.proofs.Math.Seq.{set-append_seam}
use Rattle.policy_lang.specs.declared.nodes.Node.{Node}
use Rattle.policy_lang.specs.declared.nodes.Limit.{Limit}
use Rattle.policy_lang.specs.declared.nodes.WalkStop.{WalkStop}
use Rattle.policy_lang.specs.declared.nodes.WalkStop.TheVariants as stop
use Rattle.policy_lang.specs.Tree.{Term}
use Rattle.policy_lang.specs.Nodes.{length_of, node, nodes_from, limit_of, are_shallow, AreFree}
use Rattle.policy_lang.specs.NodeWalks.{Passes, Begun, Walked, binding_nodes}
use Rattle.policy_lang.proofs.NodeChains.{term_later, free_behind}
use Rattle.policy_lang.proofs.NodeJoins.{own_stops, walked_less, walked_on}

-- where the name lies decides nothing
renamed : (old : List Node) (i m n d : ℕ) (xs : List Node) → AreFree old → limit_of (old ++ node i i m d ∷ xs) ≡ limit_of (old ++ node i i n d ∷ xs)
renamed old i m n d xs f = free_behind old (node i i m d ∷ xs) f ∙ sym (free_behind old (node i i n d ∷ xs) f)

passes_renamed : (old xs : List Node) (i m n d k : ℕ) (l : Limit) → AreFree old → Passes old (node i i m d ∷ xs) k l → Passes old (node i i n d ∷ xs) k l
passes_renamed old xs i m n d k l f p rest b = renamed old i n m d (xs ++ rest) f ∙ p rest b

off_renamed : (old xs new : List Node) (i m n d k : ℕ) (s : WalkStop) → AreFree old → Walked old (node i i m d ∷ xs) k new (Err s) → Walked old (node i i n d ∷ xs) k new (Err s)
off_renamed old xs new i m n d k (stop.Limit l) f w = passes_renamed old xs i m n d k l f w
off_renamed old xs new i m n d k stop.NoMemory f w = tt

pub binding_full : (old : List Node) (e : Term) (i d : ℕ) (new : List Node) (s : WalkStop) → AreFree old → Begun old (node i i i d) (node i i i d ∷ []) (i + 1) new (Err s)
    → Walked old (binding_nodes e i d) (i + (5 + length_of e)) new (Err s)
binding_full old e i d new s f b =
    off_renamed old (nodes_from (i + 2) e (d + 1)) new i i (i + 4 + length_of e) d (i + (5 + length_of e)) s f
    (own_stops old (node i i i d) (nodes_from (i + 2) e (d + 1)) (i + 1) (i + (5 + length_of e)) new s (λ rest h. term_later e (i + 1) (i + 2) (i + 2) (d + 1) rest (omega arith)) b)

pub binding_stops : (old mid : List Node) (e : Term) (i d : ℕ) (new : List Node) (s : WalkStop) → AreFree old → mid ≡ old ++ node i i i d ∷ []
    → Walked mid (nodes_from (i + 2) e (d + 1)) (i + 2 + length_of e + 1) new (Err s) → Walked old (binding_nodes e i d) (i + (5 + length_of e)) new (Err s)
binding_stops old mid e i d new s f m w =
    off_renamed old (nodes_from (i + 2) e (d + 1)) new i i (i + 4 + length_of e) d (i + (5 + length_of e)) s f
    (walked_less old (node i i i d ∷ nodes_from (i + 2) e (d + 1)) new (i + 2 + length_of e + 1) (i + (5 + length_of e)) s (omega arith)
    (walked_on old (node i i i d ∷ []) (nodes_from (i + 2) e (d + 1)) mid new (i + 2 + length_of e + 1) (Err s) m w))

pub binding_walked : (old mid : List Node) (e : Term) (i d next : ℕ) (new last : List Node) → AreFree old → mid ≡ old ++ node i i i d ∷ []
    → Walked mid (nodes_from (i + 2) e (d + 1)) (i + 2 + length_of e + 1) new (Ok next) → last ≡ set new (length old) (node i i (next + 1) d)
    → Walked old (binding_nodes e i d) (i + (5 + length_of e)) last (Ok (next + 2))
binding_walked old mid e i d next new last f m w q =
    let xs : List Node = nodes_from (i + 2) e (d + 1) in
    let deep : Node → Bool = λ x. nat_le x.depth 32 in
    let v = walked_on old (node i i i d ∷ []) xs mid new (i + 2 + length_of e + 1) (Ok next) m w in
    let at : next + 1 ≡ i + 4 + length_of e = (let n = w.1 in omega arith) in
    let is : last ≡ old ++ node i i (i + 4 + length_of e) d ∷ xs =
    q ∙ ap (λ ys. set ys (length old) (node i i (next + 1) d)) v.0 ∙ set-append_seam old (node i i i d) xs (node i i (next + 1) d) ∙ ap (λ n. old ++ node i i n d ∷ xs) at in
    let len : length (old ++ node i i (i + 4 + length_of e) d ∷ xs) ≡ length new =
    length-append old (node i i (i + 4 + length_of e) d ∷ xs) ∙ sym (length-append old (node i i i d ∷ xs)) ∙ sym (ap length v.0) in (
      is,
      (let n = w.1 in omega arith),
      subst AreFree (sym is) (record {
        shallow = list_all-append deep old (node i i (i + 4 + length_of e) d ∷ xs) ∙ sym (list_all-append deep old (node i i i d ∷ xs)) ∙ ap are_shallow (sym v.0) ∙ w.2.shallow;
        few = omega (arith, len, w.2.few);
      }),
    )
