-- A list that was seen and positions in it, both of which grow.
use Rattle.std.proofs.Common.{◌≡◌, ℕ, zero, suc, List, [], ◌∷◌, ◌++◌, slice_get, Some, sym, ap, ◌∙◌, subst, append-nil, append_assoc}
use Rattle.history_lock.specs.Histories.{AllAt, StartsWith}
use Rattle.history_lock.proofs.Lists.{starts_trans}

module _ {X : Type 0} where
  get_more : (xs ys : List X) (p : ℕ) (x : X) → slice_get xs p ≡ Some x → slice_get (xs ++ ys) p ≡ Some x
  get_more [] ys p x e = cc
  get_more (y ∷ xs) ys zero x e = e
  get_more (y ∷ xs) ys (suc p) x e = get_more xs ys p x e

  all_more : (xs ys : List X) (ps : List ℕ) (cs : List X) → AllAt xs ps cs → AllAt (xs ++ ys) ps cs
  all_more xs ys [] [] all = tt
  all_more xs ys [] (c ∷ cs) all = absurd all
  all_more xs ys (p ∷ ps) [] all = absurd all
  all_more xs ys (p ∷ ps) (c ∷ cs) (h, all) = (get_more xs ys p c h, all_more xs ys ps cs all)

  all_later : (zs xs : List X) (ps : List ℕ) (cs : List X) → StartsWith zs xs → AllAt xs ps cs → AllAt zs ps cs
  all_later zs xs ps cs (rest, is) all = let P : List X → Type 0 = λ y. AllAt y ps cs in subst P (sym is) (all_more xs rest ps cs all)

  all_both : (xs : List X) (ps qs : List ℕ) (cs ds : List X) → AllAt xs ps cs → AllAt xs qs ds → AllAt xs (ps ++ qs) (cs ++ ds)
  all_both xs [] qs [] ds a b = b
  all_both xs [] qs (c ∷ cs) ds a b = absurd a
  all_both xs (p ∷ ps) qs [] ds a b = absurd a
  all_both xs (p ∷ ps) qs (c ∷ cs) ds (h, a) b = (h, all_both xs ps qs cs ds a b)

  -- a longer list was seen, and these stand in it at the new positions
  pub record Grew (seen : List X) (own : List ℕ) (xs seen' : List X) (own' : List ℕ) : Type 0 where
    pub positions : List ℕ
    pub more : own' ≡ own ++ positions
    pub later : StartsWith seen' seen
    pub at : AllAt seen' positions xs

  pub grew_none : (seen : List X) (own : List ℕ) → Grew seen own [] seen own
  grew_none seen own = record { positions = []; more = sym (append-nil own); later = ([], sym (append-nil seen)); at = tt }

  pub grew_then : (s : List X) (o : List ℕ) (xs s' : List X) (o' : List ℕ) (ys s'' : List X) (o'' : List ℕ) → Grew s o xs s' o' → Grew s' o' ys s'' o'' → Grew s o (xs ++ ys) s'' o''
  grew_then s o xs s' o' ys s'' o'' a b = record {
    positions = a.positions ++ b.positions;
    more = b.more ∙ ap (λ y. y ++ b.positions) a.more ∙ append_assoc o a.positions b.positions;
    later = starts_trans s'' s' s b.later a.later;
    at = all_both s'' a.positions b.positions xs ys (all_later s'' s' a.positions xs b.later a.at) b.at;
  }

  -- another took part, which began with no positions
  pub grew_joined : (s : List X) (o : List ℕ) (xs s' : List X) (o' : List ℕ) (t : List X) (p : List ℕ) (ys t' : List X) (p' : List ℕ) (b : List X) (q : List ℕ) → p ≡ [] → Grew s o xs s' o' → Grew t p ys t' p'
      → StartsWith b s' → StartsWith b t' → q ≡ o' ++ p' → Grew s o (xs ++ ys) b q
  grew_joined s o xs s' o' t p ys t' p' b q none a c begins begins_too both = record {
    positions = a.positions ++ c.positions;
    more = both ∙ ap (λ y. y ++ p') a.more ∙ ap (λ y. (o ++ a.positions) ++ y) (c.more ∙ ap (λ y. y ++ c.positions) none) ∙ append_assoc o a.positions c.positions;
    later = starts_trans b s' s begins a.later;
    at = all_both b a.positions c.positions xs ys (all_later b s' a.positions xs begins a.at) (all_later b t' c.positions ys begins_too c.at);
  }
