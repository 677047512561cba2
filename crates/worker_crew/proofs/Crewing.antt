-- What a driver and its crew did, put together.
use Rattle.std.proofs.Common.{◌≡◌, ℕ, ◌-◌, ◌<◌, ◌≤◌, List, [], ◌∷◌, ◌++◌, Option, IfSome, Ok, sym, refl, ap, ◌∙◌, subst, arith, append-nil, append_assoc}
use Rattle.std.specs.Result.{result_and}
use Rattle.history_lock.specs.declared.view.Event.{Event}
use Rattle.history_lock.specs.declared.view.Known.{Known}
use Rattle.history_lock.specs.Histories.{AreAllowed, IsAllowedSince, StartsWith}
use Rattle.history_lock.proofs.Leads.{since_same}
use Rattle.worker_crew.specs.declared.rule.Account.{Account}
use Rattle.worker_crew.specs.Accounts.{fresh, joined, less_one}
use Rattle.worker_crew.specs.Tasks.{Toiled, Worked}
use Rattle.worker_crew.specs.Crews.{Crewed, IsLentOf, IsReady, IsShareOf, TakesIn}
use Rattle.worker_crew.proofs.Toiling.{toiled_joined, toiled_none}

pub suits_same : {M : Type 0} (suits : M → Type 0) (before after : Option M) → after ≡ before → IfSome before suits → IfSome after suits
suits_same {M} suits before after same fit = let P : Option M → Type 0 = λ o. IfSome o suits in subst P (sym same) fit

module _ {M E R : Type 0} where
  -- one part less, and then so many that it is as many as workers
  share_then : (count : ℕ) (u v w : Known M E R) → 1 ≤ count → IsShareOf 1 u v → IsShareOf (count - 1) v w → IsShareOf count u w
  share_then count u v w some a b = record {
    opening = b.opening ∙ a.opening;
    seen = b.seen ∙ a.seen;
    own = b.own ∙ a.own;
    number = b.number ∙ a.number;
    leads = b.leads ∙ a.leads;
    parts = (let p = a.parts in let q = b.parts in omega arith);
  }

  share_whole : (count : ℕ) (u : Known M E R) → count ≡ 0 → IsShareOf count u u
  share_whole count u none = record { opening = refl; seen = refl; own = refl; number = refl; leads = refl; parts = omega arith }

module _ {T : Type 0} where
  lent_then : (count : ℕ) (v v' a : Account T) → 1 ≤ count → count < v.parts → v' ≡ less_one v → IsLentOf (count - 1) v' a → IsLentOf count v a
  lent_then count v v' a some few same l =
      let P : Account T → Type 0 = λ y. IsLentOf (count - 1) y a → IsLentOf count v a in
      subst P (sym same) (λ m. record { seen = m.seen; offered = m.offered; taken = m.taken; parts = (let q = m.parts in omega arith) }) l

  lent_whole : (count : ℕ) (v : Account T) → count ≡ 0 → IsLentOf count v v
  lent_whole count v none = record { seen = refl; offered = refl; taken = refl; parts = omega arith }

module _ {M E R : Type 0} (allows : List (Event M E R) → E → Type 0) where
  abbrev L : Type 0
  L = List (Event M E R)

  are_then : (log a b : L) → AreAllowed allows log a → AreAllowed allows (log ++ a) b → AreAllowed allows log (a ++ b)
  are_then log [] b are more = let P : L → Type 0 = λ x. AreAllowed allows x b in subst P (append-nil log) more
  are_then log (e ∷ a) b (one, are) more = let P : L → Type 0 = λ x. AreAllowed allows x b in (one, are_then (log ++ e ∷ []) a b are (subst P (sym (append_assoc log (e ∷ []) a)) more))

  since_then : (z y x : L) → IsAllowedSince allows z y → IsAllowedSince allows y x → IsAllowedSince allows z x
  since_then z y x (r, is, are) (q, was, were) =
      let P : L → Type 0 = λ k. AreAllowed allows k r in
      (q ++ r, is ∙ ap (λ k. k ++ r) was ∙ append_assoc x q r, are_then x q r were (subst P was are))

module _ {M E R T : Type 0} where
  pub ready_share : (ready : Known M E R → Account T → Type 0) (count : ℕ) (u u' : Known M E R) (v v' : Account T) → 1 ≤ count → count < v.parts → IsShareOf 1 u u' → v' ≡ less_one v → IsReady count ready u v → IsReady (count - 1) ready u' v'
  ready_share ready count u u' v v' some few share same all k a of lent = all k a (share_then count u u' k some share of) (lent_then count v v' a some few same lent)

  pub ready_whole : (ready : Known M E R → Account T → Type 0) (count : ℕ) (u : Known M E R) (v : Account T) → count ≡ 0 → IsReady count ready u v → ready u v
  ready_whole ready count u v none all = all u v (share_whole count u none) (lent_whole count v none)

  module _ (makes : T → Worked → List (Event M E R) → Type 0) (allows : List (Event M E R) → E → Type 0) (drives : Known M E R → Account T → Known M E R → Account T → Type 0) where
    -- the driver alone
    pub crewed_alone : (count : ℕ) (u x : Known M E R) (v w : Account T) → count ≡ 0 → drives u v x w → Crewed makes allows drives count u v (Ok tt) x w
    crewed_alone count u x v w none drove = record { begun = u; started = v; share = share_whole count u none; lent = lent_whole count v none; mine = x; account = w; drove = drove; toiled = toiled_none makes x w; number = omega arith; led = λ lead. since_same allows x.seen }

    -- one worker more
    pub crewed_more : (count : ℕ) (u u' x y s e : Known M E R) (v v' w z t f : Account T) (o o' : Worked) → 1 ≤ count → count < v.parts → IsShareOf 1 u u' → v' ≡ less_one v → x.leads ≡ u'.leads → s.own ≡ [] → t ≡ fresh 1 → Crewed makes allows drives (count - 1) u' v' o x w → Toiled makes s t o' e f
        → TakesIn allows x e y → z ≡ joined w f → StartsWith z.seen w.seen × StartsWith z.seen f.seen → Crewed makes allows drives count u v (result_and o o') y z
    crewed_more count u u' x y s e v v' w z t f o o' some few share same leads none new c b k both begins = record {
      begun = c.begun;
      started = c.started;
      share = share_then count u u' c.begun some share c.share;
      lent = lent_then count v v' c.started some few same c.lent;
      mine = c.mine;
      account = c.account;
      drove = c.drove;
      toiled = toiled_joined makes allows c.mine x y s e c.account w z t f o o' none new c.toiled b k both begins;
      number = omega (arith, k.number, c.number);
      led = λ lead. since_then allows y.seen x.seen c.mine.seen (k.led (leads ∙ share.leads ∙ lead)) (c.led (share.leads ∙ lead));
    }
