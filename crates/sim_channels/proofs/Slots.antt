-- The slots of a bench, by their channels and devices.
use Rattle.std.proofs.Common.{◌≡◌, ℕ, zero, suc, ◌+◌, ◌<◌, List, [], ◌∷◌, length, set, refl, sym, ap, ◌∙◌, subst, arith}
use Rattle.std.specs.Prelude.{Some}
use Rattle.std.specs.List.{slice_get}
use Rattle.std.proofs.lemmas.Option.{none-some, same_Some}
use Rattle.device_port.specs.Devices.{Meaning}
pub use Rattle.machine_desk.proofs.Lists.{set_beside}
use Rattle.sim_steps.specs.Benches.{MovesAt, Slot, slot_at}
use Rattle.sim_channels.specs.declared.channel.Channel.{Channel}
use Rattle.sim_channels.specs.Channels.{slot_by, slots_of}

-- ---- lists

pub item_at : {X : Type 0} (xs : List X) (n : ℕ) → n < length xs → (x : X) × (slice_get xs n ≡ Some x)
item_at [] n within = absurd (omega (arith, within))
item_at (x ∷ xs) zero within = (x, refl)
item_at (x ∷ xs) (suc n) within = item_at xs n (omega (arith, within))

pub set_same : {X : Type 0} (xs : List X) (at : ℕ) (x : X) → slice_get xs at ≡ Some x → set xs at x ≡ xs
set_same [] at x e = refl
set_same (y ∷ ys) zero x e = ap (λ z. z ∷ ys) (sym (same_Some y x e))
set_same (y ∷ ys) (suc n) x e = ap (λ zs. y ∷ zs) (set_same ys n x e)

pub set_there : {X : Type 0} (xs : List X) (at : ℕ) (x y : X) → slice_get xs at ≡ Some x → slice_get (set xs at y) at ≡ Some y
set_there [] at x y e = absurd (none-some x e)
set_there (z ∷ zs) zero x y e = refl
set_there (z ∷ zs) (suc n) x y e = set_there zs n x y e

-- ---- a slot

pub slot_next : (at : ℕ) (slots : List Slot) → slot_at (at + 1) slots ≡ slice_get slots at
slot_next at slots = (let e : at + 1 ≡ suc at = omega arith in ap (λ n. slot_at n slots) e)

pub slots_get : (ks : List Channel) (ds : List Meaning) (at : ℕ) (k : Channel) (d : Meaning) → slice_get ks at ≡ Some k → slice_get ds at ≡ Some d
    → slice_get (slots_of ks ds) at ≡ Some (slot_by k d)
slots_get [] ds at k d e f = absurd (none-some k e)
slots_get (x ∷ ks) [] at k d e f = absurd (none-some d f)
slots_get (x ∷ ks) (y ∷ ds) zero k d e f = ap (λ z. Some (slot_by z y)) (same_Some x k e) ∙ ap (λ z. Some (slot_by k z)) (same_Some y d f)
slots_get (x ∷ ks) (y ∷ ds) (suc n) k d e f = slots_get ks ds n k d e f

-- the channel and the device of a slot
pub record SlotBy (ks : List Channel) (ds : List Meaning) (c : ℕ) (s : Slot) : Type 0 where
  pub at : ℕ
  pub place : c ≡ at + 1
  pub channel : Channel
  pub device : Meaning
  pub there : slice_get ks at ≡ Some channel
  pub behind : slice_get ds at ≡ Some device
  pub is : s ≡ slot_by channel device

found : (ks : List Channel) (ds : List Meaning) (n : ℕ) (s : Slot) → slice_get (slots_of ks ds) n ≡ Some s
    → (k : Channel) × (d : Meaning) × (slice_get ks n ≡ Some k) × (slice_get ds n ≡ Some d) × (s ≡ slot_by k d)
found [] ds n s e = absurd (none-some s e)
found (x ∷ ks) [] n s e = absurd (none-some s e)
found (x ∷ ks) (y ∷ ds) zero s e = (x, y, refl, refl, sym (same_Some (slot_by x y) s e))
found (x ∷ ks) (y ∷ ds) (suc n) s e = found ks ds n s e

pub slots_found : (ks : List Channel) (ds : List Meaning) (c : ℕ) (s : Slot) → slot_at c (slots_of ks ds) ≡ Some s → SlotBy ks ds c s
slots_found ks ds zero s e = absurd (none-some s e)
slots_found ks ds (suc n) s e =
    let h = found ks ds n s e in
    record { at = n; place = omega arith; channel = h.0; device = h.1; there = h.2; behind = h.3; is = h.4 }

-- ---- a slot is changed

-- the channel and the device with one index are others
pub slots_move : (ks : List Channel) (ds : List Meaning) (at : ℕ) (k l : Channel) (d e : Meaning) (Moves : Slot → Slot → Type 0) → slice_get ks at ≡ Some k → slice_get ds at ≡ Some d
    → Moves (slot_by k d) (slot_by l e) → MovesAt (at + 1) Moves (slots_of ks ds) (slots_of (set ks at l) (set ds at e))
slots_move [] ds at k l d e Moves is are moves = absurd (none-some k is)
slots_move (x ∷ ks) [] at k l d e Moves is are moves = absurd (none-some d are)
slots_move (x ∷ ks) (y ∷ ds) zero k l d e Moves is are moves = record {
  ahead = [];
  old = slot_by x y;
  behind = slots_of ks ds;
  new = slot_by l e;
  place = refl;
  before = refl;
  after = refl;
  moves = subst (λ z. Moves (slot_by z y) (slot_by l e)) (sym (same_Some x k is)) (subst (λ z. Moves (slot_by k z) (slot_by l e)) (sym (same_Some y d are)) moves);
}
slots_move (x ∷ ks) (y ∷ ds) (suc n) k l d e Moves is are moves =
    let h = slots_move ks ds n k l d e Moves is are moves in
    record {
      ahead = slot_by x y ∷ h.ahead;
      old = h.old;
      behind = h.behind;
      new = h.new;
      place = omega (arith, h.place);
      before = ap (λ ss. slot_by x y ∷ ss) h.before;
      after = ap (λ ss. slot_by x y ∷ ss) h.after;
      moves = h.moves;
    }

-- the channel alone is
pub slots_channel : (ks : List Channel) (ds : List Meaning) (at : ℕ) (k l : Channel) (d : Meaning) (Moves : Slot → Slot → Type 0) → slice_get ks at ≡ Some k → slice_get ds at ≡ Some d
    → Moves (slot_by k d) (slot_by l d) → MovesAt (at + 1) Moves (slots_of ks ds) (slots_of (set ks at l) ds)
slots_channel ks ds at k l d Moves is are moves =
    subst (λ es. MovesAt (at + 1) Moves (slots_of ks ds) (slots_of (set ks at l) es)) (set_same ds at d are) (slots_move ks ds at k l d d Moves is are moves)

-- and only its stage, or how many messages wait
pub slots_alike : (ks : List Channel) (ds : List Meaning) (at : ℕ) (k l : Channel) → slice_get ks at ≡ Some k → l.to ≡ k.to → l.inbound.from.stream ≡ k.inbound.from.stream
    → slots_of (set ks at l) ds ≡ slots_of ks ds
slots_alike [] ds at k l is to from = refl
slots_alike (x ∷ ks) [] zero k l is to from = refl
slots_alike (x ∷ ks) [] (suc n) k l is to from = refl
slots_alike (x ∷ ks) (y ∷ ds) zero k l is to from =
    let same = sym (same_Some x k is) in
    let e : slot_by l y ≡ slot_by x y = (λ i. record { device = y; to = to i; from = from i }) ∙ ap (λ z. slot_by z y) same in
    ap (λ s. s ∷ slots_of ks ds) e
slots_alike (x ∷ ks) (y ∷ ds) (suc n) k l is to from = ap (λ ss. slot_by x y ∷ ss) (slots_alike ks ds n k l is to from)
