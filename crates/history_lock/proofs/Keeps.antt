-- Each step keeps the rule of the hall.
use Rattle.std.proofs.Common.{◌≡◌, ◌≢◌, ℕ, zero, suc, ◌+◌, ◌^◌, ◌≤◌, inl, List, [], ◌∷◌, length, set, sym, refl, ap, ◌∙◌, subst, ⊎_elim, arith, Some}
use Rattle.std.proofs.lemmas.Bool.Decides.{nat_tests}
use mathlib.Core.Option.{Option as Maybe, some, some-ne-none, some-injective}
use lib.ListN.{get_elem?}
use Rattle.atomic_table.specs.Table.{State, opening as table_opening}
use Rattle.atomic_table.proofs.Lists.{at_set}
use Rattle.history_lock.specs.declared.view.Event.{Event}
use Rattle.history_lock.specs.declared.view.Known.{Known}
use Rattle.history_lock.specs.declared.view.Slot.{Slot}
use Rattle.history_lock.specs.declared.view.Standing.{Standing}
use Rattle.history_lock.specs.declared.view.Standing.TheVariants.{Idle, Looked, Waits, Turn, Recorded}
use Rattle.history_lock.specs.declared.view.View.{View}
use Rattle.history_lock.specs.Histories.{times, once_below, Replays}
use Rattle.history_lock.specs.Rule.{total, leader, waiting, pending, HasTicket, machine_in, opened, Knows, Stands, IsHome, IsLed, Kept}
use Rattle.history_lock.proofs.Totals.{all_set, total_set, total_le}
use Rattle.history_lock.proofs.Leads.{since_same}

only_view : {X : Type 0} (v u : X) (j : ℕ) → get_elem? (v ∷ []) j ≡ some u → (j ≡ 0) × (v ≡ u)
only_view v u zero e = (refl, some-injective v u e)
only_view v u (suc j) e = absurd (some-ne-none u (sym e))

module _ {M : Type 0} where
  pending_one : (stage : Standing M) → pending stage ≤ 1
  pending_one Idle = omega arith
  pending_one Looked = omega arith
  pending_one (Waits t) = omega arith
  pending_one (Turn t m) = omega arith
  pending_one (Recorded t m) = omega arith

  -- a pass without a part does nothing
  pub pending_parts : (parts : ℕ) (stage : Standing M) → (parts ≡ 0 → stage ≡ Idle) → pending stage ≤ parts
  pending_parts zero stage idle = let e : pending stage ≡ 0 = ap pending (idle refl) in omega arith
  pending_parts (suc n) stage idle = let e = pending_one stage in omega arith

module _ {M E R : Type 0} (steps : M → E → R → M → Type 0) (allows : List (Event M E R) → E → Type 0) where
  abbrev VV : Type 0
  VV = View M E R

  abbrev SS : Type 0
  SS = Slot M E R

  begins : (m : M) (slot : SS) → machine_in slot ≡ Some m → Kept steps allows m (table_opening (0 ∷ 0 ∷ 0 ∷ []) (slot ∷ []) (opened m))
  begins m slot has = record {
    log = [];
    machine = m;
    next = 0;
    turn = 0;
    home = some slot;
    words = refl;
    slots = refl;
    replays = refl;
    is_home = inl (slot, refl, has);
    knows = λ port v e. let P : VV → Type 0 = λ u. Knows m [] u.known u.told in subst P (only_view (opened m) v port e).1 record {
      begins = λ _. refl;
      prefix = ([], refl);
      heard = ([], refl);
      below = λ x le. refl;
      before = omega arith;
      spent = λ h. refl;
    };
    stands = λ port v e. let P : VV → Type 0 = λ u. Stands m 0 0 (some slot) u.known.parts u.stage in subst P (only_view (opened m) v port e).1 record {
      in_step = tt;
      out = λ h. absurd h;
      spent = λ h. refl;
    };
    led = λ port v e. let P : VV → Type 0 = λ u. IsLed steps allows [] u in subst P (only_view (opened m) v port e).1 (λ lead. (since_same allows [], since_same allows []));
    leaders = omega arith;
    apart = λ i j u v t a b h k. (only_view (opened m) u i a).0 ∙ sym (only_view (opened m) v j b).0;
    order = omega arith;
    parts = refl;
    owners = λ x. grind (arith, nat_tests);
    tickets = omega arith;
    room = omega arith;
  }

  pub begins_at : (m n : M) (slots : List SS) (slot : SS) → slots ≡ slot ∷ [] → machine_in slot ≡ Some n → m ≡ n → Kept steps allows m (table_opening (0 ∷ 0 ∷ 0 ∷ []) slots (opened m))
  begins_at m n slots slot one has same =
      let P : List SS → Type 0 = λ xs. Kept steps allows m (table_opening (0 ∷ 0 ∷ 0 ∷ []) xs (opened m)) in
      subst P (sym one) (begins m slot (has ∙ ap Some (sym same)))

  abbrev pub Apart : List VV → Type 0
  Apart views = (i j : ℕ) (u v : VV) (t : ℕ) → get_elem? views i ≡ some u → get_elem? views j ≡ some v → HasTicket u.stage t → HasTicket v.stage t → i ≡ j

  -- one view changes, and the tickets stay apart where the new view's ticket is no other's
  pub apart_set : (views : List VV) (id : ℕ) (w : VV) → Apart views
      → ((j : ℕ) (u : VV) (t : ℕ) → j ≢ id → get_elem? views j ≡ some u → HasTicket w.stage t → HasTicket u.stage t → ⊥) → Apart (set views id w)
  apart_set views id w old new i j a b t at bt ha hb =
      ⊎_elim
      (λ (x : (i ≡ id) × (w ≡ a)). ⊎_elim
      (λ (y : (j ≡ id) × (w ≡ b)). x.0 ∙ sym y.0)
      (λ (y : (j ≢ id) × (get_elem? views j ≡ some b)). absurd (new j b t y.0 y.1 (let P : VV → Type 0 = λ u. HasTicket u.stage t in subst P (sym x.1) ha) hb))
      (at_set views id j w b bt))
      (λ (x : (i ≢ id) × (get_elem? views i ≡ some a)). ⊎_elim
      (λ (y : (j ≡ id) × (w ≡ b)). absurd (new i a t x.0 x.1 (let P : VV → Type 0 = λ u. HasTicket u.stage t in subst P (sym y.1) hb) ha))
      (λ (y : (j ≢ id) × (get_elem? views j ≡ some b)). old i j a b t x.1 y.1 ha hb)
      (at_set views id j w b bt))
      (at_set views id i w a at)

  -- what a step owes that changes the view v of the pass id to w
  pub record Moves (opening : M) (s : State SS VV) (k : Kept steps allows opening s) (id : ℕ) (v w : VV) (log : List (Event M E R)) (machine : M) (next turn : ℕ) (home : Maybe SS) (words : List ℕ) (homes : List (Maybe SS)) : Type 0 where
    pub are : words ≡ length log ∷ next ∷ turn ∷ []
    pub slots : homes ≡ home ∷ []
    pub replays : Replays steps opening log machine
    pub is_home : IsHome steps machine (set s.views id w) home
    pub knows : Knows opening log w.known w.told
    pub stands : Stands machine turn next home w.known.parts w.stage
    pub others_know : (known : Known M E R) (told : List (Event M E R)) → Knows opening k.log known told → Knows opening log known told
    pub others_stand : (j : ℕ) (u : VV) → j ≢ id → get_elem? s.views j ≡ some u → Stands k.machine k.turn k.next k.home u.known.parts u.stage → Stands machine turn next home u.known.parts u.stage
    pub apart : (j : ℕ) (u : VV) (t : ℕ) → j ≢ id → get_elem? s.views j ≡ some u → HasTicket w.stage t → HasTicket u.stage t → ⊥
    pub led : IsLed steps allows log w
    pub others_led : (j : ℕ) (u : VV) → j ≢ id → get_elem? s.views j ≡ some u → IsLed steps allows k.log u → IsLed steps allows log u
    pub leads : w.known.leads ≡ v.known.leads
    pub order : turn ≤ next
    pub parts : w.known.parts ≡ v.known.parts
    pub owners : (x : ℕ) → times x w.known.own + once_below x (length k.log) ≡ times x v.known.own + once_below x (length log)
    pub tickets : next + length k.log + waiting v.stage ≤ k.next + length log + waiting w.stage
    pub room : (m n : ℕ) → n + pending v.stage ≡ m + pending w.stage → length k.log + m ≤ 2 ^ 62 + 1024 → n ≤ 1024 → length log + n ≤ 2 ^ 62 + 1024

  pub kept_set : (opening : M) (s : State SS VV) (k : Kept steps allows opening s) (id : ℕ) (v w : VV) (log : List (Event M E R)) (machine : M) (next turn : ℕ) (home : Maybe SS) (words : List ℕ) (homes : List (Maybe SS))
      → get_elem? s.views id ≡ some v → Moves opening s k id v w log machine next turn home words homes
      → Kept steps allows opening record { words = words; homes = homes; views = set s.views id w }
  kept_set opening s k id v w log machine next turn home words homes at o =
      let views : List VV = set s.views id w in
      let Know : ℕ → VV → Type 0 = λ j u. Knows opening log u.known u.told in
      let Stand : ℕ → VV → Type 0 = λ j u. Stands machine turn next home u.known.parts u.stage in
      let Led : ℕ → VV → Type 0 = λ j u. IsLed steps allows log u in
      let stands : (j : ℕ) (u : VV) → get_elem? views j ≡ some u → Stand j u = all_set Stand s.views id w o.stands (λ j u other e. o.others_stand j u other e (k.stands j u e)) in
      let parts : total (λ u. u.known.parts) views + v.known.parts ≡ total (λ u. u.known.parts) s.views + w.known.parts = total_set (λ u. u.known.parts) s.views id v w at in
      let leading : total (λ u. leader u.known.leads) views + leader v.known.leads ≡ total (λ u. leader u.known.leads) s.views + leader w.known.leads = total_set (λ u. leader u.known.leads) s.views id v w at in
      let old = k.parts in
      let same = o.parts in
      let all : total (λ u. u.known.parts) views ≡ 1024 = omega arith in
      let waits : total (λ u. waiting u.stage) views + waiting v.stage ≡ total (λ u. waiting u.stage) s.views + waiting w.stage = total_set (λ u. waiting u.stage) s.views id v w at in
      let pends : total (λ u. pending u.stage) views + pending v.stage ≡ total (λ u. pending u.stage) s.views + pending w.stage = total_set (λ u. pending u.stage) s.views id v w at in
      let few : total (λ u. pending u.stage) views ≤ total (λ u. u.known.parts) views = total_le (λ u. pending u.stage) (λ u. u.known.parts) views (λ j u e. pending_parts u.known.parts u.stage (stands j u e).spent) in
      record {
        log = log;
        machine = machine;
        next = next;
        turn = turn;
        home = home;
        words = o.are;
        slots = o.slots;
        replays = o.replays;
        is_home = o.is_home;
        knows = all_set Know s.views id w o.knows (λ j u other e. o.others_know u.known u.told (k.knows j u e));
        stands = stands;
        apart = apart_set s.views id w k.apart o.apart;
        led = all_set Led s.views id w o.led (λ j u other e. o.others_led j u other e (k.led j u e));
        leaders = (let a = ap leader o.leads in let b = k.leaders in omega arith);
        order = o.order;
        parts = all;
        owners = λ x. (let a : total (λ u. times x u.known.own) views + times x v.known.own ≡ total (λ u. times x u.known.own) s.views + times x w.known.own = total_set (λ u. times x u.known.own) s.views id v w at in let b = o.owners x in let c = k.owners x in omega arith);
        tickets = (let a = o.tickets in let b = k.tickets in omega arith);
        room = o.room (total (λ u. pending u.stage) s.views) (total (λ u. pending u.stage) views) pends k.room (omega arith);
      }
