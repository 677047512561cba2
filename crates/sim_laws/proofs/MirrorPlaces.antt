-- Each place, and the link of its connection, as some of them change.
use Rattle.std.proofs.Common.{◌≡◌, ℕ, Bool, true, false, List, ◌∷◌, ◌++◌, Some, None, sym, ap, ◌∙◌, subst, ⊎_elim, append_assoc}
use Rattle.std.specs.Prelude.{◌==◌}
use Rattle.std.proofs.lemmas.Bool.{cases_Bool, eqb-true}
use Rattle.std.proofs.lemmas.Option.{same_Some}
use Rattle.device_port.specs.Devices.{Meaning}
use Rattle.machine_steps.specs.Machine.{State, was_opened}
use Rattle.world_steps.specs.Worlds.{Link, link_at}
use Rattle.world_steps.specs.Runs.{Event}
use Rattle.sim_steps.specs.Benches.{Bench, MovesAt, Slot, slot_at}
use Rattle.sim_steps.specs.Showing.{BeganWith}
use Rattle.sim_laws.proofs.MirrorLinks.{Linked}
use Rattle.sim_laws.proofs.MirrorSlots.{moved_new, moved_old, moved_others}

-- more events come behind
pub began_on : (c : ℕ) (d : Meaning) (ws own : List Event) → BeganWith c d ws → BeganWith c d (ws ++ own)
began_on c d ws own b = record {
  before = b.before;
  event = b.event;
  later = b.later ++ own;
  parts = ap (λ xs. xs ++ own) b.parts ∙ append_assoc b.before (b.event ∷ b.later) own;
  reply = b.reply;
  opens = b.opens;
  link = b.link;
  there = b.there;
  switch = b.switch;
}

-- by whether its connection was opened: with the switch of the device that was there first; or all is as it was
abbrev pub IsShown : Bool → ℕ → Slot → Slot → List Event → List Link → Type 0
IsShown true c s t ws links = BeganWith c s.device ws × Linked c t links
IsShown false c s t ws links = (link_at c links ≡ None) × (t ≡ s)

pub record IsMirrored (a : Bench) (c : ℕ) (m : State) (t : Slot) (ws : List Event) (links : List Link) : Type 0 where
  pub first : Slot
  pub was : slot_at c a.slots ≡ Some first
  pub shown : IsShown (was_opened c m) c first t ws links

-- each place, behind these events
abbrev pub Mirrors : Bench → Bench → List Event → List Link → Type 0
Mirrors a b ws links = (c : ℕ) (t : Slot) → slot_at c b.slots ≡ Some t → IsMirrored a c b.machine t ws links

shown_on : (opened : Bool) (c : ℕ) (s t : Slot) (ws own : List Event) (links behind : List Link) → link_at c behind ≡ link_at c links → IsShown opened c s t ws links → IsShown opened c s t (ws ++ own) behind
shown_on true c s t ws own links behind same (began, l) = (began_on c s.device ws own began, record { sent = l.sent; there = same ∙ l.there; holds = l.holds })
shown_on false c s t ws own links behind same (none, e) = (same ∙ none, e)

module _ (a b b' : Bench) (ws own : List Event) (links behind : List Link) (mirrors : Mirrors a b ws links) where
  abbrev SameOpened : ℕ → Type 0
  SameOpened c = was_opened c b'.machine ≡ was_opened c b.machine

  -- nothing changes at a place
  stays : (c : ℕ) (t : Slot) → slot_at c b'.slots ≡ slot_at c b.slots → SameOpened c → link_at c behind ≡ link_at c links → slot_at c b'.slots ≡ Some t
      → IsMirrored a c b'.machine t (ws ++ own) behind
  stays c t slots opened same e =
      let p = mirrors c t (sym slots ∙ e) in
      record {
        first = p.first;
        was = p.was;
        shown = subst (λ o. IsShown o c p.first t (ws ++ own) behind) (sym opened) (shown_on (was_opened c b.machine) c p.first t ws own links behind same p.shown);
      }

  pub all_stay : b'.slots ≡ b.slots → ((c : ℕ) → SameOpened c) → ((c : ℕ) → link_at c behind ≡ link_at c links) → Mirrors a b' (ws ++ own) behind
  all_stay slots opened same c t e = stays c t (ap (slot_at c) slots) (opened c) (same c) e

  -- one changes
  pub one_changes : (d : ℕ) (new : Slot) → slot_at d b'.slots ≡ Some new → IsMirrored a d b'.machine new (ws ++ own) behind
      → ((c : ℕ) → (d == c) ≡ false → slot_at c b'.slots ≡ slot_at c b.slots) → ((c : ℕ) → (d == c) ≡ false → SameOpened c)
      → ((c : ℕ) → (d == c) ≡ false → link_at c behind ≡ link_at c links) → Mirrors a b' (ws ++ own) behind
  one_changes d new there is slots opened others c t e = ⊎_elim itself (λ other. stays c t (slots c other) (opened c other) (others c other) e) (cases_Bool (d == c))
    where
      itself : (d == c) ≡ true → IsMirrored a c b'.machine t (ws ++ own) behind
      itself same =
          let place = eqb-true d c same in
          subst (λ n. IsMirrored a n b'.machine t (ws ++ own) behind) place
          (subst (λ (u : Slot). IsMirrored a d b'.machine u (ws ++ own) behind) (same_Some new t (sym there ∙ ap (λ n. slot_at n b'.slots) place ∙ e)) is)

  -- a place whose connection was opened moves
  pub one_moves : (d : ℕ) (R : Slot → Slot → Type 0) (at : MovesAt d R b.slots b'.slots) → was_opened d b.machine ≡ true → ((c : ℕ) → SameOpened c) → Linked d at.new behind
      → ((c : ℕ) → (d == c) ≡ false → link_at c behind ≡ link_at c links) → Mirrors a b' (ws ++ own) behind
  one_moves d R at was opened linked others =
      let p = mirrors d at.old (moved_old d R b.slots b'.slots at) in
      one_changes d at.new (moved_new d R b.slots b'.slots at)
      (record {
        first = p.first;
        was = p.was;
        shown = subst (λ o. IsShown o d p.first at.new (ws ++ own) behind) (sym (opened d ∙ was))
            (began_on d p.first.device ws own (subst (λ o. IsShown o d p.first at.old ws links) was p.shown).0, linked);
      })
      (moved_others d R b.slots b'.slots at) (λ c other. opened c) others
