-- A connection that is opened has an open session, where the reply doesn't tell that there is none.
use Rattle.std.proofs.Common.{◌≡◌, ◌⊎◌, ℕ, true, false, cond, refl, sym, ap, ◌∙◌, inl, inr}
use Rattle.std.specs.Prelude.{◌&&◌, not, Option, Some, None, is_some}
use Rattle.std.proofs.lemmas.Bool.{eq-eqb}
use Rattle.switch_session.specs.Calls.{opened}
use Rattle.machine_steps.specs.declared.entry.Entry.TheVariants as entries
use Rattle.machine_steps.specs.declared.reply.Reply.{Reply}
use Rattle.machine_steps.specs.declared.reply.Reply.TheVariants.{NoMemory}
use Rattle.machine_steps.specs.Machine.{Session, State, is_of, session_at, was_opened}
use Rattle.machine_steps.specs.Steps.{Opens}
use Rattle.machine_steps.specs.Sound.{IsInOrder, IsSound}
use Rattle.machine_steps.proofs.Sound.Zipped.{find_all, find_passes}
use Rattle.machine_moves.proofs.Found.{find_last, its_connection}
use Rattle.machine_moves.proofs.Growing.{connections_open}
use Rattle.machine_moves.specs.Told.{is_end, IsOpenedNow, OpensAreTold}

module _ (c : ℕ) (old : State) (h : IsSound old) (unopened : was_opened c old ≡ false) where
  -- a session was opened on each connection that has one
  none_open : session_at c old ≡ None
  none_open = go (session_at c old) refl
    where
      go : (o : Option Session) → session_at c old ≡ o → o ≡ None
      go None e = refl
      go (Some s) e =
          let was = (find_all (IsInOrder old) (is_of c) old.sessions s h.sessions e).opened in
          let its = its_connection c s (find_passes (is_of c) old.sessions s e) in
          let also = sym (ap (λ k. was_opened k old) its) ∙ was in
          absurd (cc)

  module _ (reply : Reply) (new : State) where
    opens : Opens c old reply new → IsOpenedNow c reply new ⊎ ((reply ≡ NoMemory) × (new ≡ old))
    opens (inl (was, (r, e))) = absurd (cc)
    opens (inr (inl (fresh, full, r, e))) =
        inl (record {
          opened = (connections_open old (entries.Open c) reply new (inr (inl (fresh, full, r, e)))).opens c refl (λ f. (let g = sym r ∙ f in absurd (cc)));
          session = ap (λ (n : State). is_some (session_at c n)) e ∙ ap is_some none_open ∙ sym (ap (λ a. not (is_end a)) r);
        })
    opens (inr (inr (inl (fresh, few, r, e)))) =
        let s = opened c old.settings.capacity in
        let found = find_last (is_of c) old.sessions s none_open ∙ ap (λ b. cond (b && true) (Some s) None) (eq-eqb c c refl) in
        inl (record {
          opened = (connections_open old (entries.Open c) reply new (inr (inr (inl (fresh, few, r, e))))).opens c refl (λ f. (let g = sym r ∙ f in absurd (cc)));
          session = ap is_some (ap (session_at c) e ∙ found) ∙ sym (ap (λ a. not (is_end a)) r);
        })
    opens (inr (inr (inr l))) = inr l

pub opens_are_told : OpensAreTold
opens_are_told old c reply new h unopened steps = opens c old h unopened reply new steps
