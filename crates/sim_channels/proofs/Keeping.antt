-- What entries leave of the machine: the legal history behind it, which sessions are open, the policy, and what waits in it for a place.
use Rattle.std.proofs.Common.{◌≡◌, ℕ, ◌+◌, Bool, true, false, not, List, [], ◌∷◌, ◌++◌, refl, sym, ap, ◌∙◌, subst, inl, inr, ⊎_elim}
use Rattle.std.specs.Prelude.{◌&&◌, ◌==◌, Option, Some, None, is_some}
use Rattle.std.specs.List.{AllByRecursion}
use Rattle.std.proofs.lemmas.Bool.{cases_Bool, eq-eqb, ne_eqb}
use Rattle.machine_moves.specs.MoveLaws.{OpensOnly}
use Rattle.machine_moves.specs.Moves.{Fares, TakesBy}
use Rattle.machine_moves.specs.Told.{concerns, is_end, may_end}
use Rattle.machine_moves.specs.Sends.{CanBeOffered, OutboxesCanBeOffered}
use Rattle.machine_steps.specs.declared.entry.Entry.{Entry}
use Rattle.machine_steps.specs.declared.entry.Entry.TheVariants as entries
use Rattle.machine_steps.specs.declared.reply.Reply.{Reply}
use Rattle.machine_steps.specs.Admitting.{Admits}
use Rattle.machine_steps.specs.Histories.{Leads, Turn}
use Rattle.machine_steps.specs.Machine.{Session, State, opening, session_at, was_opened}
use Rattle.machine_steps.specs.Sound.{IsSound}
use Rattle.machine_steps.specs.Steps.{Steps, kept_at}
use Rattle.machine_steps.proofs.Sound.Zipped.{find_all}
use Rattle.world_steps.specs.Worlds.{lacks_memory, messages_for, outbox_of}
use Rattle.sim_steps.specs.Benches.{is_plugged}
use Rattle.sim_channels.specs.Channels.{IsReached}
use Rattle.machine_desk.specs.Driving.{DrivingLaws}
use Rattle.sim_channels.proofs.Making.{may_make, no_state}

-- ---- the history

leads_then : (a : State) (ts : List Turn) (b : State) (us : List Turn) (c : State) → Leads a ts b → Leads b us c → Leads a (ts ++ us) c
leads_then a [] b us c e k = subst (λ (m : State). Leads m us c) e k
leads_then a (t ∷ ts) b us c (same, turn, rest) k = (same, turn, leads_then t.behind ts b us c rest k)

pub reached_along : (m : State) (ts : List Turn) (n : State) → IsReached m → Leads m ts n → IsReached n
reached_along m ts n r leads = record {
  policy = r.policy;
  settings = r.settings;
  ranges = r.ranges;
  turns = r.turns ++ ts;
  leads = leads_then (opening r.policy r.settings) r.turns m ts n r.leads leads;
}

pub reached_on : (old : State) (entry : Entry) (reply : Reply) (new : State) → IsReached old → Admits old entry → Steps old entry reply new → IsReached new
reached_on old entry reply new r admitted steps =
    let turn : Turn = record { before = old; entry = entry; reply = reply; behind = new } in
    reached_along old (turn ∷ []) new r (refl, record { admitted = admitted; steps = steps }, refl)

some_at : {X : Type 0} (o : Option X) → is_some o ≡ true → (x : X) × (o ≡ Some x)
some_at None e = absurd (cc)
some_at (Some x) e = (x, refl)

-- ---- which entries bear on the session of a connection

-- they may open it, or end it
abbrev pub bears_on : ℕ → Entry → Bool
bears_on c (entries.Open d) = d == c
bears_on c entry = may_end c entry

-- of another connection than that of a place
pub elsewhere : (at c : ℕ) → (c ≡ at + 1 → ⊥) → (at + 1 == c) ≡ false
elsewhere at c other = ne_eqb (at + 1) c (λ e. other (sym e))

opens_none : (entry : Entry) (c : ℕ) → bears_on c entry ≡ false → entry ≡ entries.Open c → ⊥
opens_none entry c f e = (let g : true ≡ false = sym (eq-eqb c c refl) ∙ sym (ap (bears_on c) e) ∙ f in cc)

ends_none : (entry : Entry) (c : ℕ) → bears_on c entry ≡ false → may_end c entry ≡ false
ends_none (entries.Open d) c f = refl
ends_none entry c f = f

-- the session of a connection is open as it was, and was opened if it was
pub record IsAside (c : ℕ) (old new : State) : Type 0 where
  pub live : is_plugged c new ≡ is_plugged c old
  pub opened : was_opened c new ≡ was_opened c old

module _ (laws : DrivingLaws) where
  sound_along : (m : State) (ts : List Turn) (n : State) → IsSound m → Leads m ts n → IsSound n
  sound_along m [] n h e = subst IsSound (sym e) h
  sound_along m (t ∷ ts) n h (same, turn, rest) =
      sound_along t.behind ts n (laws.keeps t.before t.entry t.reply t.behind (subst IsSound (sym same) h) turn.admitted turn.steps) rest

  pub reached_sound : (m : State) → IsReached m → IsSound m
  reached_sound m r = sound_along (opening r.policy r.settings) r.turns m (laws.sound r.policy r.settings r.ranges) r.leads

  -- all that waits in the machine can be offered
  pub can_offer : (m : State) → IsReached m → (c : ℕ) → AllByRecursion CanBeOffered (messages_for c m)
  can_offer m r c = go (kept_at c m) refl
    where
      offered : OutboxesCanBeOffered m
      offered = laws.sends r.policy r.settings r.turns m r.ranges r.leads

      go : (o : Option Session) → kept_at c m ≡ o → AllByRecursion CanBeOffered (outbox_of o)
      go None e = tt
      go (Some s) e = find_all (λ (t : Session). AllByRecursion CanBeOffered t.outbox) (λ (t : Session). t.connection == c) m.sessions s offered e

  -- ---- a session that stays as it is keeps its messages

  pub messages_same : (c : ℕ) (old new : State) → IsReached old → IsReached new → is_plugged c old ≡ true → session_at c new ≡ session_at c old → messages_for c new ≡ messages_for c old
  messages_same c old new r q plugged same =
      let found = some_at (session_at c old) plugged in
      let before = laws.kept old c found.0 (reached_sound old r) found.1 in
      let behind = laws.kept new c found.0 (reached_sound new q) (same ∙ found.1) in
      ap outbox_of (behind ∙ sym before)

  module _ (old : State) (entry : Entry) (reply : Reply) (new : State) (r : IsReached old) (steps : Steps old entry reply new) where
    sound : IsSound old
    sound = reached_sound old r

    pub session_same : may_make entry ≡ false → (c : ℕ) → concerns c entry old ≡ false → session_at c new ≡ session_at c old
    session_same none c other = laws.others old entry reply new sound steps (no_state old entry reply new none steps) c other

    pub aside : (c : ℕ) → bears_on c entry ≡ false → IsAside c old new
    aside c none = record {
      live = live (session_at c old) refl (session_at c new) refl;
      opened = ⊎_elim (λ was. only.stay c was ∙ sym was)
          (λ was. ⊎_elim (λ is. absurd (opens_none entry c none (only.others c was is))) (λ is. is ∙ sym was) (cases_Bool (was_opened c new)))
          (cases_Bool (was_opened c old));
    }
      where
        only : OpensOnly old entry reply new
        only = laws.connections old entry reply new steps

        live : (o : Option Session) → session_at c old ≡ o → (p : Option Session) → session_at c new ≡ p → is_plugged c new ≡ is_plugged c old
        live (Some s) e p f = laws.ends old entry reply new sound steps c s e ∙ ap (λ b. not (b && is_end reply)) (ends_none entry c none) ∙ sym (ap is_some e)
        live None e None f = ap is_some f ∙ sym (ap is_some e)
        live None e (Some t) f = absurd (opens_none entry c none (laws.sessions old entry reply new sound steps c t e f).entry_is)

  -- what waited in the machine for an open session was taken out
  pub nothing_left : (c : ℕ) (old : State) (reply : Reply) (new : State) → IsReached old → Steps old (entries.TakeOut c) reply new → lacks_memory reply ≡ false → is_plugged c old ≡ true
      → messages_for c new ≡ []
  nothing_left c old reply new r steps memory plugged =
      let found = some_at (session_at c old) plugged in
      go found.0 (laws.moves old (entries.TakeOut c) reply new (reached_sound old r) tt steps c found.0 found.1)
    where
      there : is_plugged c new ≡ true
      there = (aside old (entries.TakeOut c) reply new r steps c refl).live ∙ plugged

      go : (s : Session) → Fares c old (entries.TakeOut c) reply new s → messages_for c new ≡ []
      go s (inl lacks) = (let g : true ≡ false = sym (ap lacks_memory lacks.0) ∙ memory in absurd (cc))
      go s (inr (inl none)) = (let g : true ≡ false = sym there ∙ ap is_some none in absurd (cc))
      go s (inr (inr stays)) =
          let takes : TakesBy true s stays.behind = subst (λ b. TakesBy b s stays.behind) (eq-eqb c c refl) stays.moves in
          let kept = laws.kept new c stays.behind (reached_sound new (reached_on old (entries.TakeOut c) reply new r tt steps)) stays.there in
          ap outbox_of kept ∙ ap (λ (t : Session). t.outbox) takes
