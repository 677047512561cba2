-- What each entry makes of the open session of a connection.
use Rattle.std.proofs.Common.{◌≡◌, ◌⊎◌, ℕ, Bool, true, false, cond, [], ◌∷◌, refl, sym, ap, ◌∙◌, subst, subst₂, inl, inr, ⊎_elim}
use Rattle.std.specs.Prelude.{◌==◌, ◌&&◌, Option, Some, None}
use Rattle.std.proofs.lemmas.Bool.{cases_eq, eqb-true}
use Rattle.std.proofs.lemmas.Option.{none-some}
use Rattle.maple_base.specs.declared.decision.Outcome.TheVariants.{Decided}
use Rattle.of10_codec.specs.declared.message.Message.{Message}
use Rattle.switch_session.specs.Calls.{opened}
use Rattle.switch_session.specs.Sessions.{ended}
use Rattle.machine_steps.specs.declared.entry.Entry.{Entry}
use Rattle.machine_steps.specs.declared.entry.Entry.TheVariants as entries
use Rattle.machine_steps.specs.declared.entry.Input.TheVariants.{Message as Whole}
use Rattle.machine_steps.specs.declared.reply.Reply.{Reply}
use Rattle.machine_steps.specs.Machine.{Session, State, is_open, is_of, session_at, was_opened}
use Rattle.machine_steps.specs.Effects.{Effect}
use Rattle.machine_steps.specs.Effects.Effect.{RunsOut, Rests, Misses, Outdates, Tells, Reports, OpensSession, TurnsAway, Empties, Moves, Quiets, Ends, Advances, Renews, Accepts, Overflows, Waits, Spends, AnswersJob}
use Rattle.machine_steps.specs.Steps.{Lacks, Opens, HearsInput, Steps, updated, renewed}
use Rattle.machine_steps.specs.Sound.{IsSound}
use Rattle.machine_steps.proofs.Effects.{effect_of}
use Rattle.machine_steps.proofs.Sound.Zipped.{find_append, find_passes}
use Rattle.machine_moves.specs.Moves.{PutsAndIsLed, MovesBy, HearsOne, HearsBy, StaysOpen}
use Rattle.machine_moves.specs.MoveLaws.{IsOpened, SessionsMove, SessionsOpen}
use Rattle.machine_moves.proofs.Concluding.{concludes_moves}
use Rattle.machine_moves.proofs.Found.{placed, find_last, its_connection}
use Rattle.machine_moves.proofs.Following.{Follows, follows_kept, follows_same, follows_reached}
use Rattle.machine_moves.proofs.MoveHearing.{heard_moves}
use Rattle.machine_moves.proofs.Kept.{takes_moves}
use Rattle.machine_moves.proofs.Turning.{Turns, Turned, only_led, turned_follows, turned_shut, follows_placed, hears_either}

-- it opens no connection, and no message comes or is taken out
abbrev IsOther : Entry → Type 0
IsOther (entries.Open d) = ⊥
IsOther (entries.Heard d (Whole x)) = ⊥
IsOther (entries.TakeOut d) = ⊥
IsOther entry = Unit {0}

module _ (N : Session → Type 0) (c : ℕ) (old : State) (reply : Reply) (new : State) where
  abbrev Moved : Type 0
  Moved = Turned N c old new (PutsAndIsLed new)

  follows : Follows c old new → Moved
  follows f = turned_follows N c old new (PutsAndIsLed new) (only_led new) f

  stands : new.sessions ≡ old.sessions → Moved
  stands e = follows (follows_same c old new e)

  same : new ≡ old → Moved
  same e = stands (ap (λ (n : State). n.sessions) e)

  -- the session of a connection ends
  shut : (d : ℕ) (s t : Session) → session_at d old ≡ Some s → t ≡ ended s → new.sessions ≡ placed t old.sessions → Moved
  shut d s t found over are =
      let its = ap (λ (y : Session). y.connection) over ∙ its_connection d s (find_passes (is_of d) old.sessions s found) in
      ⊎_elim (λ f. turned_shut N c old new (PutsAndIsLed new) t (its ∙ f) (ap is_open over) are) (λ o. follows (follows_placed c t old new (λ f. o (sym its ∙ f)) are)) (cases_eq d c)

  module _ (h : IsSound old) where
    -- any other entry, by its effect
    by_effect : (entry : Entry) → IsOther entry → Effect old entry reply new → Lacks old reply new ⊎ Moved
    by_effect entry other (RunsOut l) = inl l
    by_effect entry other (Rests p e) = inr (same e)
    by_effect entry other (Misses number is r e) = inr (same e)
    by_effect entry other (Outdates number is differs r more e) = inr (stands (ap (λ (n : State). n.sessions) e))
    by_effect entry other (Tells p more e) = inr (stands (ap (λ (n : State). n.sessions) e))
    by_effect entry other (Reports is r e) = inr (stands (ap (λ (n : State). n.sessions) e))
    by_effect entry other (OpensSession d is new_one few r e) = absurd (subst IsOther is other)
    by_effect entry other (TurnsAway d is new_one full r e) = absurd (subst IsOther is other)
    by_effect entry other (Empties d s t bytes is found out r e) = absurd (subst IsOther is other)
    by_effect entry other (Moves x t from still p more e) = absurd (subst IsOther from.is other)
    by_effect entry other (Quiets kind code t from p e) = absurd (subst IsOther from.is other)
    by_effect entry other (Ends t end (inl (d, s, is, found, over)) r more e) = inr (shut d s t found over (ap (λ (n : State). n.sessions) e))
    by_effect entry other (Ends t end (inr (inl (u, dpid, ports, from, over))) r more e) = absurd (subst IsOther from.is other)
    by_effect entry other (Ends t end (inr (inr (last, from))) r more e) = absurd (subst IsOther from.is other)
    by_effect entry other (Advances u may free r a) = inr (follows (follows_reached c old (updated u old) new a))
    by_effect entry other (Renews p is r a) = inr (follows (follows_reached c old (renewed p old) new a))
    by_effect entry other (Accepts t dpid ports from r j) = absurd (subst IsOther from.is other)
    by_effect entry other (Overflows t buffer frame k m p many r e) = absurd (subst IsOther p.hearing.is other)
    by_effect entry other (Waits t buffer frame k m p few r e) = absurd (subst IsOther p.hearing.is other)
    by_effect entry other (Spends j run r e) = inr (stands (ap (λ (n : State). n.sessions) e))
    by_effect entry other (AnswersJob j items cells d run a) = inr (concludes_moves N old h c j run.there reply new items cells (Decided d) a)

    hears : (d : ℕ) (x : Message) → HearsInput d (Whole x) old reply new → Lacks old reply new ⊎ Turned N c old new (HearsBy (d == c) x new)
    hears d x (inl (none, p)) = inr (hears_either N c d x old new unheard (λ o. follows_same c old new (ap (λ (n : State). n.sessions) p.1)))
      where
        unheard : d ≡ c → Turned N c old new (HearsOne x new)
        unheard e =
            let before : session_at c old ≡ None = ap (λ k. session_at k old) (sym e) ∙ none in
            subst₂ (Turns N (HearsOne x new)) (sym before) (sym (ap (session_at c) p.1 ∙ before)) tt
    hears d x (inr (inl r)) = heard_moves N old h c d x reply new r
    hears d x (inr (inr r)) = inl r.lacks

-- ---- a session is opened

module _ (c d : ℕ) (old : State) (reply : Reply) (new : State) where
  abbrev Opened : Session → Type 0
  Opened = IsOpened c old (entries.Open d) reply

  abbrev fresh : Session
  fresh = opened d old.settings.capacity

  opens : Opens d old reply new → Lacks old reply new ⊎ Turned Opened c old new (PutsAndIsLed new)
  opens (inl (was, p)) = inr (same Opened c old reply new p.1)
  opens (inr (inl (new_one, full, r, e))) = inr (stands Opened c old reply new (ap (λ (n : State). n.sessions) e))
  opens (inr (inr (inl (new_one, few, r, e)))) = inr (go (session_at c old) refl)
    where
      opened_at : (b : Bool) → (d == c) ≡ b → Turns Opened (PutsAndIsLed new) None (cond (b && true) (Some fresh) None)
      opened_at true f =
          let its = eqb-true d c f in
          record { entry_is = ap entries.Open its; new_one = ap (λ k. was_opened k old) (sym its) ∙ new_one; done = λ g. (let w = sym r ∙ g in absurd (cc)); session = ap (λ k. opened k old.settings.capacity) its }
      opened_at false f = tt

      go : (o : Option Session) → session_at c old ≡ o → Turned Opened c old new (PutsAndIsLed new)
      go None f =
          subst₂ (Turns Opened (PutsAndIsLed new)) (sym f) (sym (ap (session_at c) e ∙ find_last (is_of c) old.sessions fresh f)) (opened_at (d == c) refl)
      go (Some s) f = follows Opened c old reply new (follows_kept c old new (ap (session_at c) e ∙ find_append (is_of c) old.sessions (fresh ∷ []) s f ∙ sym f))
  opens (inr (inr (inr l))) = inl l

-- ---- all entries

abbrev Turn : ℕ → State → Entry → Reply → State → Type 0
Turn c old entry reply new = Lacks old reply new ⊎ Turned (IsOpened c old entry reply) c old new (MovesBy c entry new)

turn : (c : ℕ) (old : State) (entry : Entry) (reply : Reply) (new : State) → IsSound old → Steps old entry reply new → Turn c old entry reply new
turn c old (entries.Open d) reply new h s = opens c d old reply new s
turn c old (entries.Heard d (Whole x)) reply new h s = hears (IsOpened c old (entries.Heard d (Whole x)) reply) c old reply new h d x s
turn c old (entries.TakeOut d) reply new h s = takes_moves (IsOpened c old (entries.TakeOut d) reply) c d old h reply new s
turn c old other reply new h s = by_effect (IsOpened c old other reply) c old reply new h other tt (effect_of old reply new other s)

pub sessions_move : SessionsMove
sessions_move old entry reply new h admits steps c s found = ⊎_elim (λ l. inl l) (λ t. inr (go (session_at c new) refl (subst (λ o. Turns (IsOpened c old entry reply) (MovesBy c entry new) o (session_at c new)) found t))) (turn c old entry reply new h steps)
  where
    go : (p : Option Session) → session_at c new ≡ p → Turns (IsOpened c old entry reply) (MovesBy c entry new) (Some s) p → (session_at c new ≡ None) ⊎ StaysOpen c entry new s
    go None e m = inl e
    go (Some t) e m = inr (record { behind = t; there = e; moves = m })

pub sessions_open : SessionsOpen
sessions_open old entry reply new h steps c s none found =
    ⊎_elim (λ l. absurd (none-some s (sym none ∙ ap (session_at c) (sym l.1) ∙ found))) (λ t. subst₂ (Turns (IsOpened c old entry reply) (MovesBy c entry new)) none found t) (turn c old entry reply new h steps)
