-- What becomes of the open session of a connection, by what it was and what stands in its place.
use Rattle.std.proofs.Common.{◌≡◌, ◌≢◌, ℕ, Bool, true, false, [], append-nil, refl, sym, ap, ◌∙◌, subst, subst₂}
use Rattle.std.specs.Prelude.{◌==◌, find, Option, Some, None}
use Rattle.std.proofs.lemmas.Bool.{eqb-true, eqb-false}
use Rattle.of10_codec.specs.declared.message.Message.{Message}
use Rattle.machine_steps.specs.Machine.{Session, State, is_open, is_of, session_at}
use Rattle.machine_moves.specs.Moves.{MayBeLed, Puts, PutsAndIsLed, HearsOne, HearsBy}
use Rattle.machine_moves.proofs.Found.{Together, together_same, placed, found_beside, found_placed, found_shut}
use Rattle.machine_moves.proofs.Following.{Follows, follows_kept}

-- one that is opened is N, one that stays open moves by M, and one may end
abbrev pub Turns : (Session → Type 0) → (Session → Session → Type 0) → Option Session → Option Session → Type 0
Turns N M None None = Unit {0}
Turns N M None (Some t) = N t
Turns N M (Some s) None = Unit {0}
Turns N M (Some s) (Some t) = M s t

module _ (N : Session → Type 0) (M : Session → Session → Type 0) where
  -- none is there behind
  pub turns_end : (o : Option Session) → Turns N M o None
  turns_end None = tt
  turns_end (Some s) = tt

  pub turns_together : (R : Session → Session → Type 0) → ((s t : Session) → R s t → M s t) → (o p : Option Session) → Together R o p → Turns N M o p
  turns_together R f None None h = tt
  turns_together R f None (Some t) h = absurd h
  turns_together R f (Some s) None h = tt
  turns_together R f (Some s) (Some t) h = f s t h

  -- none was opened
  pub turns_none : (o : Option Session) → Together M None o → Turns N M None o
  turns_none None h = tt
  turns_none (Some t) h = absurd h

-- ---- nothing but messages

pub puts_none : (s : Session) → Puts s s
puts_none s = record { messages = []; others = tt; now_is = sym (ap (λ o. record s { outbox = o }) (append-nil s.outbox)) }

pub only_led : (new : State) (s t : Session) → MayBeLed new s t → PutsAndIsLed new s t
only_led new s t l = record { between = s; puts = puts_none s; led = l }

-- ---- the entry is for this connection, or for another

module _ (N : Session → Type 0) (c : ℕ) (old new : State) where
  abbrev pub Turned : (Session → Session → Type 0) → Type 0
  Turned M = Turns N M (session_at c old) (session_at c new)

  pub turned_follows : (M : Session → Session → Type 0) → ((s t : Session) → MayBeLed new s t → M s t) → Follows c old new → Turned M
  turned_follows M f h = turns_together N M (MayBeLed new) f (session_at c old) (session_at c new) h

  pub turned_kept : (M : Session → Session → Type 0) → ((s : Session) → M s s) → session_at c new ≡ session_at c old → Turned M
  turned_kept M f e = subst (Turns N M (session_at c old)) (sym e) (turns_together N M M (λ s t m. m) (session_at c old) (session_at c old) (together_same M f (session_at c old)))

  -- the session of this connection is another now
  pub turned_placed : (M : Session → Session → Type 0) (s t : Session) → session_at c old ≡ Some s → t.connection ≡ c → is_open t ≡ true → new.sessions ≡ placed t old.sessions → M s t → Turned M
  turned_placed M s t found its opened are moves =
      subst₂ (Turns N M) (sym found) (sym (ap (find (is_of c)) are ∙ found_placed c t old.sessions its opened s found)) moves

  -- it ended
  pub turned_shut : (M : Session → Session → Type 0) (t : Session) → t.connection ≡ c → is_open t ≡ false → new.sessions ≡ placed t old.sessions → Turned M
  turned_shut M t its shut are =
      subst (Turns N M (session_at c old)) (sym (ap (find (is_of c)) are ∙ found_shut c t old.sessions its shut)) (turns_end N M (session_at c old))

-- a session of another connection is another now
pub follows_placed : (c : ℕ) (t : Session) (old new : State) → t.connection ≢ c → new.sessions ≡ placed t old.sessions → Follows c old new
follows_placed c t old new other are = follows_kept c old new (ap (find (is_of c)) are ∙ found_beside c t old.sessions other)

-- a message comes to this connection, or to another
pub hears_either : (N : Session → Type 0) (c d : ℕ) (x : Message) (old new : State) → (d ≡ c → Turned N c old new (HearsOne x new)) → (d ≢ c → Follows c old new) → Turned N c old new (HearsBy (d == c) x new)
hears_either N c d x old new own other = go (d == c) refl
  where
    go : (b : Bool) → (d == c) ≡ b → Turned N c old new (HearsBy b x new)
    go true e = own (eqb-true d c e)
    go false e = turned_follows N c old new (MayBeLed new) (λ s t l. l) (other (eqb-false d c e))
