-- Open sessions that stay, or are led to the rules that are left.
use Rattle.std.proofs.Common.{◌≡◌, ◌⊎◌, ℕ, Bool, true, false, List, refl, sym, ap, ap₂, ◌∙◌, subst, inl, inr}
use Rattle.std.specs.Prelude.{◌==◌, ◌&&◌, not, find}
use Rattle.std.proofs.lemmas.Bool.{and_parts, not-true}
use Rattle.maple_base.specs.declared.key.Key.{Key}
use Rattle.env_cells.specs.declared.updates.Update.{Update}
use Rattle.env_cells.specs.declared.updates.Update.TheVariants.{Host}
use Rattle.report_text.specs.declared.line.Line.TheVariants as lines
use Rattle.switch_traces.specs.Traces.{Learnings}
use Rattle.machine_steps.specs.declared.reply.Reply.{Reply}
use Rattle.machine_steps.specs.Machine.{Session, State, has_ended, is_live, is_of, session_at, state_number, traces_in, tells}
use Rattle.machine_steps.specs.Steps.{switch_of, HeadsFor, AimsBy, AimsOne, AimsAll, Reaches, gone, updated, Updates, Lacks, Teaches, TeachesBy, teaches, entry_of}
use Rattle.machine_steps.proofs.Sound.Zipped.{zip_weaker}
use Rattle.machine_steps.proofs.Sound.Aims.{aimed_so}
use Rattle.machine_steps.proofs.Sound.Reached.{aims_zip}
use Rattle.machine_moves.specs.Moves.{MayBeLed}
use Rattle.machine_moves.proofs.Found.{Together, together_same, together_weaker, zip_together}

-- ---- one session

module _ (n : State) where
  -- of its connection, and open, as before
  led_of : (c : ℕ) (s t : Session) → MayBeLed n s t → is_of c t ≡ is_of c s
  led_of c s t (inl e) = ap (is_of c) e
  led_of c s t (inr l) = let a = aimed_so l.heads.plan s in ap (is_of c) l.heads.now_is ∙ ap₂ (λ d q. d == c && not (has_ended q)) a.connection a.phase

  led_one : (s t : Session) → AimsOne n.learned s t → MayBeLed n s t
  led_one s t aims = go (is_live s && not s.quiet) refl aims
    where
      go : (b : Bool) → (is_live s && not s.quiet) ≡ b → AimsBy b n.learned s t → MayBeLed n s t
      go true e (inl a) = inl a.1
      go true e (inr f) = let p = and_parts (is_live s) (not s.quiet) e in inr (record { live = p.0; noisy = not-true s.quiet p.1; heads = f })
      go false e f = inl f

  led_along : (k : State) → k.learned ≡ n.learned → (s t : Session) → MayBeLed n s t → MayBeLed k s t
  led_along k e s t (inl f) = inl f
  led_along k e s t (inr l) = inr (record { live = l.live; noisy = l.noisy; heads = subst (λ (ls : List Learnings). HeadsFor (traces_in ls (switch_of s)) s t) (sym e) l.heads })

-- ---- the open session of a connection

-- there is one behind where there was one before, and it stays or is led
abbrev pub Follows : ℕ → State → State → Type 0
Follows c m n = Together (MayBeLed n) (session_at c m) (session_at c n)

module _ (c : ℕ) (m n : State) where
  pub follows_kept : session_at c n ≡ session_at c m → Follows c m n
  follows_kept e = subst (Together (MayBeLed n) (session_at c m)) (sym e) (together_same (MayBeLed n) (λ s. inl refl) (session_at c m))

  pub follows_same : n.sessions ≡ m.sessions → Follows c m n
  follows_same e = follows_kept (ap (find (is_of c)) e)

  pub follows_along : (k : State) → k.learned ≡ n.learned → session_at c k ≡ session_at c n → Follows c m n → Follows c m k
  follows_along k learned same h =
      subst (Together (MayBeLed k) (session_at c m)) (sym same) (together_weaker (MayBeLed n) (MayBeLed k) (led_along n k learned) (session_at c m) (session_at c n) h)

  aimed_follow : (ss : List Session) → AimsAll n.learned ss n.sessions → Together (MayBeLed n) (find (is_of c) ss) (session_at c n)
  aimed_follow ss aims = zip_together (MayBeLed n) (is_of c) (led_of n c) ss n.sessions (zip_weaker (AimsOne n.learned) (MayBeLed n) (led_one n) ss n.sessions (aims_zip n.learned ss n.sessions aims))

-- a state was reached
pub follows_reached : (c : ℕ) (old next new : State) → Reaches old next new → Follows c next new
follows_reached c old next new r =
    let after = tells (lines.State (state_number next) (gone old next)) (record next { sessions = r.sessions }) in subst (Follows c next) (sym r.now_is) (aimed_follow c old after next.sessions r.aims)

-- an update
pub follows_update : (c : ℕ) (u : Update) (old : State) (reply : Reply) (new : State) → Updates u old reply new → Lacks old reply new ⊎ Follows c old new
follows_update c u old reply new (inl a) = inr (follows_reached c old (updated u old) new a.2)
follows_update c u old reply new (inr (inl a)) = inr (follows_same c old new (ap (λ (n : State). n.sessions) a.3))
follows_update c u old reply new (inr (inr l)) = inl l

-- what a packet teaches
pub follows_taught : (c switch : ℕ) (k : Key) (old taught : State) → Teaches switch k old taught → Follows c old taught
follows_taught c switch k old taught h = go (teaches switch k old) h
  where
    go : (b : Bool) → TeachesBy b (Host k.dl_src (entry_of switch k)) old taught → Follows c old taught
    go true (inl a) = follows_reached c old (updated (Host k.dl_src (entry_of switch k)) old) taught a.1
    go true (inr a) = follows_same c old taught (ap (λ (n : State). n.sessions) a.1)
    go false e = follows_same c old taught (ap (λ (n : State). n.sessions) e)
