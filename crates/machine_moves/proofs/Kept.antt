-- The session of a connection whose messages are taken out.
use Rattle.std.proofs.Common.{◌≡◌, ◌≢◌, ◌⊎◌, ℕ, Bool, true, false, cond, List, [], ◌∷◌, refl, sym, ap, ap₂, ◌∙◌, subst, subst₂, inl, inr}
use Rattle.std.specs.Prelude.{◌==◌, ◌&&◌, find, Option, Some, None}
use Rattle.std.specs.List.{AllByRecursion}
use Rattle.std.proofs.lemmas.Bool.{and_left, and_parts, eq-eqb, eqb-true, eqb-false, ne_eqb}
use Rattle.std.proofs.lemmas.Option.{none-some, same_Some}
use Rattle.machine_steps.specs.declared.reply.Reply.{Reply}
use Rattle.machine_steps.specs.Machine.{Session, State, is_open, is_of, session_at}
use Rattle.machine_steps.specs.Steps.{Lacks, TakesMessages, emptied, kept_at}
use Rattle.machine_steps.specs.Sound.{AreOthers, IsSound}
use Rattle.machine_steps.proofs.Sound.Zipped.{all_others, all_weaker, find_passes, pairs_to}
use Rattle.machine_steps.proofs.Sound.Following.{others_turn}
use Rattle.machine_moves.specs.Moves.{TakesBy}
use Rattle.machine_moves.specs.MoveLaws.{OpenIsKept}
use Rattle.machine_moves.proofs.Found.{its_connection, found_beside, found_gone, found_without}
use Rattle.machine_moves.proofs.Turning.{Turns, Turned, turns_end, turned_kept, turned_placed}

module _ {X : Type 0} where
  -- two tests that say the same of each element
  find_alike : (p q : X → Bool) (xs : List X) → AllByRecursion (λ x. q x ≡ p x) xs → find q xs ≡ find p xs
  find_alike p q [] h = refl
  find_alike p q (x ∷ xs) h = ap (λ b. cond b (Some x) (find q xs)) h.0 ∙ ap (cond (p x) (Some x)) (find_alike p q xs h.1)

  -- the first that passes a test is the first that passes a stronger one, where it passes that
  find_stronger : (p q : X → Bool) → ((x : X) → p x ≡ true → q x ≡ true) → (xs : List X) (s : X) → find q xs ≡ Some s → p s ≡ true → find p xs ≡ Some s
  find_stronger p q f [] s e t = absurd (none-some s e)
  find_stronger p q f (x ∷ xs) s e t = step (p x) (q x) refl refl (λ d. find_stronger p q f xs s d t) e
    where
      step : (a b : Bool) → p x ≡ a → q x ≡ b → (find q xs ≡ Some s → find p xs ≡ Some s) → cond b (Some x) (find q xs) ≡ Some s → cond a (Some x) (find p xs) ≡ Some s
      step true true g k later d = d
      step true false g k later d = let l = f x g in absurd (cc)
      step false true g k later d = let l = ap p (same_Some x s d) in absurd (cc)
      step false false g k later d = later d

pub open_is_kept : OpenIsKept
open_is_kept m c s h found =
    find_alike (is_of c) (λ (x : Session). x.connection == c) m.sessions
    (all_weaker (λ x. (x ≡ s) ⊎ AreOthers x s) (λ x. (x.connection == c) ≡ is_of c x) one m.sessions (all_others AreOthers others_turn (is_of c) m.sessions s (pairs_to AreOthers m.sessions h.others) found))
    ∙ found
  where
    passes : is_of c s ≡ true
    passes = find_passes (is_of c) m.sessions s found

    one : (x : Session) → (x ≡ s) ⊎ AreOthers x s → (x.connection == c) ≡ is_of c x
    one x (inl e) = eq-eqb x.connection c (ap (λ (y : Session). y.connection) e ∙ its_connection c s passes) ∙ sym (ap (is_of c) e ∙ passes)
    one x (inr o) =
        let other = ne_eqb x.connection c (λ e. o.connections (e ∙ sym (its_connection c s passes))) in other ∙ sym (and_left (x.connection == c) (is_open x) other)

-- messages are taken out
module _ (N : Session → Type 0) (c d : ℕ) (old : State) (h : IsSound old) (reply : Reply) (new : State) where
  takes_either : (d ≡ c → Turned N c old new (TakesBy true)) → (d ≢ c → session_at c new ≡ session_at c old) → Turned N c old new (TakesBy (d == c))
  takes_either own other = go (d == c) refl
    where
      go : (b : Bool) → (d == c) ≡ b → Turned N c old new (TakesBy b)
      go true e = own (eqb-true d c e)
      go false e = turned_kept N c old new (TakesBy false) (λ s. refl) (other (eqb-false d c e))

  nothing_kept : kept_at d old ≡ None → new ≡ old → d ≡ c → Turned N c old new (TakesBy true)
  nothing_kept none e same = go (session_at c old) refl
    where
      go : (o : Option Session) → session_at c old ≡ o → Turned N c old new (TakesBy true)
      go None f = subst₂ (Turns N (TakesBy true)) (sym f) (sym (ap (session_at c) e ∙ f)) tt
      go (Some s) f = absurd (none-some s (sym none ∙ ap (λ k. kept_at k old) same ∙ open_is_kept old c s h f))

  module _ (s : Session) (found : kept_at d old ≡ Some s) where
    abbrev taken_out : Session
    taken_out = record s { outbox = []; taken = s.used }

    its : s.connection ≡ d
    its = eqb-true s.connection d (find_passes (λ (x : Session). x.connection == d) old.sessions s found)

    emptied_moves : (b : Bool) → is_open s ≡ b → new ≡ emptied b taken_out old → Turned N c old new (TakesBy (d == c))
    emptied_moves true o e = takes_either own (λ other. ap (session_at c) e ∙ found_beside c taken_out old.sessions (λ f. other (sym its ∙ f)))
      where
        own : d ≡ c → Turned N c old new (TakesBy true)
        own same =
            let kept : find (λ (x : Session). x.connection == c) old.sessions ≡ Some s = ap (λ k. kept_at k old) (sym same) ∙ found in
            let passes : is_of c s ≡ true = ap₂ (λ a b. a && b) (eq-eqb s.connection c (its ∙ same)) o in
            turned_placed N c old new (TakesBy true) s taken_out
            (find_stronger (is_of c) (λ (x : Session). x.connection == c) (λ x p. (and_parts (x.connection == c) (is_open x) p).0) old.sessions s kept passes)
            (its ∙ same) o (ap (λ (n : State). n.sessions) e) refl
    emptied_moves false o e =
        takes_either
        (λ same. subst (Turns N (TakesBy true) (session_at c old)) (sym (ap (session_at c) e ∙ found_gone c s.connection old.sessions (its ∙ same))) (turns_end N (TakesBy true) (session_at c old)))
        (λ other. ap (session_at c) e ∙ found_without c s.connection old.sessions (λ f. other (sym its ∙ f)))

  pub takes_moves : TakesMessages d old reply new → Lacks old reply new ⊎ Turned N c old new (TakesBy (d == c))
  takes_moves (inl (none, r, e)) = inr (takes_either (nothing_kept none e) (λ other. ap (session_at c) e))
  takes_moves (inr (inl (s, t, bytes, found, out, r, e))) = inr (emptied_moves s found (is_open s) refl (subst (λ x. new ≡ emptied (is_open s) x old) out.now_is e))
  takes_moves (inr (inr l)) = inl l
