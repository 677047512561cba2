-- Connections that were opened, states and policies stay what they were.
use Rattle.std.proofs.Common.{◌≡◌, ◌⊎◌, ℕ, zero, suc, ◌+◌, true, List, [], ◌∷◌, ◌++◌, length, append-nil, length-append, sym, ap, ◌∙◌, inl, inr, ⊎_elim, arith}
use Rattle.std.specs.Prelude.{◌==◌, ◌||◌, Some}
use Rattle.std.specs.FinSet as set
use Rattle.std.specs.List.{slice_get}
use Rattle.std.specs.Cmp.{nat_cmp_total, unsigned_tied}
use Rattle.std.proofs.lemmas.Bool.{or_cases, or_left, or_right, eqb-true, eq-eqb}
use Rattle.std.proofs.lemmas.List.{length_push}
use Rattle.machine_steps.specs.declared.entry.Entry.{Entry}
use Rattle.machine_steps.specs.declared.entry.Entry.TheVariants as entries
use Rattle.machine_steps.specs.declared.reply.Reply.{Reply}
use Rattle.machine_steps.specs.declared.reply.Reply.TheVariants.{NoMemory}
use Rattle.machine_steps.specs.Machine.{PolicyState, State, this_state, was_opened}
use Rattle.machine_steps.specs.Steps.{Opens}
use Rattle.machine_steps.proofs.Changes.{Network, network, Follows, changes}
use Rattle.machine_steps.proofs.Changes.Follows.{Stays, Next, Renewed}
use Rattle.machine_steps.proofs.Later.{is_later}
use Rattle.machine_moves.specs.MoveLaws.{OpensOnly, ConnectionsOpen, StatesGrow}

-- the states so far, by their numbers
abbrev history : State → List PolicyState
history m = m.states ++ this_state m ∷ []

abbrev states_in : Network → List PolicyState
states_in n = n.2 ++ record { policy = length n.0; scene = n.3 } ∷ []

-- the states that were stay
more_states : (old : State) (entry : Entry) (reply : Reply) (n : Network) → Follows old entry reply n → (more : List PolicyState) × (states_in n ≡ history old ++ more)
more_states old entry reply n (Stays untold e) = ([], ap states_in e ∙ sym (append-nil (history old)))
more_states old entry reply n (Next scene may told e) = (record { policy = length old.earlier; scene = scene } ∷ [], ap states_in e)
more_states old entry reply n (Renewed scene p is told e) = (record { policy = length (old.earlier ++ old.policy ∷ []); scene = scene } ∷ [], ap states_in e)

module _ (old : State) (reply : Reply) (new : State) where
  -- ---- an Open

  -- nothing changes, since the connection was opened or memory ran out; or it is opened now
  abbrev IsOpenedNow : ℕ → Type 0
  IsOpenedNow c = ((new ≡ old) × ((was_opened c old ≡ true) ⊎ (reply ≡ NoMemory))) ⊎ (new.opened ≡ set.insert old.opened c)

  opens : (c : ℕ) → Opens c old reply new → IsOpenedNow c
  opens c (inl (was, p)) = inl (p.1, inl was)
  opens c (inr (inl (new_one, full, r, e))) = inr (ap (λ (n : State). n.opened) e)
  opens c (inr (inr (inl (new_one, few, r, e)))) = inr (ap (λ (n : State). n.opened) e)
  opens c (inr (inr (inr l))) = inl (l.1, inr l.0)

  -- ---- connections

  was_inserted : (d : ℕ) → new.opened ≡ set.insert old.opened d → (c : ℕ) → was_opened c new ≡ (c == d || was_opened c old)
  was_inserted d e c = ap (λ o. set.contains o c) e ∙ set.contains-insert nat_cmp_total old.opened d c ∙ ap (λ b. b || was_opened c old) (unsigned_tied c d)

  open_opens : (d : ℕ) → IsOpenedNow d → OpensOnly old (entries.Open d) reply new
  open_opens d (inl (e, why)) = record {
    stay = λ c o. ap (was_opened c) e ∙ o;
    opens = λ c i done. (let same : c ≡ d = cc in ⊎_elim (λ was. ap (was_opened c) e ∙ ap (λ k. was_opened k old) same ∙ was) (λ lack. absurd (done lack)) why);
    others = λ c o n. (let f = ap (was_opened c) e in absurd (cc));
  }
  open_opens d (inr e) = record {
    stay = λ c o. was_inserted d e c ∙ or_right (c == d) (was_opened c old) o;
    opens = λ c i done. was_inserted d e c ∙ or_left (c == d) (was_opened c old) (eq-eqb c d (cc));
    others = λ c o n. ⊎_elim (λ i. ap entries.Open (sym (eqb-true c d i))) (λ w. absurd (cc)) (or_cases (c == d) (was_opened c old) (sym (was_inserted d e c) ∙ n));
  }

  none_opens : (entry : Entry) → ((c : ℕ) → entry ≡ entries.Open c → ⊥) → (new.opened ≡ old.opened) ⊎ ((c : ℕ) × (entry ≡ entries.Open c)) → OpensOnly old entry reply new
  none_opens entry other (inl e) = record {
    stay = λ c o. ap (λ w. set.contains w c) e ∙ o;
    opens = λ c i done. absurd (other c i);
    others = λ c o n. (let f = ap (λ w. set.contains w c) e in absurd (cc));
  }
  none_opens entry other (inr (c, is)) = absurd (other c is)

pub connections_open : ConnectionsOpen
connections_open old (entries.Open d) reply new s = open_opens old reply new d (opens old reply new d s)
connections_open old other reply new s = none_opens old reply new other (λ c e. cc) (changes old other reply new s).opened

-- what stands at a place of a list stays there
get_more : {A : Type 0} (xs ys : List A) (n : ℕ) (y : A) → slice_get xs n ≡ Some y → slice_get (xs ++ ys) n ≡ Some y
get_more [] ys n y e = cc
get_more (x ∷ xs) ys zero y e = e
get_more (x ∷ xs) ys (suc n) y e = get_more xs ys n y e

pub states_grow : StatesGrow
states_grow old entry reply new steps =
    let later = is_later old reply new entry steps in
    let more = more_states old entry reply (network new) (changes old entry reply new steps).follows in
    let lengths : length (history new) ≡ length (history old) + length more.0 = ap length more.1 ∙ length-append (history old) more.0 in
    record {
      settings = later.settings;
      later = omega (arith, lengths, length_push new.states (this_state new), length_push old.states (this_state old));
      states = λ n p e. ap (λ ps. slice_get ps n) more.1 ∙ get_more (history old) more.0 n p e;
      policies = λ n p e. ap (λ ps. slice_get ps n) later.policies_are ∙ get_more (old.earlier ++ old.policy ∷ []) later.more n p e;
    }
