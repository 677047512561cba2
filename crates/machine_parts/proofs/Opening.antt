-- A connection is opened, or refused since as many are open as may be.
use Rattle.std.proofs.Common.{◌≡◌, ℕ, ◌+◌, ◌≤◌, true, false, cond, List, [], ◌∷◌, ◌++◌, length, map, refl, ap, ◌∙◌, arith}
use Rattle.std.specs.FinSet.{FinSet, insert}
use Rattle.std.specs.List.{filter}
use Rattle.std.specs.Ordering.{nat_cmp}
use Rattle.std.proofs.lemmas.List.{map_push}
use Rattle.report_text.specs.declared.line.Line.{Line}
use Rattle.report_text.specs.declared.line.Line.TheVariants.{Closed, Open}
use Rattle.report_text.specs.declared.line.Why.TheVariants.{Full}
use Rattle.switch_session.specs.Calls.{opened}
use Rattle.machine_parts.specs.declared.connection.Connection.{Connection}
use Rattle.machine_parts.specs.declared.parts.Parts.TheInside.{Inside}
use Rattle.machine_steps.specs.Machine.{State, is_open, open_count, tells}
use Rattle.machine_parts.specs.Seen.{seen}
use Rattle.machine_parts.specs.Sessions.{session_of, due_all}
use Rattle.machine_parts.proofs.Sessions.{due_push, due_small}

count_seen : (xs : List Connection) → length (filter (λ (k : Connection). is_open (session_of k)) xs) ≡ length (filter is_open (map session_of xs))
count_seen [] = refl
count_seen (x ∷ xs) =
    let more = count_seen xs in
    elim (is_open (session_of x)) as (λ b. length (cond b (x ∷ filter (λ (k : Connection). is_open (session_of k)) xs) (filter (λ (k : Connection). is_open (session_of k)) xs))
    ≡ length (cond b (session_of x ∷ filter is_open (map session_of xs)) (filter is_open (map session_of xs)))) [ true ↦ omega (arith, more) | false ↦ more ]

-- one session more
pub due_more : (xs ys : List Connection) (k : Connection) → ys ≡ xs ++ k ∷ [] → due_all (map session_of ys) ≤ due_all (map session_of xs) + 5
due_more xs ys k e =
    omega (arith, ap (λ ks. due_all (map session_of ks)) e, ap due_all (map_push session_of xs k), due_push (map session_of xs) (session_of k), due_small (session_of k))

module _ (a : Inside) (m : State) (view : seen a ≡ m) where
  pub counted : (n : ℕ) (xs : List Connection) → n ≡ length (filter (λ (k : Connection). is_open (session_of k)) xs) → xs ≡ a.sessions.items → n ≡ open_count m
  counted n xs e same =
      e ∙ ap (λ ks. length (filter (λ (k : Connection). is_open (session_of k)) ks)) same ∙ count_seen a.sessions.items ∙ ap open_count view

  numbered : (c : ℕ) (numbers : FinSet nat_cmp) → numbers ≡ insert a.opened c → numbers ≡ insert m.opened c
  numbered c numbers e = e ∙ ap (λ (n : State). insert n.opened c) view

  pub refused_is : (c : ℕ) (numbers : FinSet nat_cmp) (lines : List Line) → numbers ≡ insert a.opened c → lines ≡ a.lines.items ++ Closed c Full ∷ []
      → record (seen a) { opened = numbers; lines = lines } ≡ tells (Closed c Full) (record m { opened = insert m.opened c })
  refused_is c numbers lines en el =
      let told : lines ≡ m.lines ++ Closed c Full ∷ [] = el ∙ ap (λ (n : State). n.lines ++ Closed c Full ∷ []) view in
      λ i. record (view i) { opened = numbered c numbers en i; lines = told i }

  pub opened_is : (c : ℕ) (numbers : FinSet nat_cmp) (ks : List Connection) (k : Connection) (lines : List Line) → numbers ≡ insert a.opened c
      → ks ≡ a.sessions.items ++ k ∷ [] → session_of k ≡ opened c a.settings.capacity → lines ≡ a.lines.items ++ Open c ∷ []
      → record (seen a) { opened = numbers; sessions = map session_of ks; lines = lines }
      ≡ tells (Open c) (record m { opened = insert m.opened c; sessions = m.sessions ++ opened c m.settings.capacity ∷ [] })
  opened_is c numbers ks k lines en ek es el =
      let told : lines ≡ m.lines ++ Open c ∷ [] = el ∙ ap (λ (n : State). n.lines ++ Open c ∷ []) view in
      let more : map session_of ks ≡ m.sessions ++ opened c m.settings.capacity ∷ [] =
      ap (map session_of) ek ∙ map_push session_of a.sessions.items k ∙ ap (λ s. map session_of a.sessions.items ++ s ∷ []) es
      ∙ ap (λ (n : State). n.sessions ++ opened c n.settings.capacity ∷ []) view in
      λ i. record (view i) { opened = numbered c numbers en i; sessions = more i; lines = told i }
