-- Messages are taken out: an open session stays, and an ended one goes.
use Rattle.std.proofs.Common.{◌≡◌, ℕ, suc, true, false, List, ◌++◌, set, take, drop, map, sym, ap, ◌∙◌, arith}
use Rattle.std.specs.List.{AllPairs, remove}
use Rattle.std.proofs.lemmas.List.{take-set, drop-set-lt}
use Rattle.switch_session.specs.Calls.{TakesOut}
use Rattle.machine_parts.specs.declared.connection.Connection.{Connection}
use Rattle.machine_parts.specs.declared.parts.Parts.TheInside.{Inside}
use Rattle.machine_steps.specs.Machine.{Session, State, is_open, with_session, without_session}
use Rattle.machine_parts.specs.Seen.{seen}
use Rattle.machine_parts.specs.Sessions.{session_of, due}
use Rattle.machine_steps.specs.Sound.{AreOthers}
use Rattle.machine_steps.specs.Steps.{emptied}
use Rattle.machine_parts.proofs.Sessions.{StandsAt, changed, removed}

-- what is changed at a place goes with it
pub remove_set : {X : Type 0} (xs : List X) (at : ℕ) (x : X) → remove (set xs at x) at ≡ remove xs at
remove_set xs at x = ap (λ ys. ys ++ drop (suc at) (set xs at x)) (take-set xs at x) ∙ ap (λ ys. take at xs ++ ys) (drop-set-lt (suc at) xs at x (omega arith))

pub due_taken : (s t : Session) (bytes : List ℕ) → TakesOut s bytes t → due t ≡ due s
due_taken s t bytes takes = ap due takes.now_is

pub same_connection : (s t : Session) (bytes : List ℕ) (c : ℕ) → TakesOut s bytes t → s.connection ≡ c → t.connection ≡ c
same_connection s t bytes c takes of = ap (λ (u : Session). u.connection) takes.now_is ∙ of

module _ (a : Inside) (m : State) (view : seen a ≡ m) (c at : ℕ) (s : Session) (is : StandsAt m c at s) (others : AllPairs AreOthers m.sessions) (t : Session) (of : t.connection ≡ c) where
  pub stays : (k : Connection) → session_of k ≡ t → is_open s ≡ true → record (seen a) { sessions = map session_of (set a.sessions.items at k) } ≡ emptied (is_open s) t m
  stays k same open' =
      let put : map session_of (set a.sessions.items at k) ≡ (with_session t m).sessions =
      changed a.sessions.items m (ap (λ (n : State). n.sessions) view) c at s is others k (ap (λ (u : Session). u.connection) same ∙ of) ∙ ap (λ u. (with_session u m).sessions) same in
      let now : record (seen a) { sessions = map session_of (set a.sessions.items at k) } ≡ with_session t m = λ i. record (view i) { sessions = put i } in
      now ∙ ap (λ b. emptied b t m) (sym open')

  pub goes : (ks : List Connection) → ks ≡ remove a.sessions.items at → is_open s ≡ false → record (seen a) { sessions = map session_of ks } ≡ emptied (is_open s) t m
  goes ks left over =
      let put : map session_of ks ≡ (without_session t.connection m).sessions =
      ap (map session_of) left ∙ removed a.sessions.items m (ap (λ (n : State). n.sessions) view) c at s is others ∙ ap (λ n. (without_session n m).sessions) (sym of) in
      let now : record (seen a) { sessions = map session_of ks } ≡ without_session t.connection m = λ i. record (view i) { sessions = put i } in
      now ∙ ap (λ b. emptied b t m) (sym over)
