-- One call of a pass, and several.
use Rattle.std.proofs.Common.{◌≡◌, ℕ, zero, suc, ◌^◌, ◌<◌, List, [], ◌∷◌, ◌++◌, length, length-append, slice_get, sym, refl, ap, ◌∙◌, subst, arith, append-nil, append_assoc, Some}
use Rattle.atomic_table.specs.Table.{Me}
use Rattle.history_lock.specs.declared.view.Event.{Event}
use Rattle.history_lock.specs.declared.view.Known.{Known}
use Rattle.history_lock.specs.declared.view.Slot.{Slot}
use Rattle.history_lock.specs.declared.view.Standing.TheVariants.{Idle}
use Rattle.history_lock.specs.declared.view.View.{View}
use Rattle.history_lock.specs.Histories.{StartsWith, ArePositions, times, AreAllowed, Calls, Replays, event, state_behind, AllAt, Did}
use Rattle.history_lock.specs.Rule.{Acts, Adds, Answered, calls_of, records, staged}
use Rattle.history_lock.proofs.States.{behind_more, replays_more, replays_since}
use Rattle.history_lock.proofs.Lists.{positions_more, starts_short, starts_more, starts_trans}

module _ {X : Type 0} where
  get_more : (xs ys : List X) (p : ℕ) (x : X) → slice_get xs p ≡ Some x → slice_get (xs ++ ys) p ≡ Some x
  get_more [] ys p x e = cc
  get_more (y ∷ xs) ys zero x e = e
  get_more (y ∷ xs) ys (suc p) x e = get_more xs ys p x e

  get_last : (xs : List X) (x : X) → slice_get (xs ++ x ∷ []) (length xs) ≡ Some x
  get_last [] x = refl
  get_last (y ∷ xs) x = get_last xs x

  all_more : (xs ys : List X) (ps : List ℕ) (cs : List X) → AllAt xs ps cs → AllAt (xs ++ ys) ps cs
  all_more xs ys [] [] all = tt
  all_more xs ys [] (c ∷ cs) all = absurd all
  all_more xs ys (p ∷ ps) [] all = absurd all
  all_more xs ys (p ∷ ps) (c ∷ cs) (h, all) = (get_more xs ys p c h, all_more xs ys ps cs all)

  all_snoc : (xs : List X) (ps : List ℕ) (cs : List X) (p : ℕ) (c : X) → AllAt xs ps cs → slice_get xs p ≡ Some c → AllAt xs (ps ++ p ∷ []) (cs ++ c ∷ [])
  all_snoc xs [] [] p c all h = (h, tt)
  all_snoc xs [] (d ∷ cs) p c all h = absurd all
  all_snoc xs (q ∷ ps) [] p c all h = absurd all
  all_snoc xs (q ∷ ps) (d ∷ cs) p c (k, all) h = (k, all_snoc xs ps cs p c all h)

module _ {M E R : Type 0} (steps : M → E → R → M → Type 0) (allows : List (Event M E R) → E → Type 0) where
  -- after a turn the own positions lie in the longer history, each once
  pub acts_positions : (u v : View M E R) (entry : E) (reply : R) (w : View M E R) → v.known.seen ≡ u.known.seen → v.known.own ≡ u.known.own → ArePositions (length u.known.seen) u.known.own → Acts steps allows v entry reply w
      → ArePositions (length w.known.seen) w.known.own
  acts_positions u v entry reply w seen own are a =
      let e : Event M E R = event entry reply a.behind in
      let P : View M E R → Type 0 = λ x. ArePositions (length x.known.seen) x.known.own in
      let n = ap length seen in
      subst P (sym a.after) (λ x. positions_more x (length u.known.seen) (length a.log) (length (a.log ++ e ∷ [])) v.known.own (let s = starts_short a.log v.known.seen a.later in omega arith) (length-append a.log (e ∷ [])) (let b = are x in let t = ap (times x) own in omega arith))

  -- a whole turn, as its pass knows of it
  pub acts_calls : (u v : View M E R) (entry : E) (reply : R) (w : View M E R) → v.known.seen ≡ u.known.seen → v.known.own ≡ u.known.own → v.known.leads ≡ u.known.leads → v.known.parts ≡ u.known.parts → v.known.number < 2 ^ 62
      → Acts steps allows v entry reply w → Calls steps allows u.known entry reply w.known
  acts_calls u v entry reply w seen own leads parts small a =
      let e : Event M E R = event entry reply a.behind in
      let later : StartsWith a.log u.known.seen = (a.later.0, a.later.1 ∙ ap (λ y. y ++ a.later.0) seen) in
      let is : w.known.seen ≡ a.log ++ e ∷ [] = ap (λ (x : View M E R). x.known.seen) a.after in
      record {
        opening = a.opening;
        opens = ap (λ (x : View M E R). x.known.opening) a.after ∙ a.opens;
        log = a.log;
        later = later;
        before = a.before;
        behind = a.behind;
        replays = a.legal;
        meanwhile = replays_since steps a.opening a.log u.known.seen a.before later a.legal;
        led = λ lead. (let P : List (Event M E R) → Type 0 = λ x. AreAllowed allows x a.later.0 in subst P seen (a.led (leads ∙ lead)));
        alone = λ all. a.alone (parts ∙ all) ∙ seen;
        step = a.step;
        seen = is;
        legal = (a.behind, (let P : List (Event M E R) → Type 0 = λ x. Replays steps a.opening x a.behind in subst P (sym is) (replays_more steps a.opening a.log a.before e a.legal a.step)));
        now = ap (state_behind a.opening) is ∙ behind_more a.opening a.log e;
        own = ap (λ (x : View M E R). x.known.own) a.after ∙ ap (λ y. y ++ length a.log ∷ []) own;
        small = (let P : ℕ → Type 0 = λ n. n < 2 ^ 62 in subst P (sym (ap (λ (x : View M E R). x.known.number) a.after)) small);
      }

  -- the machine answered, and its answer was recorded
  pub acts_of : (u v : View M E R) (held : List (ℕ × Slot M E R)) (me : Me (Slot M E R) (View M E R)) (t : ℕ) (entry : E) (reply : R) (w : View M E R)
      → v ≡ u → Answered steps u held t entry reply → Adds steps allows v held me → w ≡ staged me.0 Idle → Acts steps allows u entry reply w
  acts_of u v held me t entry reply w same ans a idle =
      let whole : a.call ∷ [] ≡ event entry reply ans.after ∷ [] = sym a.is_call ∙ ap calls_of ans.carries ∙ ans.is_call in
      let is : a.call ≡ event entry reply ans.after = cc in
      let P : List (Event M E R) → Type 0 = λ x. AreAllowed allows x a.later.0 in
      record {
        opening = a.opening;
        opens = sym (ap (λ (x : View M E R). x.known.opening) same) ∙ a.opens;
        log = a.log;
        later = (a.later.0, a.later.1 ∙ ap (λ (x : View M E R). x.known.seen ++ a.later.0) same);
        before = a.before;
        behind = ans.after;
        legal = a.legal;
        led = λ lead. subst P (ap (λ (x : View M E R). x.known.seen) same) (a.led (ap (λ (x : View M E R). x.known.leads) same ∙ lead));
        alone = λ all. a.alone (ap (λ (x : View M E R). x.known.parts) same ∙ all) ∙ ap (λ (x : View M E R). x.known.seen) same;
        step = (let P : Event M E R → Type 0 = λ x. steps a.before x.entry x.reply x.behind in subst P is a.step);
        after = idle ∙ ap (λ (m : Me (Slot M E R) (View M E R)). staged m.0 Idle) a.mine ∙ ap (λ (x : View M E R). records x a.log a.call Idle) same ∙ ap (λ (x : Event M E R). records u a.log x Idle) is;
      }

module _ {M E R : Type 0} where
  -- before its first call a pass did nothing
  pub did_none : (v : Known M E R) → Did v [] v
  did_none v = record { positions = []; own = sym (append-nil v.own); later = ([], sym (append-nil v.seen)); at = tt }

  -- one more call
  pub did_more : (steps : M → E → R → M → Type 0) (allows : List (Event M E R) → E → Type 0) (v w : Known M E R) (calls : List (Event M E R)) (entry : E) (reply : R) (x : Known M E R) → Did v calls w
      → (c : Calls steps allows w entry reply x) → Did v (calls ++ event entry reply c.behind ∷ []) x
  did_more steps allows v w calls entry reply x did c =
      let e : Event M E R = event entry reply c.behind in
      let more : StartsWith (c.log ++ e ∷ []) w.seen = starts_more c.log w.seen e c.later in
      let P : List (Event M E R) → Type 0 = λ y. AllAt y did.positions calls in
      let all : AllAt (c.log ++ e ∷ []) did.positions calls = subst P (sym more.1) (all_more w.seen more.0 did.positions calls did.at) in
      let Q : List (Event M E R) → Type 0 = λ y. AllAt y (did.positions ++ length c.log ∷ []) (calls ++ e ∷ []) in
      let S : List (Event M E R) → Type 0 = λ y. StartsWith y v.seen in
      record {
        positions = did.positions ++ length c.log ∷ [];
        own = c.own ∙ ap (λ y. y ++ length c.log ∷ []) did.own ∙ append_assoc v.own did.positions (length c.log ∷ []);
        later = subst S (sym c.seen) (starts_trans (c.log ++ e ∷ []) w.seen v.seen more did.later);
        at = subst Q (sym c.seen) (all_snoc (c.log ++ e ∷ []) did.positions calls (length c.log) e all (get_last c.log e));
      }
