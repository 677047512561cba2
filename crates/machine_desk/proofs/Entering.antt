-- An entry at the desk.
use Rattle.std.proofs.Common.{◌≡◌, ◌≢◌, ℕ, Bool, false, List, [], ◌∷◌, ◌++◌, length, ap, refl, subst, sym, ◌∙◌}
use Rattle.atomic_table.specs.Seated.{TableId}
use Rattle.std.proofs.lemmas.List.{append_assoc}
use Rattle.history_lock.specs.declared.view.Known.{Known}
use Rattle.history_lock.specs.Histories.{AreAllowed, Calls, Replays, StartsWith, event, state_behind}
use Rattle.history_lock.proofs.States.{replays_end}
use Rattle.maple_base.specs.declared.decision.Settings.{Settings}
use Rattle.policy_lang.specs.declared.Policy.{Policy}
use Rattle.machine_moves.specs.Told.{is_new_state, policy_behind}
use Rattle.machine_steps.specs.declared.entry.Entry.{Entry}
use Rattle.machine_steps.specs.declared.reply.Reply.{Reply}
use Rattle.machine_steps.specs.declared.reply.Reply.TheVariants.{Overload}
use Rattle.machine_steps.specs.Histories.{IsTurn, Leads}
use Rattle.machine_steps.specs.Machine.{State}
use Rattle.machine_sharing.specs.Between.{Stays}
use Rattle.machine_sharing.specs.Legal.{turn_of, turns_of}
use Rattle.machine_sharing.specs.Sharing.{Call, Allows, Turns}
use Rattle.machine_desk.specs.Arriving.{HasRoomFor}
use Rattle.machine_desk.specs.Desks.{Enters, IsDesk, IsTold, NoneOverflowed, calls_of, turn, view_by}
use Rattle.machine_desk.specs.Driving.{DeskLaws}
use Rattle.machine_desk.proofs.Room.{calls_find_room, finds_room, none_append, room_stays}
use Rattle.machine_desk.proofs.Told.{learning_told, told_by}
use Rattle.machine_desk.proofs.Turning.{calls_same, nothing_behind, turns_append, turns_length}

abbrev Seen : Type 0
Seen = Known State Entry Reply

module _ (laws : DeskLaws) (old new : Seen) (start : State) (worn : Bool) (entry : Entry) (reply : Reply) (h : IsDesk old start worn)
    (opens : new.opening ≡ old.opening) (c : Calls Turns Allows old entry reply new) where
  abbrev pub rest : List Call
  rest = c.later.0

  abbrev pub ahead : State
  ahead = state_behind start old.seen

  is : c.opening ≡ start
  is = let o = c.opens in let begun = h.opens in cc

  now : state_behind start new.seen ≡ c.behind
  now = ap (λ x. state_behind x new.seen) (sym is) ∙ c.now

  allowed : AreAllowed Allows (calls_of (turns_of start old.seen)) (calls_of (turns_of ahead rest))
  allowed =
      let P : List Call → Type 0 = λ x. AreAllowed Allows x (calls_of (turns_of ahead rest)) in
      let Q : List Call → Type 0 = λ x. AreAllowed Allows old.seen x in
      subst P (sym (calls_same start old.seen)) (subst Q (sym (calls_same ahead rest)) (c.led h.leads))

  meanwhile : Leads ahead (turns_of ahead rest) c.before
  meanwhile =
      let P : State → Type 0 = λ x. Replays Turns (state_behind x old.seen) rest c.before in
      (laws.turns ahead rest c.before (subst P is c.meanwhile)).leads

  made : IsTurn (turn c.before entry reply (state_behind start new.seen))
  made =
      let P : State → Type 0 = λ x. IsTurn (turn c.before entry reply x) in
      subst P (sym now) (record { admitted = c.step.admitted; steps = c.step.steps })

  before_is : state_behind start c.log ≡ c.before
  before_is = ap (λ x. state_behind x c.log) (sym is) ∙ sym (replays_end Turns c.opening c.log c.before c.replays)

  past : turns_of start new.seen ≡ (turns_of start old.seen ++ turns_of ahead rest) ++ turn c.before entry reply (state_behind start new.seen) ∷ []
  past =
      ap (turns_of start) c.seen
      ∙ turns_append start c.log (event entry reply c.behind ∷ [])
      ∙ ap (λ x. turns_of start c.log ++ turn_of x (event entry reply c.behind) ∷ []) before_is
      ∙ ap (λ x. x ++ turn_of c.before (event entry reply c.behind) ∷ []) (ap (turns_of start) c.later.1 ∙ turns_append start old.seen rest)
      ∙ ap (λ x. (turns_of start old.seen ++ turns_of ahead rest) ++ turn c.before entry reply x ∷ []) (sym now)

  own : new.own ≡ old.own ++ length (turns_of start old.seen ++ turns_of ahead rest) ∷ []
  own =
      c.own
      ∙ ap (λ n. old.own ++ n ∷ []) (sym (turns_length start c.log) ∙ ap length (ap (turns_of start) c.later.1 ∙ turns_append start old.seen rest))

  -- between the two, the policy and the settings stayed
  stays : Stays ahead c.before
  stays =
      let P : State → Type 0 = λ x. Stays (state_behind x old.seen) c.before in
      subst P is (laws.since c.opening c.before c.log old.seen c.replays (rest, c.later.1, c.led h.leads))

  -- there is room still behind what others did
  has_room : HasRoomFor entry ahead → reply ≢ Overload
  has_room room = finds_room c.before entry reply c.behind (room_stays entry ahead c.before stays room) c.step.steps

  alone : old.parts ≡ 1024 → turns_of ahead rest ≡ []
  alone all = ap (turns_of ahead) (nothing_behind old.seen rest (sym c.later.1 ∙ c.alone all))

  pub enters : HasRoomFor entry ahead → (p q : TableId) (name : ℕ) (mark : Seen) → q ≡ p → new.parts ≡ old.parts
      → Enters (view_by p name old mark start worn) entry reply (view_by q name new mark start worn)
  enters room p q name mark there parts = record {
    others = turns_of ahead rest;
    allowed = allowed;
    between = c.before;
    meanwhile = meanwhile;
    made = made;
    room = has_room room;
    past = past;
    own = own;
    small = c.small;
    alone = alone;
    footing = λ i. record { place = there i; name = name; start = start; parts = parts i; marked = turns_of start mark.seen };
    worn = refl;
  }

  -- what was seen at the mark was seen
  pub is_marked : (mark : Seen) → StartsWith old.seen mark.seen → StartsWith new.seen mark.seen
  is_marked mark begun = (
    begun.0 ++ (rest ++ event entry reply c.behind ∷ []),
    (
        c.seen
        ∙ ap (λ x. x ++ event entry reply c.behind ∷ []) (c.later.1 ∙ ap (λ x. x ++ rest) begun.1)
        ∙ append_assoc (mark.seen ++ begun.0) rest (event entry reply c.behind ∷ [])
        ∙ append_assoc mark.seen begun.0 (rest ++ event entry reply c.behind ∷ [])),
  )

  -- and no reply told that too many packets wait
  pub is_roomy : HasRoomFor entry ahead → NoneOverflowed old.seen → NoneOverflowed new.seen
  is_roomy room none =
      let between = calls_find_room old.seen rest (state_behind c.opening old.seen) c.before (c.led h.leads) c.meanwhile in
      let log = subst NoneOverflowed (sym c.later.1) (none_append old.seen rest none between) in
      subst NoneOverflowed (sym c.seen) (none_append c.log (event entry reply c.behind ∷ []) log (has_room room, tt))

  legal : Replays Turns start new.seen (state_behind start new.seen)
  legal =
      let run = c.legal.1 in
      let P : State → Type 0 = λ x. Replays Turns x new.seen (state_behind x new.seen) in
      let Q : State → Type 0 = λ x. Replays Turns c.opening new.seen x in
      subst P is (subst Q (replays_end Turns c.opening new.seen c.legal.0 run) run)

  pub is_desk : new.leads ≡ old.leads → worn ≡ false → IsDesk new start worn
  is_desk leads well = record { leads = leads ∙ h.leads; opens = opens ∙ h.opens; sound = h.sound; legal = legal; full = λ full. absurd (let is = well in let other = full in cc) }

  pub is_told : (learning : Bool) (budget : ℕ) → IsTold learning budget ahead → IsTold (told_by (is_new_state reply) entry learning) budget (state_behind start new.seen)
  is_told learning budget t =
      let policy_is : (state_behind start new.seen).policy ≡ policy_behind entry reply c.before.policy = laws.policy c.before entry reply (state_behind start new.seen) made.steps in
      let same : c.before.policy ≡ ahead.policy = stays.policy in
      record {
        learning_is =
            ap (told_by (is_new_state reply) entry) (t.learning_is ∙ ap (λ (p : Policy). p.learning) (sym same))
            ∙ sym (ap (λ (p : Policy). p.learning) policy_is ∙ learning_told entry reply c.before.policy);
        budget_is =
            t.budget_is
            ∙ ap (λ (x : Settings). x.budget) (laws.settings start ahead old.seen h.legal ∙ sym (laws.settings start (state_behind start new.seen) new.seen legal));
      }
