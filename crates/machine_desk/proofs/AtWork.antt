-- The work on a packet at the desk.
use Rattle.std.proofs.Common.{◌≡◌, ◌≢◌, ℕ, ◌^◌, ◌≤◌, Bool, true, false, List, [], ◌++◌, ap, append-nil, refl, subst, sym, ◌∙◌}
use Rattle.std.proofs.lemmas.List.{append_cancel_left}
use denote.Enum.Bare.{sameb}
use Rattle.atomic_table.specs.Seated.{TableId}
use Rattle.history_lock.specs.declared.view.Known.{Known}
use Rattle.history_lock.specs.Histories.{AllAt, AreAllowed, HasSeenLegal, IsAllowedSince, Replays, StartsWith, state_behind}
use Rattle.history_lock.proofs.Lists.{starts_trans}
use Rattle.history_lock.proofs.States.{replays_end, replays_since}
use Rattle.maple_base.specs.declared.decision.Settings.{Settings}
use Rattle.policy_lang.specs.declared.Policy.{Policy}
use Rattle.machine_steps.specs.declared.entry.Entry.{Entry}
use Rattle.machine_steps.specs.declared.reply.Reply.{Reply}
use Rattle.machine_steps.specs.Histories.{Leads}
use Rattle.machine_steps.specs.Machine.{State}
use Rattle.machine_steps.specs.Waiting.{Waiting}
use Rattle.machine_sharing.specs.Between.{Stays}
use Rattle.machine_sharing.specs.Legal.{turns_of}
use Rattle.machine_sharing.specs.Sharing.{Call, Allows, Turns}
use Rattle.packet_workers.specs.contracts.worked.Worked.{the_type}
use Rattle.packet_workers.specs.declared.worked.Worked.{Worked}
use Rattle.packet_workers.specs.declared.worked.Worked.TheVariants.{Worn}
use Rattle.packet_workers.specs.declared.worked.Worked.TheVariants as how
use Rattle.packet_workers.specs.Adding.{Adds}
use Rattle.packet_workers.specs.Rounds.{IsBudgetOf, IsWornBy, Rounds}
use Rattle.machine_desk.specs.Desks.{DeskView, IsDesk, IsTold, NoneOverflowed, calls_of, view_by}
use Rattle.machine_desk.specs.Driving.{DeskLaws}
use Rattle.machine_desk.specs.Working.{WearsBy, Works}
use Rattle.machine_desk.proofs.Room.{calls_find_room, none_append}
use Rattle.machine_desk.proofs.Turning.{calls_same, turns_append}

abbrev Seen : Type 0
Seen = Known State Entry Reply

-- ---- a worn desk works no more

pub works_not : (item : Waiting) (d : DeskView) → d.worn ≡ true → 2 ^ 62 ≤ d.number → Works item Worn d d
works_not item d worn full = record {
  turns = [];
  past = sym (append-nil d.past);
  meanwhile = refl;
  allowed = tt;
  calls = [];
  positions = [];
  own = sym (append-nil d.own);
  at = tt;
  rounds = refl;
  alone = λ all. refl;
  worn = (worn, full);
}

-- ---- whether it is worn

abbrev pub is_worn : Worked → Bool
is_worn Worn = true
is_worn worked = false

pub is_same : (worked : Worked) → sameb the_type worked Worn ≡ is_worn worked
is_same Worn = refl
is_same how.Answered = refl
is_same how.Spent = refl
is_same how.NotOpen = refl
is_same how.NoMemory = refl

pub full_by : (worked : Worked) (n : ℕ) → IsWornBy worked n → is_worn worked ≡ true → 2 ^ 62 ≤ n
full_by Worn n h worn = h
full_by how.Answered n h worn = absurd (cc)
full_by how.Spent n h worn = absurd (cc)
full_by how.NotOpen n h worn = absurd (cc)
full_by how.NoMemory n h worn = absurd (cc)

-- and whether memory sufficed
pub not_lacking : (worked : Worked) → sameb the_type worked how.NoMemory ≡ false → worked ≢ how.NoMemory
not_lacking worked enough lacks = let is : sameb the_type worked how.NoMemory ≡ true = ap (λ w. sameb the_type w how.NoMemory) lacks in cc

wears_by : (worked : Worked) (a b : DeskView) → a.worn ≡ false → b.worn ≡ is_worn worked → IsWornBy worked b.number → WearsBy worked a b
wears_by Worn a b well worn h = (worn, h)
wears_by how.Answered a b well worn h = (well, worn, h)
wears_by how.Spent a b well worn h = (well, worn, h)
wears_by how.NotOpen a b well worn h = (well, worn, h)
wears_by how.NoMemory a b well worn h = (well, worn, h)

-- ---- the budget

-- the machine was opened with the desk's budget
pub budget_is : (laws : DeskLaws) (k : Seen) (start : State) (worn learning : Bool) (budget : ℕ) → IsDesk k start worn → IsTold learning budget (state_behind start k.seen)
    → IsBudgetOf budget k
budget_is laws k start worn learning budget h t m opens =
    let begun = h.opens in
    let is : m ≡ start = cc in
    ap (λ (x : State). x.settings.budget) is ∙ sym (t.budget_is ∙ ap (λ (x : Settings). x.budget) (laws.settings start (state_behind start k.seen) k.seen h.legal))

module _ (laws : DeskLaws) (old new : Seen) (start : State) (worn : Bool) (h : IsDesk old start worn) (calls : List Call) (a : Adds old calls new) where
  abbrev pub ahead : State
  ahead = state_behind start old.seen

  abbrev pub behind : State
  behind = state_behind start new.seen

  abbrev pub since : IsAllowedSince Allows new.seen old.seen
  since = a.led h.leads

  -- all that was called meanwhile, by others too
  abbrev pub rest : List Call
  rest = since.0

  begun : HasSeenLegal Turns new
  begun = a.legal (ahead, (start, h.opens, h.legal))

  is : begun.1.0 ≡ start
  is = let opens = begun.1.1 in let opening = a.opening in let first = h.opens in cc

  legal : Replays Turns start new.seen behind
  legal =
      let P : State → Type 0 = λ x. Replays Turns x new.seen begun.0 in
      let run = subst P is begun.1.2 in
      let Q : State → Type 0 = λ x. Replays Turns start new.seen x in
      subst Q (replays_end Turns start new.seen begun.0 run) run

  past : turns_of start new.seen ≡ turns_of start old.seen ++ turns_of ahead rest
  past = ap (turns_of start) since.1 ∙ turns_append start old.seen rest

  meanwhile : Leads ahead (turns_of ahead rest) behind
  meanwhile = (laws.turns ahead rest behind (replays_since Turns start new.seen old.seen behind (rest, since.1) legal)).leads

  -- no reply told that too many packets wait
  pub roomy_stays : NoneOverflowed old.seen → NoneOverflowed new.seen
  roomy_stays none =
      let run = replays_since Turns start new.seen old.seen behind (rest, since.1) legal in
      subst NoneOverflowed (sym since.1) (none_append old.seen rest none (calls_find_room old.seen rest ahead behind since.2 run))

  allowed : AreAllowed Allows (calls_of (turns_of start old.seen)) (calls_of (turns_of ahead rest))
  allowed =
      let P : List Call → Type 0 = λ x. AreAllowed Allows x (calls_of (turns_of ahead rest)) in
      let Q : List Call → Type 0 = λ x. AreAllowed Allows old.seen x in
      subst P (sym (calls_same start old.seen)) (subst Q (sym (calls_same ahead rest)) since.2)

  at : AllAt (calls_of (turns_of start new.seen)) a.did.positions calls
  at = let P : List Call → Type 0 = λ x. AllAt x a.did.positions calls in subst P (sym (calls_same start new.seen)) a.did.at

  alone : old.parts ≡ 1024 → calls_of (turns_of ahead rest) ≡ calls
  alone all = calls_same ahead rest ∙ append_cancel_left old.seen rest calls (sym since.1 ∙ a.alone all)

  -- what was seen at the mark was seen
  pub marked : (mark : Seen) → StartsWith old.seen mark.seen → StartsWith new.seen mark.seen
  marked mark begins = starts_trans new.seen old.seen mark.seen a.did.later begins

  pub desk_stays : (now : Bool) → (now ≡ true → 2 ^ 62 ≤ new.number) → IsDesk new start now
  desk_stays now full = record { leads = a.leads ∙ h.leads; opens = a.opening ∙ h.opens; sound = h.sound; legal = legal; full = full }

  -- the policy and the settings stayed
  stays : Stays ahead behind
  stays = laws.since start behind new.seen old.seen legal since

  pub told_stays : (learning : Bool) (budget : ℕ) → IsTold learning budget ahead → IsTold learning budget behind
  told_stays learning budget t = record {
    learning_is = t.learning_is ∙ sym (ap (λ (p : Policy). p.learning) stays.policy);
    budget_is = t.budget_is ∙ sym (ap (λ (x : Settings). x.budget) stays.settings);
  }

  pub works : (p q : TableId) (name : ℕ) (mark : Seen) (item : Waiting) (worked : Worked) (learning : Bool) (budget : ℕ) (now : Bool) → IsTold learning budget ahead
      → Rounds item budget 3 calls worked → IsWornBy worked new.number → worn ≡ false → now ≡ is_worn worked
      → Works item worked (view_by p name old mark start worn) (view_by q name new mark start now)
  works p q name mark item worked learning budget now t rounds full well is_now = record {
    turns = turns_of ahead rest;
    past = past;
    meanwhile = meanwhile;
    allowed = allowed;
    calls = calls;
    positions = a.did.positions;
    own = a.did.own;
    at = at;
    rounds = (let P : ℕ → Type 0 = λ n. Rounds item n 3 calls worked in subst P t.budget_is rounds);
    alone = alone;
    worn = wears_by worked (view_by p name old mark start worn) (view_by q name new mark start now) well is_now full;
  }
