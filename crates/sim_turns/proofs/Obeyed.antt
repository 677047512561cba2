-- Some turns, one behind the other, and what is told behind them, are an order's part.
use Rattle.std.proofs.Common.{◌≡◌, ℕ, ◌+◌, ◌≤◌, ◌<◌, true, false, List, [], ◌∷◌, ◌++◌, refl, sym, ap, ◌∙◌, subst, inl, arith}
use Rattle.std.specs.Prelude.{Result, Ok, Err, OnOk}
use Rattle.maple_base.specs.declared.device.Turned.{Turned}
use Rattle.device_port.specs.Devices.{Meaning}
use Rattle.machine_steps.specs.declared.entry.Entry.TheVariants as entries
use Rattle.machine_steps.specs.declared.note.Note.{Note}
use Rattle.machine_steps.specs.declared.note.Note.TheVariants as notes
use Rattle.machine_steps.specs.declared.reply.Reply.TheVariants.{Done}
use Rattle.script_text.specs.Orders.Order.{Settle, Turn}
use Rattle.sim_steps.specs.Benches.{Bench, IsSolo, is_plugged}
use Rattle.sim_steps.specs.Deeds.{Event}
use Rattle.sim_steps.specs.Deeds.Deed.{Enters}
use Rattle.sim_steps.specs.Parts.{EndsSettling, HasPending, IfPlugged, IsCalm, IsExhausted, IsLowestTurn, IsStill, IsTurnAt, JustNotes, Settles, TakesTurns}
use Rattle.sim_steps.specs.Parts.{dealt_in, has_dealt, most_turns, turns_taken}
use Rattle.sim_steps.specs.Stretches.{Carried, Obeyed}
use Rattle.sim_steps.proofs.Joining.{all_append, carried_behind, obeyed, stretch_then}
use Rattle.sim_channels.specs.Channels.{Fits, bench}
use Rattle.sim_channels.specs.Resting.{RestingLaws}
use Rattle.sim_channels.specs.Waiting.{IsAtRest}
use Rattle.sim_channels.specs.declared.driver.Driver.{Driver}
use Rattle.sim_turns.specs.Taking.{TakesSome}
use Rattle.sim_turns.specs.Turning.{FitsStill, IsAsked, TakesOne, ToldSo}
use Rattle.sim_turns.proofs.Aside.{ends_on, exhausted_on, pending_back, pending_on}

-- ---- turns

turns_more : (es : List Event) (e : Event) → turns_taken (es ++ e ∷ []) ≡ turns_taken es + dealt_in e.deed
turns_more [] e = omega arith
turns_more (x ∷ es) e = let h = turns_more es e in omega arith

pub takes_more : (P : Event → Type 0) (n : ℕ) (a b d : Bench) (c : ℕ) (turned : Turned) → TakesSome P n a b → (one : TakesOne c turned b d) → P one.event
    → TakesSome P (n + has_dealt turned) a d
takes_more P n a b d c turned h one is = record {
  turns = h.turns ++ one.event ∷ [];
  stretch = stretch_then h.turns (one.event ∷ []) [] [] a b d h.stretch one.stretch;
  all = all_append P h.turns (one.event ∷ []) h.all (is, tt);
  count = turns_more h.turns one.event ∙ ap (λ k. k + dealt_in one.event.deed) h.count ∙ ap (λ k. n + k) (ap dealt_in one.deed);
}

pub takes_on : (P : Event → Type 0) (n : ℕ) (a b d : Bench) → TakesSome P n a b → Carried b d → TakesSome P n a d
takes_on P n a b d h carried = record { turns = h.turns; stretch = carried_behind h.turns [] a b d h.stretch carried; all = h.all; count = h.count }

-- with what it brings about
pub takes_behind : (c : ℕ) (turned : Turned) (a b d : Bench) → TakesOne c turned a b → Carried b d → TakesOne c turned a d
takes_behind c turned a b d h carried = record {
  event = h.event;
  bytes = h.bytes;
  reply = h.reply;
  stretch = carried_behind (h.event ∷ []) [] a b d h.stretch carried;
  before = h.before;
  deed = h.deed;
}

module _ (c : ℕ) (turned : Turned) (b d : Bench) (one : TakesOne c turned b d) where
  pub turn_at_place : IsTurnAt c one.event
  turn_at_place = (turned, one.bytes, one.reply, one.deed)

  pub lowest_turn : HasPending c b → ((k : ℕ) → k < c → HasPending k b → ⊥) → IsLowestTurn one.event
  lowest_turn pends lowest = record {
    place = c;
    turn = turn_at_place;
    pends = pending_on b one.event.before one.before c pends;
    lowest = λ k below h. lowest k below (pending_back b one.event.before one.before k h);
  }

-- ---- the orders

module _ (place most : ℕ) (a b d : Bench) (calm : IsCalm d) (still : IsSolo d.machine → IsStill d) where
  pub absent_obeyed : is_plugged place a.machine ≡ false → IsAsked (entries.Note (notes.Absent place)) Done a d → Obeyed (Turn place most) a d
  absent_obeyed absent h =
      let es = h.event ∷ [] in
      let just : JustNotes (notes.Absent place) es = (h.event, Done, refl, h.deed) in
      obeyed (Turn place most) es a d h.stretch (subst (λ p. IfPlugged p place es (TakesTurns place most es)) (sym absent) just) calm still

  pub turn_obeyed : (taken : ℕ) → TakesSome (IsTurnAt place) taken a b → is_plugged place a.machine ≡ true → taken ≤ most → (taken < most → IsExhausted place b)
      → IsAsked (entries.Note (notes.TurnedAll place taken)) Done b d → Obeyed (Turn place most) a d
  turn_obeyed taken t plugged few fewer h =
      let es = t.turns ++ h.event ∷ [] in
      let takes : TakesTurns place most es = record {
        turns = t.turns;
        note = h.event;
        parts = refl;
        all = t.all;
        most = subst (λ n. n ≤ most) (sym t.count) few;
        fewer = λ less. exhausted_on b h.event.before h.before place (fewer (subst (λ n. n < most) t.count less));
        reply = Done;
        told = h.deed ∙ ap (λ n. Enters (entries.Note (notes.TurnedAll place n)) Done) (sym t.count);
      } in
      obeyed (Turn place most) es a d (stretch_then t.turns (h.event ∷ []) [] [] a b d t.stretch h.stretch)
      (subst (λ p. IfPlugged p place es (TakesTurns place most es)) (sym plugged) takes) calm still

pub settle_obeyed : (a b d : Bench) (taken : ℕ) (said : Note) → IsCalm d → (IsSolo d.machine → IsStill d) → TakesSome IsLowestTurn taken a b
    → taken ≤ most_turns → EndsSettling taken said b
    → IsAsked (entries.Note said) Done b d → Obeyed Settle a d
settle_obeyed a b d taken said calm still t few ends h =
    let es = t.turns ++ h.event ∷ [] in
    let settles : Settles es = record {
      turns = t.turns;
      note = h.event;
      parts = refl;
      all = t.all;
      most = subst (λ n. n ≤ most_turns) (sym t.count) few;
      said = said;
      ends = ends_on b h.event.before h.before (turns_taken t.turns) said (subst (λ n. EndsSettling n said b) (sym t.count) ends);
      reply = Done;
      told = h.deed;
    } in
    obeyed Settle es a d (stretch_then t.turns (h.event ∷ []) [] [] a b d t.stretch h.stretch) settles calm still

-- ---- what is told at the end

module _ {T E : Type 0} (resting : RestingLaws) (mid new : Driver) (devices : List Meaning) (fits : Fits mid devices) (note : Note) where
  -- where memory doesn't run out for it
  pub told_last : (R : Type 0)
      → (IsAsked (entries.Note note) Done (bench mid devices) (bench new devices) → IsCalm (bench new devices)
      → (IsSolo new.desk.now → IsStill (bench new devices)) → R)
      → (r : Result T E) → OnOk r (FitsStill mid new) → OnOk r (IsAtRest new) → OnOk r (ToldSo note mid new) → OnOk r R
  told_last R f (Ok x) stays rest told =
      let kept = (stays devices fits).kept in
      f (told devices fits) (resting.calm new devices kept rest) (λ solo. resting.still new devices kept rest (inl solo))
  told_last R f (Err e) stays rest told = tt
