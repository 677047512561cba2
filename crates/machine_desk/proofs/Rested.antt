-- The rest of the report is taken by a pass, as by a desk.
use Rattle.std.proofs.Common.{◌≡◌, ℕ, false, List, refl, subst, inl, inr}
use Rattle.std.specs.Prelude.{Err, IsTrue, Ok, Some}
use Rattle.atomic_table.specs.Seated.{TableId}
use Rattle.maple_io.specs.Fronts.{IsFront}
use Rattle.maple_io.specs.Views.{SinkView, WriteFailed, Wrote}
use Rattle.history_lock.specs.Histories.{Calls, Replays}
use Rattle.history_lock.proofs.States.{replays_begins}
use Rattle.machine_sharing.specs.Sharing.{Allows, Turns}
use Rattle.machine_steps.specs.declared.entry.Entry.TheVariants as entries
use Rattle.machine_steps.specs.declared.reply.Reply.{Reply}
use Rattle.machine_steps.specs.declared.reply.Reply.TheVariants as replies
use Rattle.machine_steps.specs.Machine.{State}
use Rattle.machine_steps.specs.Sound.{IsSound}
use Rattle.packet_workers.specs.Adding.{PassView}
use Rattle.machine_desk.specs.declared.report.ReportStop.TheVariants as stops
use Rattle.machine_desk.specs.Desks.{Enters, IsDesk, view_by}
use Rattle.machine_desk.specs.Driving.{DeskLaws}
use Rattle.machine_desk.specs.Reports.{ReportsInPart}
use Rattle.machine_desk.specs.Resting.{RestBy}
use Rattle.machine_desk.proofs.Entering.{enters}

module _ (laws : DeskLaws) (old new : PassView) (reply : Reply) (leads : IsTrue old.leads) (stays : new.opening ≡ old.opening) (parts : new.parts ≡ old.parts)
    (c : Calls Turns Allows old entries.TakeReport reply new) (place : TableId) (start : State) (opens : old.opening ≡ Some start) (sound : IsSound start) where
  same : c.opening ≡ start
  same = let o = c.opens in cc

  desk : IsDesk old start false
  desk = record {
    leads = leads;
    opens = opens;
    sound = sound;
    legal =
        replays_begins Turns start c.log old.seen c.before c.later
        (subst (λ (s : State). Replays Turns s c.log c.before) same c.replays);
    full = λ worn. absurd (cc);
  }

  taken : Enters (view_by place 0 old old start false) entries.TakeReport reply (view_by place 0 new old start false)
  taken = enters laws old new start false entries.TakeReport reply desk stays c tt place place 0 old refl parts

module _ (laws : DeskLaws) (old new : PassView) (leads : IsTrue old.leads) (stays : new.opening ≡ old.opening) (parts : new.parts ≡ old.parts) (from to : SinkView) where
  pub rest_whole : (text : List ℕ) → Calls Turns Allows old entries.TakeReport (replies.Lines text) new → Wrote from to text → RestBy (Ok tt) old new from to
  rest_whole text c wrote place start opens sound =
      record { text = text; enters = taken laws old new (replies.Lines text) leads stays parts c place start opens sound; wrote = wrote }

  in_part : (text front : List ℕ) → Calls Turns Allows old entries.TakeReport (replies.Lines text) new → IsFront front text → Wrote from to front
      → (place : TableId) (start : State) → old.opening ≡ Some start → IsSound start
      → ReportsInPart (view_by place 0 old old start false) (view_by place 0 new old start false) from to
  in_part text front c is_front wrote place start opens sound = record {
    text = text;
    enters = taken laws old new (replies.Lines text) leads stays parts c place start opens sound;
    front = front;
    is_front = is_front;
    wrote = wrote;
  }

  pub rest_failed : (text front : List ℕ) → Calls Turns Allows old entries.TakeReport (replies.Lines text) new → IsFront front text → Wrote from to front
      → WriteFailed from to → RestBy (Err stops.Failed) old new from to
  rest_failed text front c is_front wrote failed place start opens sound = (in_part text front c is_front wrote place start opens sound, failed)

  pub rest_short : (text front : List ℕ) → Calls Turns Allows old entries.TakeReport (replies.Lines text) new → IsFront front text → Wrote from to front
      → RestBy (Err stops.NoMemory) old new from to
  rest_short text front c is_front wrote place start opens sound = inr (in_part text front c is_front wrote place start opens sound)

pub rest_lacks : DeskLaws → (old new : PassView) → IsTrue old.leads → new.opening ≡ old.opening → new.parts ≡ old.parts → (to : SinkView)
    → Calls Turns Allows old entries.TakeReport replies.NoMemory new → RestBy (Err stops.NoMemory) old new to to
rest_lacks laws old new leads stays parts to c place start opens sound =
    inl (taken laws old new replies.NoMemory leads stays parts c place start opens sound, refl)
