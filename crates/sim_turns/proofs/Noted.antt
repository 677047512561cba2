-- A note adds lines to the report, and leaves all else as it was.
use Rattle.std.proofs.Common.{◌≡◌, ◌+◌, refl, ap, ◌∙◌, inl, inr}
use Rattle.std.specs.List.{slice_get}
use Rattle.machine_desk.specs.Desks.{Enters}
use Rattle.machine_steps.specs.declared.entry.Entry.TheVariants as entries
use Rattle.machine_steps.specs.declared.note.Note.{Note}
use Rattle.machine_steps.specs.declared.reply.Reply.TheVariants.{Done, NoMemory}
use Rattle.machine_steps.specs.Machine.{State, session_at, tells_all}
use Rattle.machine_steps.specs.Steps.{Steps, note_lines}
use Rattle.world_steps.specs.Worlds.{lacks_memory}
use Rattle.sim_channels.specs.declared.driver.Driver.{Driver}
use Rattle.sim_channels.specs.Channels.{EntersNext, IsKept, OthersDid}
use Rattle.machine_desk.specs.Driving.{DrivingLaws}
use Rattle.sim_channels.specs.Resting.{RestingLaws}
use Rattle.sim_channels.specs.Waiting.{IsAtRest}
use Rattle.sim_channels.proofs.Kept.{kept_entry}
use Rattle.sim_channels.proofs.Others.{ahead, alone_back, enters_next, others_ahead, same_desk, tends_fits, tends_kept, tends_of}
use Rattle.sim_channels.proofs.Places.{fits_same}
use Rattle.sim_turns.specs.Turning.{FitsStill}

-- where memory doesn't run out for it
noted : (note : Note) (m n : State) → Steps m (entries.Note note) Done n → n ≡ tells_all (note_lines note) m
noted note m n (inl (r, e)) = e
noted note m n (inr (r, e)) = (let f : lacks_memory Done ≡ lacks_memory NoMemory = ap lacks_memory r in absurd (cc))

-- nobody came between
module _ (laws : DrivingLaws) (note : Note) (old new : Driver) (kept : IsKept old) (enters : EntersNext (entries.Note note) Done old.desk new.desk)
    (same : new ≡ record old { desk = new.desk }) (footing : new.desk.footing ≡ old.desk.footing) where
  now_is : new.desk.now ≡ tells_all (note_lines note) old.desk.now
  now_is = noted note old.desk.now new.desk.now enters.made.steps

  items_are : new.channels.items ≡ old.channels.items
  items_are = ap (λ (x : Driver). x.channels.items) same

  pub noted_kept : IsKept new
  noted_kept = kept_entry laws old new (entries.Note note) Done kept tt enters.made.steps (λ c. refl) same footing

  pub noted_fits : FitsStill old new
  noted_fits devices fits = fits_same old new devices noted_kept items_are fits

  pub noted_rest : RestingLaws → IsAtRest old → IsAtRest new
  noted_rest resting rest = record {
    done = λ alone.
        (let done = rest.done (alone_back old new (same_desk old new same footing) alone) in
        record {
          jobs = ap (λ (m : State). m.jobs) now_is ∙ done.jobs;
          taken = λ at. resting.taken at old new kept noted_kept (ap (λ (m : State). session_at (at + 1) m) now_is) (done.taken at);
        });
    offered = λ at. resting.offered at old new (ap (λ ks. slice_get ks at) items_are) (rest.offered at);
    heard = λ at. resting.heard at old new (ap (λ ks. slice_get ks at) items_are) (rest.heard at);
  }

-- behind what others did
module _ (laws : DrivingLaws) (note : Note) (old new : Driver) (kept : IsKept old) (enters : Enters old.desk (entries.Note note) Done new.desk)
    (same : new ≡ record old { desk = new.desk }) (footing : new.desk.footing ≡ old.desk.footing) where
  abbrev pub Ahead : Driver
  Ahead = ahead old (entries.Note note) Done new.desk kept enters

  pub others_did : OthersDid old Ahead
  others_did = others_ahead old (entries.Note note) Done new.desk kept enters

  pub note_next : EntersNext (entries.Note note) Done Ahead.desk new.desk
  note_next = enters_next old (entries.Note note) Done new.desk kept enters

  pub ahead_kept : IsKept Ahead
  ahead_kept = tends_kept laws old Ahead kept (tends_of old Ahead others_did)

  pub ahead_rest : RestingLaws → IsAtRest old → IsAtRest Ahead
  ahead_rest resting rest = resting.others old Ahead kept others_did rest

  pub told_kept : IsKept new
  told_kept = noted_kept laws note Ahead new ahead_kept note_next same footing

  pub told_fits : FitsStill old new
  told_fits devices fits =
      noted_fits laws note Ahead new ahead_kept note_next same footing devices (tends_fits laws old Ahead kept (tends_of old Ahead others_did) devices fits)

  pub told_rest : RestingLaws → IsAtRest old → IsAtRest new
  told_rest resting rest = noted_rest laws note Ahead new ahead_kept note_next same footing resting (ahead_rest resting rest)
