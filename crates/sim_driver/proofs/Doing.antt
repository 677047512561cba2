-- What is done of an order, and what that brings about, is the order's part.
use Rattle.std.proofs.Common.{◌≡◌, ℕ, ◌+◌, true, false, List, refl, sym, ap, ◌∙◌, subst, inl, inr}
use Rattle.std.specs.Prelude.{Result, Ok, Err, OnOk, Some}
use Rattle.std.specs.List.{slice_get}
use Rattle.device_port.specs.Devices.{Meaning}
use Rattle.machine_steps.specs.declared.entry.Entry.{Entry}
use Rattle.machine_steps.specs.declared.entry.Entry.TheVariants as entries
use Rattle.machine_steps.specs.declared.note.Note.{Note}
use Rattle.machine_steps.specs.declared.note.Note.TheVariants as notes
use Rattle.machine_steps.specs.declared.reply.Reply.TheVariants.{Done}
use Rattle.machine_steps.specs.Machine.{State, was_opened}
use Rattle.script_text.specs.Orders.{Order}
use Rattle.sim_steps.specs.Benches.{is_plugged}
use Rattle.sim_steps.specs.Deeds.{Event}
use Rattle.sim_steps.specs.Parts.{IfPlugged, JustEnters, JustNotes, Obeys, PlugsBy, Renews}
use Rattle.sim_steps.specs.Stretches.{Carried, Obeyed}
use Rattle.sim_steps.proofs.Joining.{carried_none}
use Rattle.machine_desk.specs.declared.inbound.Stage.{Stage}
use Rattle.machine_desk.specs.declared.inbound.Stage.TheVariants.{Live}
use Rattle.sim_channels.specs.declared.channel.Channel.{Channel}
use Rattle.sim_channels.specs.declared.driver.Driver.{Driver}
use Rattle.machine_desk.specs.Hearing.{is_live, was_begun}
use Rattle.sim_channels.specs.Channels.{Fits, IsKept, WorksAlone, bench}
use Rattle.sim_channels.specs.Resting.{RestingLaws}
use Rattle.sim_channels.specs.Staging.{HasStage}
use Rattle.sim_channels.specs.Waiting.{IsAtRest, IsQuiet, StaysBut}
use Rattle.sim_channels.proofs.Kept.{staged_at}
use Rattle.sim_channels.proofs.Others.{quiet_on}
use Rattle.sim_turns.specs.Turning.{ToldSo}
use Rattle.sim_driver.specs.Commands.{AsksFor, AsksToRenew, IsChanged}
use Rattle.sim_driver.proofs.Asking.{obeyed_then}

-- ---- by a result

pub on_ok : {T E P : Type 0} (r : Result T E) → ((x : T) → r ≡ Ok x → P) → OnOk r P
on_ok (Ok x) f = f x refl
on_ok (Err e) f = tt

pub of_ok : {T E : Type 0} (P : Type 0) (r : Result T E) (x : T) → r ≡ Ok x → OnOk r P → P
of_ok P r x e h = subst (λ s. OnOk s P) e h

-- ---- places

pub begun_at : (d : Driver) (at : ℕ) (k : Channel) → IsKept d → slice_get d.channels.items at ≡ Some k → was_opened (at + 1) d.desk.now ≡ was_begun k.inbound.stage
begun_at d at k kept there =
    subst (λ c. was_opened c d.desk.now ≡ was_begun k.inbound.stage) (kept.names at k there) (kept.sessions.staged at k there).opened

-- how the session at a place stands
pub record StandsSo (c : ℕ) (m : State) (stage : Stage) : Type 0 where
  pub plugged : is_plugged c m ≡ is_live stage
  pub opened : was_opened c m ≡ was_begun stage

pub staged_there : (d : Driver) (c at : ℕ) (stage : Stage) → IsKept d → c ≡ at + 1 → HasStage at stage d → StandsSo c d.desk.now stage
staged_there d c at stage kept place h = record {
  plugged = ap (λ n. is_plugged n d.desk.now) place ∙ staged_at d at h.channel kept h.there ∙ ap is_live h.is;
  opened = ap (λ n. was_opened n d.desk.now) place ∙ begun_at d at h.channel kept h.there ∙ ap was_begun h.is;
}

pub others_closed : (stage : Stage) → (stage ≡ Live → ⊥) → is_live stage ≡ false
others_closed Live other = absurd (other refl)
others_closed stage other = refl

pub stays_then : (here : ℕ) (a b c : Driver) → IsChanged here a b → StaysBut (IsQuiet b) here b c → StaysBut (WorksAlone a) here a c
stays_then here a b c h k = record {
  sessions = λ alone n other. k.sessions (quiet_on a b h.same h.jobs (inl alone)) n other ∙ h.stays.sessions (inl alone) n other;
  channels = λ i other. k.channels i other ∙ h.stays.channels i other;
}

-- ---- which entry an order asks for

module _ (c : ℕ) (m : State) where
  pub plugs_present : is_plugged c m ≡ true → (es : List Event) → JustNotes (notes.Present c) es → PlugsBy (is_plugged c m) (was_opened c m) c es
  plugs_present e es h = subst (λ b. PlugsBy b (was_opened c m) c es) (sym e) h

  pub plugs_gone : is_plugged c m ≡ false → was_opened c m ≡ true → (es : List Event) → JustNotes (notes.GoneAlready c) es
      → PlugsBy (is_plugged c m) (was_opened c m) c es
  plugs_gone e f es h = subst (λ b. PlugsBy b (was_opened c m) c es) (sym e) (subst (λ b. PlugsBy false b c es) (sym f) h)

  pub plugs_now : is_plugged c m ≡ false → was_opened c m ≡ false → (es : List Event) → JustEnters (entries.Open c) es
      → PlugsBy (is_plugged c m) (was_opened c m) c es
  plugs_now e f es h = subst (λ b. PlugsBy b (was_opened c m) c es) (sym e) (subst (λ b. PlugsBy false b c es) (sym f) h)

  pub if_absent : (F : Type 0) → is_plugged c m ≡ false → (es : List Event) → JustNotes (notes.Absent c) es → IfPlugged (is_plugged c m) c es F
  if_absent F e es h = subst (λ b. IfPlugged b c es F) (sym e) h

  pub if_plugged : (es : List Event) (F : Type 0) → is_plugged c m ≡ true → F → IfPlugged (is_plugged c m) c es F
  if_plugged es F e h = subst (λ b. IfPlugged b c es F) (sym e) h

-- ---- orders

-- something else than the order was told
pub obeyed_noted : RestingLaws → (o : Order) (note : Note) (d e : Driver) (devices : List Meaning) → ((es : List Event) → JustNotes note es → Obeys o (bench d devices) es)
    → Fits d devices → ToldSo note d e → IsKept e → IsAtRest e → Obeyed o (bench d devices) (bench e devices)
obeyed_noted resting o note d e devices obeys fits told kept rest =
    obeyed_then resting o (entries.Note note) Done (bench d devices) (bench e devices) (told devices fits) obeys e devices (carried_none (bench e devices)) kept rest

-- its entry was asked for, and then what it brought about was done
pub obeyed_done : RestingLaws → (o : Order) (entry : Entry) (d m : Driver) (before : List Meaning) (e : Driver) (after : List Meaning)
    → ((es : List Event) → JustEnters entry es → Obeys o (bench d before) es)
    → Fits d before → AsksFor entry d m → Carried (bench m before) (bench e after) → IsKept e → IsAtRest e → Obeyed o (bench d before) (bench e after)
obeyed_done resting o entry d m before e after obeys fits asked carried kept rest =
    let is = asked before fits in
    obeyed_then resting o entry is.0 (bench d before) (bench m before) is.1 obeys e after carried kept rest

-- or nothing else was left to do
pub obeyed_asked : RestingLaws → (o : Order) (entry : Entry) (d e : Driver) (devices : List Meaning)
    → ((es : List Event) → JustEnters entry es → Obeys o (bench d devices) es)
    → Fits d devices → AsksFor entry d e → IsKept e → IsAtRest e → Obeyed o (bench d devices) (bench e devices)
obeyed_asked resting o entry d e devices obeys fits asked kept rest =
    obeyed_done resting o entry d e devices e devices obeys fits asked (carried_none (bench e devices)) kept rest

-- the entry by which an order of another policy is obeyed
pub record AsksBy (text : List ℕ) (d m : Driver) : Type 0 where
  pub entry : Entry
  pub obeys : (es : List Event) → JustEnters entry es → Renews text es
  pub asked : AsksFor entry d m

pub asks_by : (text : List ℕ) (d m : Driver) → AsksToRenew text d m → AsksBy text d m
asks_by text d m (inl (policy, is_text, asked)) = record { entry = entries.NewPolicy policy; obeys = λ es just. inl (policy, is_text, just); asked = asked }
asks_by text d m (inr (line, column, kind, refused, asked)) = record {
  entry = entries.Note (notes.PolicyRefused line column kind);
  obeys = λ es just. inr (line, column, kind, refused, just);
  asked = asked;
}
