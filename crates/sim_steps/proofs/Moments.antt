-- A stretch of one deed, or of a call in which the device failed with the session's end behind it.
use Rattle.std.proofs.Common.{◌≡◌, ℕ, Bool, true, false, List, [], ◌∷◌, ◌++◌, append-nil, refl, sym, ap, ◌∙◌, inl}
use Rattle.std.specs.Prelude.{not, if◌then◌else◌, Option, Some, None}
use Rattle.std.specs.List.{AllByRecursion}
use Rattle.device_port.specs.Devices.{Call}
use Rattle.machine_steps.specs.declared.entry.Entry.{Entry}
use Rattle.machine_steps.specs.declared.entry.Entry.TheVariants as entries
use Rattle.machine_steps.specs.declared.entry.Input.{Input}
use Rattle.machine_steps.specs.declared.reply.Reply.{Reply}
use Rattle.machine_steps.specs.declared.reply.Reply.TheVariants.{Lines}
use Rattle.world_steps.specs.Worlds.{lacks_memory}
use Rattle.sim_steps.specs.Agreeing.{taken_report, taken_text}
use Rattle.sim_steps.specs.Benches.{Bench}
use Rattle.sim_steps.specs.Deeds.{CallsAt, EntersAt, Event, Happens, Runs, has_failed, reply_in}
use Rattle.sim_steps.specs.Deeds.Deed.{Enters, Calls}
use Rattle.sim_steps.specs.Parts.{FaultsEnd, HadMemory, HearsInOrder, IsDrained, IsFault, IsInOrder, asked_of, asks, failed_in, is_asked}
use Rattle.sim_steps.specs.Stretches.{Beside, Carried, Stretch}
use Rattle.sim_steps.proofs.Joining.{all_append, asked_then, report_then, runs_then}
use Rattle.sim_steps.proofs.Others.{beside_in_order, beside_silent, beside_skip, beside_unasked}

abbrev pub entered : Entry → Reply → Bench → Bench → Event
entered entry reply a b = record { before = a; deed = Enters entry reply; behind = b }

abbrev pub called : ℕ → Call → Reply → Bench → Bench → Event
called c call reply a b = record { before = a; deed = Calls c call reply; behind = b }

-- ---- any deed

-- memory didn't run out at all
had_memory : (e : Event) → lacks_memory (reply_in e.deed) ≡ false → HadMemory e
had_memory e enough lacks = (let f : false ≡ true = sym enough ∙ lacks in absurd (cc))

-- a deed that may stand alone, but for where its device failed
record IsFine (e : Event) : Type 0 where
  happens : Happens e
  in_order : IsInOrder e
  memory : HadMemory e
  no_fault : IsFault e.deed → ⊥
  silent : taken_text e.deed ≡ []

faults_of_one : (o : Option ℕ) → o ≡ None → FaultsEnd o []
faults_of_one None e = tt
faults_of_one (Some c) e = absurd (cc)

fine_unasked : (e : Event) → is_asked e.deed ≡ false → failed_in e.deed ≡ None → IsFine e → Carried e.before e.behind
fine_unasked e unasked whole h = record {
  events = e ∷ [];
  runs = (refl, h.happens, refl);
  asked_is = ap (λ (b : Bool). if b then e ∷ [] else []) unasked;
  drained = tt;
  in_order = (h.in_order, tt);
  memory = (h.memory, tt);
  faults = (h.no_fault, faults_of_one (failed_in e.deed) whole);
  text_is = append-nil (taken_text e.deed) ∙ h.silent;
}

fine_asked : (e : Event) → is_asked e.deed ≡ true → IsDrained e → failed_in e.deed ≡ None → IsFine e → Stretch (e ∷ []) [] e.before e.behind
fine_asked e asked drained whole h = record {
  events = e ∷ [];
  runs = (refl, h.happens, refl);
  asked_is = ap (λ (b : Bool). if b then e ∷ [] else []) asked;
  drained = (drained, tt);
  in_order = (h.in_order, tt);
  memory = (h.memory, tt);
  faults = (h.no_fault, faults_of_one (failed_in e.deed) whole);
  text_is = append-nil (taken_text e.deed) ∙ h.silent;
}

-- ---- entries

-- neither heard, nor a fault, nor the report's
abbrev pub is_plain : Entry → Bool
is_plain (entries.Heard c input) = false
is_plain (entries.Gone c fault) = not fault
is_plain entries.TakeReport = false
is_plain entry = true

asks_plain : (entry : Entry) → asks entry ≡ true → is_plain entry ≡ true
asks_plain (entries.Heard c input) h = h
asks_plain (entries.Gone c fault) h = h
asks_plain entries.TakeReport h = h
asks_plain entry h = refl

plain_in_order : (entry : Entry) (reply : Reply) (a : Bench) → is_plain entry ≡ true → HearsInOrder (Enters entry reply) a
plain_in_order (entries.Heard c input) reply a h = absurd (cc)
plain_in_order entry reply a h = tt

plain_silent : (entry : Entry) (reply : Reply) → is_plain entry ≡ true → taken_text (Enters entry reply) ≡ []
plain_silent entries.TakeReport reply h = absurd (cc)
plain_silent entry reply h = refl

plain_no_fault : (entry : Entry) (reply : Reply) → is_plain entry ≡ true → IsFault (Enters entry reply) → ⊥
plain_no_fault entry reply h (c, told, e) = (let is : entry ≡ entries.Gone c true = cc in let f : true ≡ false = sym h ∙ ap is_plain is in cc)

module _ (entry : Entry) (reply : Reply) (a b : Bench) where
  abbrev Entering : Event
  Entering = entered entry reply a b

  plain_fine : is_plain entry ≡ true → lacks_memory reply ≡ false → EntersAt entry reply a b → IsFine Entering
  plain_fine plain memory h = record {
    happens = h;
    in_order = plain_in_order entry reply a plain;
    memory = had_memory Entering memory;
    no_fault = plain_no_fault entry reply plain;
    silent = plain_silent entry reply plain;
  }

  -- that no order asks for
  pub carried_entry : asks entry ≡ false → is_plain entry ≡ true → lacks_memory reply ≡ false → EntersAt entry reply a b → Carried a b
  carried_entry unasked plain memory h = fine_unasked Entering unasked refl (plain_fine plain memory h)

  -- that an order asks for
  pub stretch_entry : asks entry ≡ true → IsDrained (entered entry reply a b) → lacks_memory reply ≡ false → EntersAt entry reply a b → Stretch (entered entry reply a b ∷ []) [] a b
  stretch_entry asked drained memory h = fine_asked Entering asked drained refl (plain_fine (asks_plain entry asked) memory h)

heard_no_fault : (c : ℕ) (input : Input) (reply : Reply) → IsFault (Enters (entries.Heard c input) reply) → ⊥
heard_no_fault c input reply (d, told, e) = cc

pub carried_heard : (c : ℕ) (input : Input) (reply : Reply) (a b : Bench) → HearsInOrder (Enters (entries.Heard c input) reply) a → lacks_memory reply ≡ false
    → EntersAt (entries.Heard c input) reply a b → Carried a b
carried_heard c input reply a b in_order memory h =
    fine_unasked (entered (entries.Heard c input) reply a b) refl refl (record {
      happens = h;
      in_order = in_order;
      memory = had_memory (entered (entries.Heard c input) reply a b) memory;
      no_fault = heard_no_fault c input reply;
      silent = refl;
    })

report_no_fault : (reply : Reply) → IsFault (Enters entries.TakeReport reply) → ⊥
report_no_fault reply (c, told, e) = cc

pub report_taken : (bytes : List ℕ) (a b : Bench) → EntersAt entries.TakeReport (Lines bytes) a b → Stretch [] bytes a b
report_taken bytes a b h = record {
  events = entered entries.TakeReport (Lines bytes) a b ∷ [];
  runs = (refl, h, refl);
  asked_is = refl;
  drained = tt;
  in_order = (tt, tt);
  memory = (had_memory (entered entries.TakeReport (Lines bytes) a b) refl, tt);
  faults = (report_no_fault (Lines bytes), tt);
  text_is = append-nil bytes;
}

-- ---- calls

call_no_fault : (c : ℕ) (call : Call) (reply : Reply) → IsFault (Calls c call reply) → ⊥
call_no_fault c call reply (d, told, e) = cc

module _ (c : ℕ) (call : Call) (reply : Reply) (a b : Bench) where
  abbrev Calling : Event
  Calling = called c call reply a b

  call_fine : lacks_memory reply ≡ false → CallsAt c call reply a b → IsFine Calling
  call_fine memory h = record { happens = h; in_order = tt; memory = had_memory Calling memory; no_fault = call_no_fault c call reply; silent = refl }

  none_failed : has_failed call ≡ false → failed_in (Calls c call reply) ≡ None
  none_failed whole = ap (λ (b : Bool). if b then Some c else None) whole

  -- an offer
  pub carried_call : is_asked (Calls c call reply) ≡ false → has_failed call ≡ false → lacks_memory reply ≡ false → CallsAt c call reply a b → Carried a b
  carried_call unasked whole memory h = fine_unasked Calling unasked (none_failed whole) (call_fine memory h)

  -- a turn, or a look-up
  pub stretch_call : is_asked (Calls c call reply) ≡ true → IsDrained (called c call reply a b) → has_failed call ≡ false → lacks_memory reply ≡ false → CallsAt c call reply a b
      → Stretch (called c call reply a b ∷ []) [] a b
  stretch_call asked drained whole memory h = fine_asked Calling asked drained (none_failed whole) (call_fine memory h)

  -- ---- the device failed, and its session ends behind what others did

  module _ (told : Reply) (m d : Bench) (others : Beside b m) where
    abbrev Ending : Event
    Ending = entered (entries.Gone c true) told m d

    abbrev Behind : List Event
    Behind = others.events ++ Ending ∷ []

    failed_runs : CallsAt c call reply a b → EntersAt (entries.Gone c true) told m d → Runs a (Calling ∷ Behind) d
    failed_runs h k = (refl, h, runs_then b others.events m (Ending ∷ []) d others.runs (refl, k, refl))

    behind_unasked : asked_of Behind ≡ []
    behind_unasked = asked_then others.events (Ending ∷ []) ∙ append-nil (asked_of others.events) ∙ beside_unasked others.events others.all

    behind_in_order : AllByRecursion IsInOrder Behind
    behind_in_order = all_append IsInOrder others.events (Ending ∷ []) (beside_in_order others.events others.all) (tt, tt)

    behind_memory : lacks_memory told ≡ false → AllByRecursion HadMemory Behind
    behind_memory enough = all_append HadMemory others.events (Ending ∷ []) others.memory (had_memory Ending enough, tt)

    behind_silent : taken_report Behind ≡ []
    behind_silent = report_then others.events (Ending ∷ []) ∙ append-nil (taken_report others.events) ∙ beside_silent others.events others.all

    failed_faults : has_failed call ≡ true → FaultsEnd (failed_in (Calls c call reply)) Behind
    failed_faults failed = go (has_failed call) failed
      where
        go : (f : Bool) → f ≡ true → FaultsEnd (if f then Some c else None) Behind
        go true e = beside_skip c others.events (Ending ∷ []) others.all (inl ((told, refl), tt))
        go false e = absurd (cc)

    pub carried_failed : is_asked (Calls c call reply) ≡ false → has_failed call ≡ true → lacks_memory reply ≡ false → lacks_memory told ≡ false → CallsAt c call reply a b
        → EntersAt (entries.Gone c true) told m d → Carried a d
    carried_failed unasked failed memory enough h k = record {
      events = Calling ∷ Behind;
      runs = failed_runs h k;
      asked_is = ap (λ (b : Bool). if b then Calling ∷ asked_of Behind else asked_of Behind) unasked ∙ behind_unasked;
      drained = tt;
      in_order = (tt, behind_in_order);
      memory = (had_memory Calling memory, behind_memory enough);
      faults = (call_no_fault c call reply, failed_faults failed);
      text_is = behind_silent;
    }

    pub stretch_failed : is_asked (Calls c call reply) ≡ true → IsDrained (called c call reply a b) → has_failed call ≡ true → lacks_memory reply ≡ false → lacks_memory told ≡ false
        → CallsAt c call reply a b → EntersAt (entries.Gone c true) told m d → Stretch (called c call reply a b ∷ []) [] a d
    stretch_failed asked drained failed memory enough h k = record {
      events = Calling ∷ Behind;
      runs = failed_runs h k;
      asked_is = ap (λ (b : Bool). if b then Calling ∷ asked_of Behind else asked_of Behind) asked ∙ ap (λ (es : List Event). Calling ∷ es) behind_unasked;
      drained = (drained, tt);
      in_order = (tt, behind_in_order);
      memory = (had_memory Calling memory, behind_memory enough);
      faults = (call_no_fault c call reply, failed_faults failed);
      text_is = behind_silent;
    }
