-- What others do beside who drives: entries that anybody may make, one behind the other.
use Rattle.std.proofs.Common.{◌≡◌, ℕ, Bool, true, false, List, [], ◌∷◌, ◌++◌, refl, sym, ap, ◌∙◌, subst, inr}
use Rattle.std.specs.Prelude.{if◌then◌else◌, Option, Some, None}
use Rattle.std.specs.List.{AllByRecursion}
use Rattle.machine_steps.specs.declared.entry.Entry.{Entry}
use Rattle.machine_steps.specs.declared.entry.Entry.TheVariants as entries
use Rattle.machine_steps.specs.declared.reply.Reply.{Reply}
use Rattle.machine_steps.specs.Machine.{State}
use Rattle.machine_steps.specs.Steps.{Steps}
use Rattle.machine_sharing.specs.Sharing.{Allows, Call}
use Rattle.world_steps.specs.Worlds.{lacks_memory}
use Rattle.sim_steps.specs.Agreeing.{taken_report, taken_text}
use Rattle.sim_steps.specs.Benches.{Bench}
use Rattle.sim_steps.specs.Deeds.{Deed, Event, entry_in}
use Rattle.sim_steps.specs.Deeds.Deed.{Enters, Calls}
use Rattle.sim_steps.specs.Parts.{FaultsEnd, HadMemory, HearsInOrder, IsBeside, IsFault, IsInOrder, asked_of, asks, failed_in, is_asked, is_of_run, is_shared}
use Rattle.sim_steps.specs.Stretches.{Beside, Carried}
use Rattle.sim_steps.proofs.Joining.{all_append, runs_then}

-- ---- of such entries

shared_unasked : (entry : Entry) → is_shared entry ≡ true → asks entry ≡ false
shared_unasked entries.ReadPolicy h = refl
shared_unasked (entries.ReadCell cell) h = refl
shared_unasked entries.OpenJobs h = refl
shared_unasked (entries.Commit job run) h = refl
shared_unasked (entries.Decide job) h = refl
shared_unasked entry h = absurd (cc)

shared_silent : (entry : Entry) (reply : Reply) → is_shared entry ≡ true → taken_text (Enters entry reply) ≡ []
shared_silent entries.TakeReport reply h = absurd (cc)
shared_silent entry reply h = refl

shared_in_order : (entry : Entry) (reply : Reply) (a : Bench) → is_shared entry ≡ true → HearsInOrder (Enters entry reply) a
shared_in_order (entries.Heard c input) reply a h = absurd (cc)
shared_in_order entry reply a h = tt

shared_no_fault : (entry : Entry) (reply : Reply) → is_shared entry ≡ true → IsFault (Enters entry reply) → ⊥
shared_no_fault entry reply h (c, told, e) = (let is : entry ≡ entries.Gone c true = cc in let f : true ≡ false = sym h ∙ ap is_shared is in cc)

-- what is known of one such deed
record IsIdle (e : Event) : Type 0 where
  unasked : is_asked e.deed ≡ false
  in_order : IsInOrder e
  no_fault : IsFault e.deed → ⊥
  whole : failed_in e.deed ≡ None
  silent : taken_text e.deed ≡ []

idle : (e : Event) → IsBeside e → IsIdle e
idle e h = go e.deed refl h.shared
  where
    go : (deed : Deed) → e.deed ≡ deed → is_shared (entry_in e.deed) ≡ true → IsIdle e
    go (Enters entry reply) is shared = (let may : is_shared entry ≡ true = sym (ap (λ (d : Deed). is_shared (entry_in d)) is) ∙ shared in record {
      unasked = ap is_asked is ∙ shared_unasked entry may;
      in_order = subst (λ (d : Deed). HearsInOrder d e.before) (sym is) (shared_in_order entry reply e.before may);
      no_fault = λ fault. shared_no_fault entry reply may (subst IsFault is fault);
      whole = ap failed_in is;
      silent = ap taken_text is ∙ shared_silent entry reply may;
    })
    go (Calls c call reply) is shared = (let no : false ≡ true = sym (ap (λ (d : Deed). is_shared (entry_in d)) is) ∙ shared in absurd (cc))

-- ---- one behind the other

pub beside_unasked : (es : List Event) → AllByRecursion IsBeside es → asked_of es ≡ []
beside_unasked [] all = refl
beside_unasked (e ∷ es) all = ap (λ (b : Bool). if b then e ∷ asked_of es else asked_of es) (idle e all.0).unasked ∙ beside_unasked es all.1

pub beside_in_order : (es : List Event) → AllByRecursion IsBeside es → AllByRecursion IsInOrder es
beside_in_order [] all = tt
beside_in_order (e ∷ es) all = ((idle e all.0).in_order, beside_in_order es all.1)

pub beside_silent : (es : List Event) → AllByRecursion IsBeside es → taken_report es ≡ []
beside_silent [] all = refl
beside_silent (e ∷ es) all = ap (λ (bs : List ℕ). bs ++ taken_report es) (idle e all.0).silent ∙ beside_silent es all.1

pub beside_faults : (es : List Event) → AllByRecursion IsBeside es → FaultsEnd None es
beside_faults [] all = tt
beside_faults (e ∷ es) all = ((idle e all.0).no_fault, subst (λ (o : Option ℕ). FaultsEnd o es) (sym (idle e all.0).whole) (beside_faults es all.1))

pub beside_skip : (c : ℕ) (es ys : List Event) → AllByRecursion IsBeside es → FaultsEnd (Some c) ys → FaultsEnd (Some c) (es ++ ys)
beside_skip c [] ys all h = h
beside_skip c (e ∷ es) ys all h = inr (all.0, beside_skip c es ys all.1 h)

pub carried_beside : (a b : Bench) → Beside a b → Carried a b
carried_beside a b h = record {
  events = h.events;
  runs = h.runs;
  asked_is = beside_unasked h.events h.all;
  drained = tt;
  in_order = beside_in_order h.events h.all;
  memory = h.memory;
  faults = beside_faults h.events h.all;
  text_is = beside_silent h.events h.all;
}

pub beside_none : (a : Bench) → Beside a a
beside_none a = record { events = []; runs = refl; all = tt; memory = tt }

pub beside_then : (a b c : Bench) → Beside a b → Beside b c → Beside a c
beside_then a b c h k = record {
  events = h.events ++ k.events;
  runs = runs_then a h.events b k.events c h.runs k.runs;
  all = all_append IsBeside h.events k.events h.all k.all;
  memory = all_append HadMemory h.events k.events h.memory k.memory;
}

-- ---- what the machine does at them

pub allows_shared : (log : List Call) (entry : Entry) → Allows log entry → is_shared entry ≡ true
allows_shared log entries.ReadPolicy may = refl
allows_shared log (entries.ReadCell cell) may = refl
allows_shared log entries.OpenJobs may = refl
allows_shared log (entries.Commit job run) may = refl
allows_shared log (entries.Decide job) may = refl
allows_shared log entry may = absurd may

-- memory runs out for runs alone
pub lacks_in_run : (entry : Entry) → is_shared entry ≡ true → (old : State) (reply : Reply) (new : State) → Steps old entry reply new → lacks_memory reply ≡ true
    → is_of_run entry ≡ true
lacks_in_run entries.ReadPolicy may old reply new h lacks = refl
lacks_in_run (entries.ReadCell cell) may old reply new h lacks = (let f : false ≡ true = sym (ap lacks_memory h.0) ∙ lacks in absurd (cc))
lacks_in_run entries.OpenJobs may old reply new h lacks = (let f : false ≡ true = sym (ap lacks_memory h.0) ∙ lacks in absurd (cc))
lacks_in_run (entries.Commit job run) may old reply new h lacks = refl
lacks_in_run (entries.Decide job) may old reply new h lacks = refl
lacks_in_run entry may old reply new h lacks = absurd (cc)
