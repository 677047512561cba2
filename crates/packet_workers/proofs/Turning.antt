-- What each call of a round did.
use Rattle.std.proofs.Common.{◌≡◌, ℕ, zero, suc, ◌+◌, ◌≤◌, ◌<◌, ◌^◌, ◌==◌, if◌then◌else◌, List, [], ◌∷◌, ◌++◌, sym, refl, ap, ◌∙◌, subst, arith, Some, None, true, Result, Ok, Err, IfOk, IfErr, inl, inr, IsTrue}
use Rattle.std.proofs.lemmas.Bool.Decides.{nat_tests}
use Rattle.atomic_table.specs.Seated.{TableId}
use Rattle.history_lock.specs.Histories.{Calls, StartsWith, Replays, event}
use Rattle.maple_base.specs.declared.cells.Cell.{Cell}
use Rattle.maple_base.specs.declared.cells.Value.{Value}
use Rattle.maple_base.specs.declared.decision.Settings.{Settings}
use Rattle.maple_base.specs.declared.key.Key.{Key}
use Rattle.maple_base.specs.Kinds.{of_kind}
use Rattle.policy_lang.specs.declared.Policy.{Policy}
use Rattle.policy_meaning.specs.Cells.{AreGiven}
use Rattle.trace_record.specs.Runs.{Recorded, IsRun, IsOfCall}
use Rattle.trace_record.specs.declared.recording.RecordError.{RecordError}
use Rattle.trace_record.specs.declared.recording.RecordError.TheVariants as errors
use Rattle.machine_steps.specs.declared.entry.Entry.{Entry}
use Rattle.machine_steps.specs.declared.entry.Entry.TheVariants as entries
use Rattle.machine_steps.specs.declared.reply.Reply.{Reply}
use Rattle.machine_steps.specs.declared.reply.Reply.TheVariants as replies
use Rattle.machine_steps.specs.declared.reply.Differs.{Differs}
use Rattle.machine_steps.specs.Admitting.{IsOfHistory}
use Rattle.machine_steps.specs.Machine.{State}
use Rattle.machine_steps.specs.Running.{CellsAreOfKind}
use Rattle.machine_steps.specs.Sound.{AreInRange}
use Rattle.machine_steps.specs.Steps.{LendsPolicy, Steps}
use Rattle.machine_steps.specs.Waiting.{Waiting}
use Rattle.topo_paths.specs.Scenes.{cell_in}
use Rattle.machine_sharing.specs.Longer.{IsTold, Lends, RunsAreAdmitted, SettingsStay, ThreeStay}
use Rattle.machine_sharing.specs.Sharing.{Allows, Call, Turns, stale_by, stale_count}
use Rattle.packet_workers.specs.declared.worked.Worked.{Worked}
use Rattle.packet_workers.specs.declared.worked.Worked.TheVariants.{Worn, NoMemory}
use Rattle.packet_workers.specs.Adding.{PassView, Adds}
use Rattle.packet_workers.specs.Rounds.{IsAmong, IsBudgetOf, IsClosedBy, IsReadOf, worked_by}
use Rattle.packet_workers.specs.Pieces.{Ends, HasRead, HasTold, IsLending, IsReading, IsRefused, IsStaleCommit, LendsIt, LendsNone, LendsNot, Makes, Records, RecordsNot, RefusesBy, Viewed, unrecorded_by, viewed}
use Rattle.packet_workers.proofs.Closing.{commits_close, commits_stale, decides_close, decides_ends}
use Rattle.packet_workers.proofs.Passing.{Stays, adds_kept, adds_one, stale_append}
use Rattle.packet_workers.proofs.Reading.{given_among, read_kept, read_more, told_kept, told_last, told_more}

pub err_at : {X Y : Type 0} (r : Result X Y) (P : Y → Type 0) (y : Y) → r ≡ Err y → IfErr r P → P y
err_at (Ok x) P y is h = cc
err_at (Err z) P y is h = let same : z ≡ y = cc in subst P same h

pub ok_at : {X Y : Type 0} (r : Result X Y) (P : X → Type 0) (x : X) → r ≡ Ok x → IfOk r P → P x
ok_at (Err z) P x is h = cc
ok_at (Ok z) P x is h = let same : z ≡ x = cc in subst P same h

-- ---- any call

pub refused : (u v : PassView) → Stays u v → (v.seen ≡ u.seen) × (v.own ≡ u.own) → Adds u [] v
refused u v s k = adds_kept u v s k.0 k.1

pub is_refused : (u v : PassView) → Stays u v → (v.seen ≡ u.seen) × (v.own ≡ u.own) → 2 ^ 62 ≤ v.number → IsRefused u v Worn
is_refused u v s k full = record { adds = refused u v s k; worn = refl; full = full }

abbrev pub makes : (u v : PassView) (entry : Entry) (reply : Reply) (c : Calls Turns Allows u entry reply v) → Stays u v → (IsTrue u.leads → Allows c.log entry) → Makes entry u v
makes u v entry reply c s allowed = record { call = event entry reply c.behind; entry_is = refl; adds = adds_one u v entry reply c s allowed; small = c.small }

-- the call's job is the packet's
pub at_job : (u v : PassView) (f : ℕ → Entry) (n job : ℕ) (reply : Reply) → n ≡ job → Calls Turns Allows u (f n) reply v → Calls Turns Allows u (f job) reply v
at_job u v f n job reply same c = let P : ℕ → Type 0 = λ x. Calls Turns Allows u (f x) reply v in subst P same c

-- ---- ReadPolicy

lending : (old : State) (reply : Reply) (new : State) → LendsPolicy old reply new → IsLending reply
lending old (replies.Policy number lent) new h = tt
lending old replies.NoMemory new h = tt
lending old other new h = absurd h

pub lends_it : (u v : PassView) (reply : Reply) → Calls Turns Allows u entries.ReadPolicy reply v → IsLending reply
lends_it u v reply c = lending c.before reply c.behind c.step.steps

lends_this : SettingsStay → (u v : PassView) (reply : Reply) (number : ℕ) (policy : Policy) → Calls Turns Allows u entries.ReadPolicy reply v → Stays u v → Lends number policy reply → LendsIt number policy u v
lends_this settings u v reply number policy c s l =
    let P : Settings → Type 0 = AreInRange in
    record {
      made = makes u v entries.ReadPolicy reply c s (λ lead. tt);
      lends = l;
      opening = c.opening;
      opens = c.opens;
      ranges = subst P (settings c.opening c.before c.log c.replays) c.step.sound.ranges;
    }

lends_none : (u v : PassView) (reply : Reply) (worked : Worked) → Calls Turns Allows u entries.ReadPolicy reply v → Stays u v → reply ≡ replies.NoMemory → worked ≡ NoMemory → LendsNot worked u v
lends_none u v reply worked c s lacks is = inr (record { made = makes u v entries.ReadPolicy reply c s (λ lead. tt); lacks = lacks; answer = is })

-- by the answer to the reply
pub lent_by : SettingsStay → (u v : PassView) (reply : Reply) {X : Type 0} (r : Result X Worked) (n : X → ℕ) (p : X → Policy) → Calls Turns Allows u entries.ReadPolicy reply v → Stays u v
    → IfOk r (λ x. Lends (n x) (p x) reply) → IfOk r (λ x. LendsIt (n x) (p x) u v)
lent_by settings u v reply (Ok x) n p c s h = lends_this settings u v reply (n x) (p x) c s h
lent_by settings u v reply (Err w) n p c s h = tt

pub broken_by : (u v : PassView) (reply : Reply) {X : Type 0} (r : Result X Worked) → Calls Turns Allows u entries.ReadPolicy reply v → Stays u v → IfErr r (λ w. (reply ≡ replies.NoMemory) × (w ≡ NoMemory))
    → IfErr r (λ w. LendsNot w u v)
broken_by u v reply (Ok x) c s h = tt
broken_by u v reply (Err w) c s h = lends_none u v reply w c s h.0 h.1

-- ---- Commit and Decide

-- a run of a policy that was told may be committed behind every legal history that begins with what was seen
pub may_commit : RunsAreAdmitted → (u : PassView) (budget : ℕ) (run : Recorded) → IsBudgetOf budget u → run.budget ≡ budget → IsTold run.number run.policy u.seen → IsRun run
    → (opening m : State) (log : List Call) → u.opening ≡ Some opening → StartsWith log u.seen → Replays Turns opening log m → IsOfHistory run m
may_commit runs u budget run b is t law opening m log opens later legal = runs opening m log u.seen run legal later t law (is ∙ sym (b opening opens))

stale_one : (job : ℕ) (run : Recorded) (d : Differs) → stale_by job (entries.Commit job run) (replies.Stale d) ≡ 1
stale_one job run d = grind (arith, nat_tests)

one_more : (u v : PassView) (job : ℕ) (run : Recorded) (reply : Reply) (d : Differs) → Calls Turns Allows u (entries.Commit job run) reply v → reply ≡ replies.Stale d → stale_count job u.seen + 1 ≤ stale_count job v.seen
one_more u v job run reply d c is =
    let e : Call = event (entries.Commit job run) reply c.behind in
    let one : stale_by job (entries.Commit job run) reply ≡ 1 = ap (stale_by job (entries.Commit job run)) is ∙ stale_one job run d in
    let whole = ap (stale_count job) c.seen in
    let last = stale_append job c.log (e ∷ []) in
    let log = ap (stale_count job) c.later.1 in
    let first = stale_append job u.seen c.later.0 in
    omega (arith, one, whole, last, log, first)

pub commit_stale : (u v : PassView) (job : ℕ) (run : Recorded) (reply : Reply) → Calls Turns Allows u (entries.Commit job run) reply v → Stays u v → worked_by reply ≡ None → IsStaleCommit job run u v
commit_stale u v job run reply c s none =
    let stale = commits_stale job run c.before reply c.behind c.step.steps none in
    record { made = makes u v (entries.Commit job run) reply c s (λ lead. tt); differs = stale.0; stale = stale.1; more = one_more u v job run reply stale.0 c stale.1 }

ends_here : (item : Waiting) (u v : PassView) (entry : Entry) (reply : Reply) (worked : Worked) (c : Calls Turns Allows u entry reply v) → Stays u v → (IsTrue u.leads → Allows c.log entry)
    → worked_by reply ≡ Some worked → IsClosedBy worked item c.behind → Ends item entry u v worked
ends_here item u v entry reply worked c s allowed is closed = inr (record { made = makes u v entry reply c s allowed; last = record { no_more = refl; answers = is; closed = closed } })

pub commit_ends : (item : Waiting) (u v : PassView) (run : Recorded) (reply : Reply) (worked : Worked) → Calls Turns Allows u (entries.Commit item.job run) reply v → Stays u v
    → (run.switch ≡ item.switch) × (run.key ≡ item.key) → worked_by reply ≡ Some worked → Ends item (entries.Commit item.job run) u v worked
commit_ends item u v run reply worked c s packet is =
    ends_here item u v (entries.Commit item.job run) reply worked c s (λ lead. tt) is (commits_close item run worked c.before reply c.behind c.step.steps packet.0 packet.1 is)

pub decide_ends : ThreeStay → (item : Waiting) (u v : PassView) (reply : Reply) (worked : Worked) → Calls Turns Allows u (entries.Decide item.job) reply v → Stays u v → 3 ≤ stale_count item.job u.seen
    → worked_by reply ≡ Some worked → Ends item (entries.Decide item.job) u v worked
decide_ends stay item u v reply worked c s three is =
    ends_here item u v (entries.Decide item.job) reply worked c s (λ lead. stay item.job c.log u.seen c.later three) is (decides_close item worked c.before reply c.behind c.step.steps is)

pub decide_never : (u v : PassView) (job : ℕ) (reply : Reply) → Calls Turns Allows u (entries.Decide job) reply v → worked_by reply ≡ None → ⊥
decide_never u v job reply c none = decides_ends job c.before reply c.behind c.step.steps none

pub ends_worn : (item : Waiting) (u v : PassView) (entry : Entry) → Stays u v → (v.seen ≡ u.seen) × (v.own ≡ u.own) → 2 ^ 62 ≤ v.number → Ends item entry u v Worn
ends_worn item u v entry s k full = inl (is_refused u v s k full)

-- ---- a view's read

pub reading : (u v : PassView) (cell : Cell) (reply : Reply) → Calls Turns Allows u (entries.ReadCell cell) reply v → IsReading reply
reading u v cell reply c = let P : Reply → Type 0 = IsReading in subst P (sym c.step.steps.0) tt

module _ (start u v : PassView) (cell : Cell) (reply : Reply) (value : Value) (c : Calls Turns Allows u (entries.ReadCell cell) reply v) (s : Stays u v) (is : reply ≡ replies.Value value) where
  added : Adds u (event (entries.ReadCell cell) reply c.behind ∷ []) v
  added = adds_one u v (entries.ReadCell cell) reply c s (λ lead. tt)

  read_it : IsReadOf (cell, value) (event (entries.ReadCell cell) reply c.behind)
  read_it = record { entry = refl; reply = is }

  pub read_in : HasRead start u → HasRead start v
  read_in h = read_more start u v (event (entries.ReadCell cell) reply c.behind) (cell, value) h added read_it

  pub read_last : HasRead start u → HasTold start v cell value
  read_last h = told_last start u v (event (entries.ReadCell cell) reply c.behind) cell value h added read_it

  pub read_others : (d : Cell) (w : Value) → HasTold start u d w → HasTold start v d w
  read_others = told_more start u v (event (entries.ReadCell cell) reply c.behind) (cell, value) added read_it

pub read_kind : CellsAreOfKind → (u v : PassView) (cell : Cell) (reply : Reply) (value : Value) → Calls Turns Allows u (entries.ReadCell cell) reply v → reply ≡ replies.Value value → of_kind cell value ≡ true
read_kind kinds u v cell reply value c is =
    let same : cell_in c.before.scene cell ≡ value = (let a = c.step.steps.0 in cc) in
    let P : Value → Type 0 = λ x. of_kind cell x ≡ true in
    subst P same (kinds c.before c.step.sound cell)

-- what was told, of the fields of a view
pub told_inside : (start : PassView) (place : TableId) (u : PassView) (n : ℕ) (w : Viewed) → viewed place u n ≡ w → (d : Cell) (v : Value) → HasTold start w.known d v → HasTold start u d v
told_inside start place u n w same d v h = let P : Viewed → Type 0 = λ x. HasTold start x.known d v in subst P (sym same) h

pub refuses_none : (u v : PassView) (entry : Entry) (reply : Reply) → Calls Turns Allows u entry reply v → (n : ℕ) → n ≡ 0 → RefusesBy n v.number
refuses_none u v entry reply c n none = (λ _. c.small, λ some. absurd (omega (arith, none, some)))

pub refuses_now : (number : ℕ) → 2 ^ 62 ≤ number → RefusesBy 1 number
refuses_now number full = (λ none. absurd (omega (arith, none)), λ some. full)

-- ---- recording

from_start : (start u v : PassView) → start ≡ u → HasRead start v → HasRead u v
from_start start u v same h = let P : PassView → Type 0 = λ x. HasRead x v in subst P same h

all_given : (start u v : PassView) (same : start ≡ u) (h : HasRead start v) (place : TableId) (n : ℕ) (w : Viewed) (cells : List (Cell × Value)) → viewed place v n ≡ w → AreGiven (HasTold start w.known) cells
    → AreGiven (IsAmong (from_start start u v same h).told) cells
all_given start u v same h place n w cells is given =
    let P : Viewed → Type 0 = λ x. AreGiven (HasTold start x.known) cells in
    let Q : PassView → Type 0 = λ x. AreGiven (HasTold x v) cells in
    given_among u v (from_start start u v same h) cells (subst Q same (subst P (sym is) given))

pub records_it : (start u v : PassView) (place : TableId) (n : ℕ) (w : Viewed) (item : Waiting) (budget number : ℕ) (policy : Policy) (run : Recorded) → start ≡ u → viewed place v n ≡ w → HasRead start v → RefusesBy n v.number → n ≡ 0
    → IsRun run → IsOfCall policy number budget item.switch item.key run → AreGiven (HasTold start w.known) run.cells → Records item budget number policy u v run
records_it start u v place n w item budget number policy run same is h r none law call given =
    record { read = from_start start u v same h; run_is = record { law = law; call = call; cells = all_given start u v same h place n w run.cells is given }; small = r.0 none }

records_worn : (start u v : PassView) (n : ℕ) → start ≡ u → HasRead start v → RefusesBy n v.number → 1 ≤ n → RecordsNot u v Worn
records_worn start u v n same h r some = record { read = from_start start u v same h; broken = tt; worn = r.1 some }

records_lacks : (start u v : PassView) (n : ℕ) → start ≡ u → HasRead start v → RefusesBy n v.number → n ≡ 0 → RecordsNot u v NoMemory
records_lacks start u v n same h r none = record { read = from_start start u v same h; broken = tt; worn = r.0 none }

-- a view didn't refuse where the answer isn't Unread
pub never_refused : (n : ℕ) (P : Type 0) → (P → ⊥) → (0 < n → P) → n ≡ 0
never_refused zero P not h = refl
never_refused (suc n) P not h = absurd (not (h (omega arith)))

pub same_hall : (p q : TableId) → p ∷ [] ≡ q ∷ [] → p ≡ q
same_hall p q is = cc

pub ok_no_err : {X Y : Type 0} (r : Result X Y) (x : X) (y : Y) → r ≡ Ok x → r ≡ Err y → ⊥
ok_no_err (Ok z) x y a b = cc
ok_no_err (Err z) x y a b = cc

no_memory_read : errors.NoMemory ≡ errors.Unread → ⊥
no_memory_read e = cc

err_same : (X : Type 0) (z y : RecordError) → (let r : Result X RecordError = Err z in let q : Result X RecordError = Err y in r ≡ q) → z ≡ y
err_same X z y e = cc

other_err : {X : Type 0} (r : Result X RecordError) (y : RecordError) → r ≡ Err y → y ≡ errors.NoMemory → r ≡ Err errors.Unread → ⊥
other_err (Ok z) y a is b = cc
other_err {X} (Err z) y a is b = no_memory_read (sym is ∙ sym (err_same X z y a) ∙ err_same X z errors.Unread b)

pub of_item : (p : Policy) (n b s t : ℕ) (k l : Key) (run : Recorded) → s ≡ t → k ≡ l → IsOfCall p n b s k run → IsOfCall p n b t l run
of_item p n b s t k l run e f c = record { policy = c.policy; number = c.number; budget = c.budget; switch = c.switch ∙ e; key = c.key ∙ f }

pub records_not : {X : Type 0} (start u v : PassView) (n : ℕ) (r : Result X RecordError) (why : RecordError) → start ≡ u → HasRead start v → RefusesBy n v.number → r ≡ Err why → (0 < n → r ≡ Err errors.Unread)
    → (r ≡ Err errors.Unread → 1 ≤ n) → RecordsNot u v (unrecorded_by why)
records_not start u v n r errors.Unread same h b is unread some = records_worn start u v n same h b (some is)
records_not start u v n r errors.NoMemory same h b is unread some = records_lacks start u v n same h b (never_refused n _ (other_err r errors.NoMemory is refl) unread)
