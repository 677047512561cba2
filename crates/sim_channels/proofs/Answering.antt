-- Turns that answer a packet: which packets wait behind each, what they leave of the sessions, and that the work on a packet makes such.
use Rattle.std.proofs.Common.{◌≡◌, ℕ, false, List, [], ◌∷◌, ◌++◌, refl, sym, ap, ◌∙◌, subst, inl, inr, arith}
use Rattle.std.specs.Prelude.{◌==◌, ◌&&◌, ◌||◌, Contains}
use Rattle.std.specs.List.{AllByRecursion, list_any}
use Rattle.std.proofs.lemmas.Bool.{and_right, ne_eqb}
use Rattle.history_lock.specs.Histories.{AreAllowed, state_behind}
use Rattle.of10_codec.specs.declared.message.Message.{Message}
use Rattle.machine_steps.specs.declared.entry.Entry.{Entry}
use Rattle.machine_steps.specs.declared.entry.Entry.TheVariants as entries
use Rattle.machine_steps.specs.declared.entry.Input.TheVariants.{Message as Whole}
use Rattle.machine_steps.specs.declared.job.Job.{Job}
use Rattle.machine_steps.specs.declared.reply.Reply.{Reply}
use Rattle.machine_steps.specs.Admitting.{Admits}
use Rattle.machine_steps.specs.Histories.{Leads, Turn}
use Rattle.machine_steps.specs.Machine.{State, session_at}
use Rattle.machine_steps.specs.Steps.{Steps, item_of}
use Rattle.machine_steps.specs.Waiting.{Waiting}
use Rattle.machine_steps.proofs.Changes.{JobsBy, changes}
use Rattle.machine_steps.proofs.Changes.JobsBy.{Left, AreMany, Added}
use Rattle.machine_steps.proofs.Sound.Zipped.{all_filter}
use Rattle.machine_sharing.specs.Legal.{call_of}
use Rattle.machine_sharing.specs.Sharing.{Allows, Call}
use Rattle.machine_moves.specs.Told.{concerns}
use Rattle.packet_workers.specs.declared.worked.Worked.{Worked}
use Rattle.packet_workers.specs.declared.worked.Worked.TheVariants as how
use Rattle.packet_workers.specs.Rounds.{HasNoJob, IsClosedBy}
use Rattle.machine_desk.specs.Desks.{DeskView, calls_of}
use Rattle.machine_desk.specs.Working.{IsPlainCall, Works}
use Rattle.machine_desk.specs.Tending.{IsWhole}
use Rattle.sim_steps.proofs.Silent.{IsEasy}
use Rattle.sim_channels.specs.Channels.{IsReached}
use Rattle.machine_desk.specs.Driving.{DrivingLaws}
use Rattle.sim_channels.proofs.Making.{had_memory, may_make}
use Rattle.sim_channels.proofs.Keeping.{reached_on, session_same}

-- ---- the packets that wait

not_heard : (log : List Call) (entry : Entry) → Allows log entry → (d : ℕ) (x : Message) → entry ≡ entries.Heard d (Whole x) → ⊥
not_heard log entry may d x is = subst (Allows log) is may

-- all that wait behind such an entry waited ahead of it
still_all : (P : Job → Type 0) (log : List Call) (old : State) (entry : Entry) (reply : Reply) (new : State) → Allows log entry → Steps old entry reply new → AllByRecursion P old.jobs
    → AllByRecursion P new.jobs
still_all P log old entry reply new may steps all = go (changes old entry reply new steps).jobs
  where
    go : JobsBy old entry reply new → AllByRecursion P new.jobs
    go (Left untold count (inl e)) = subst (AllByRecursion P) (sym e) all
    go (Left untold count (inr (p, e))) = subst (AllByRecursion P) (sym e) (all_filter P p old.jobs all)
    go (AreMany r count many e) = subst (AllByRecursion P) (sym e) all
    go (Added x t j from r its number count e) = absurd (not_heard log entry may from.connection from.message from.is)

all_along : (P : Job → Type 0) (log : List Call) (m : State) (ts : List Turn) (n : State) → Leads m ts n → AreAllowed Allows log (calls_of ts) → AllByRecursion P m.jobs → AllByRecursion P n.jobs
all_along P log m [] n e allowed all = subst (λ (x : State). AllByRecursion P x.jobs) (sym e) all
all_along P log m (t ∷ ts) n (same, turn, rest) allowed all =
    let steps = subst (λ (x : State). Steps x t.entry t.reply t.behind) same turn.steps in
    all_along P (log ++ call_of t ∷ []) t.behind ts n rest allowed.1 (still_all P log m t.entry t.reply t.behind allowed.0 steps all)

-- ---- the work on a packet

last_behind : (m : State) (ts : List Turn) (n : State) → Leads m ts n → state_behind m (calls_of ts) ≡ n
last_behind m [] n e = sym e
last_behind m (t ∷ ts) n (same, turn, rest) = last_behind t.behind ts n rest

easy_turns : (worked : Worked) → (worked ≡ how.NoMemory → ⊥) → (ts : List Turn) → AllByRecursion (IsPlainCall worked) (calls_of ts) → AllByRecursion IsEasy ts
easy_turns worked enough [] all = tt
easy_turns worked enough (t ∷ ts) all = (had_memory t.reply (all.0.memory enough), easy_turns worked enough ts all.1)

abbrev IsItem : Waiting → Job → Type 0
IsItem item j = item ≡ item_of j

-- none waits where all that do are this one, and no open job is
none_left : (item : Waiting) (m : State) → HasNoJob item m → AllByRecursion (IsItem item) m.jobs → m.jobs ≡ []
none_left item m none all = go m.jobs refl all
  where
    go : (js : List Job) → m.jobs ≡ js → AllByRecursion (IsItem item) js → m.jobs ≡ []
    go [] e its = e
    go (j ∷ js) e its =
        absurd (none j (record {
          there = subst (λ (xs : List Job). Contains xs j) (sym e) (0, omega arith, refl);
          number = sym (ap (λ (i : Waiting). i.job) its.0);
          switch = sym (ap (λ (i : Waiting). i.switch) its.0);
          key = sym (ap (λ (i : Waiting). i.key) its.0);
        }))

closed : (item : Waiting) (m : State) (worked : Worked) → IsWhole worked → IsClosedBy worked item m → HasNoJob item m
closed item m how.NoMemory whole none = absurd whole
closed item m how.Worn whole none = absurd whole
closed item m worked whole none = none

not_broken : (worked : Worked) → IsWhole worked → worked ≡ how.NoMemory → ⊥
not_broken worked whole e = subst IsWhole e whole

-- so it answers the packet, and none waits any more
pub record Answers (a b : DeskView) : Type 0 where
  pub turns : List Turn
  pub leads : Leads a.now turns b.now
  pub past : b.past ≡ a.past ++ turns
  pub allowed : AreAllowed Allows (calls_of a.past) (calls_of turns)
  pub easy : AllByRecursion IsEasy turns
  pub none : b.now.jobs ≡ []

pub answers_by : DrivingLaws → (item : Waiting) (worked : Worked) (a b : DeskView) → a.footing.parts ≡ 1024 → (one : Job) → a.now.jobs ≡ one ∷ [] → item ≡ item_of one
    → Works item worked a b → IsWhole worked → Answers a b
answers_by laws item worked a b alone one waits its works whole = record {
  turns = works.turns;
  leads = works.meanwhile;
  past = works.past;
  allowed = works.allowed;
  easy = easy_turns worked (not_broken worked whole) works.turns
      (subst (AllByRecursion (IsPlainCall worked)) (sym same) (laws.plain item a.now.settings.budget 3 works.calls worked works.rounds));
  none = none_left item b.now (closed item b.now worked whole (subst (IsClosedBy worked item) last (laws.close item a.now.settings.budget 3 works.calls worked a.now works.rounds)))
      (all_along (IsItem item) (calls_of a.past) a.now works.turns b.now works.meanwhile works.allowed (subst (AllByRecursion (IsItem item)) (sym waits) (its, tt)));
}
  where
    same : calls_of works.turns ≡ works.calls
    same = works.alone alone

    last : state_behind a.now works.calls ≡ b.now
    last = ap (state_behind a.now) (sym same) ∙ last_behind a.now works.turns b.now works.meanwhile

-- ---- what such turns leave

-- only packets of this connection wait
abbrev pub AllBy : ℕ → State → Type 0
AllBy c m = AllByRecursion (λ (j : Job). j.connection ≡ c) m.jobs

-- such a turn is of no other connection
none_of : (c d job : ℕ) → (d ≡ c → ⊥) → (js : List Job) → AllByRecursion (λ (j : Job). j.connection ≡ c) js
    → list_any (λ (j : Job). j.number == job && j.connection == d) js ≡ false
none_of c d job other [] h = refl
none_of c d job other (j ∷ js) h =
    ap (λ b. b || list_any (λ (i : Job). i.number == job && i.connection == d) js)
    (and_right (j.number == job) (j.connection == d) (ne_eqb j.connection d (λ e. other (sym e ∙ h.0))))
    ∙ none_of c d job other js h.1

concerns_none : (c : ℕ) (m : State) → AllBy c m → (log : List Call) (entry : Entry) → Allows log entry → (d : ℕ) → (d ≡ c → ⊥) → concerns d entry m ≡ false
concerns_none c m h log entries.ReadPolicy may d other = refl
concerns_none c m h log (entries.ReadCell cell) may d other = refl
concerns_none c m h log entries.OpenJobs may d other = refl
concerns_none c m h log (entries.Commit job run) may d other = none_of c d job other m.jobs h
concerns_none c m h log (entries.Decide job) may d other = none_of c d job other m.jobs h
concerns_none c m h log entry may d other = absurd may

makes_none : (log : List Call) (entry : Entry) → Allows log entry → may_make entry ≡ false
makes_none log entries.ReadPolicy may = refl
makes_none log (entries.ReadCell cell) may = refl
makes_none log entries.OpenJobs may = refl
makes_none log (entries.Commit job run) may = refl
makes_none log (entries.Decide job) may = refl
makes_none log entry may = absurd may

-- a turn that anybody may make leaves the sessions of connections of which no packet waits
module _ (laws : DrivingLaws) (c : ℕ) where
  others_still : (log : List Call) (m : State) (entry : Entry) (reply : Reply) (n : State) → IsReached m → AllBy c m → Allows log entry → Steps m entry reply n
      → (d : ℕ) → (d ≡ c → ⊥) → session_at d n ≡ session_at d m
  others_still log m entry reply n reached by may steps d other =
      session_same laws m entry reply n reached steps (makes_none log entry may) d (concerns_none c m by log entry may d other)

  pub others_along : (log : List Call) (m : State) (ts : List Turn) (n : State) → IsReached m → AllBy c m → Leads m ts n → AreAllowed Allows log (calls_of ts)
      → (d : ℕ) → (d ≡ c → ⊥) → session_at d n ≡ session_at d m
  others_along log m [] n reached by e allowed d other = ap (session_at d) e
  others_along log m (t ∷ ts) n reached by (same, turn, rest) allowed d other =
      let admitted = subst (λ (x : State). Admits x t.entry) same turn.admitted in
      let steps = subst (λ (x : State). Steps x t.entry t.reply t.behind) same turn.steps in
      let by_then = still_all (λ (j : Job). j.connection ≡ c) log m t.entry t.reply t.behind allowed.0 steps by in
      others_along (log ++ call_of t ∷ []) t.behind ts n (reached_on m t.entry t.reply t.behind reached admitted steps) by_then rest allowed.1 d other
      ∙ others_still log m t.entry t.reply t.behind reached by allowed.0 steps d other
