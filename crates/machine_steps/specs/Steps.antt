-- What the machine does at each entry: the reply, its cause, and the state behind it. After want of memory the state is as before.
use Rattle.std.specs.FinMap as map_of
use Rattle.std.specs.FinSet as set
use Rattle.std.specs.Prelude.{◌≡◌, ◌≢◌, ◌⊎◌, ℕ, ◌+◌, ◌-◌, ◌/◌, ◌%◌, ◌^◌, ◌≤◌, ◌<◌, Bool, true, false, not, ◌&&◌, ◌==◌, nat_lt, nat_le, if◌then◌else◌, map, filter, List, [], ◌∷◌, ◌++◌, length, find, Option, Some, None, is_some, unwrap_or, Ok, Err, is_err, Contains}
use Rattle.std.specs.List.{list_all, flat_map}
use Rattle.maple_base.specs.declared.key.Key.{Key}
use Rattle.maple_base.specs.declared.cells.Cell.{Cell}
use Rattle.maple_base.specs.declared.cells.Cell.TheVariants.{Host as HostCell}
use Rattle.maple_base.specs.declared.cells.Place.{Place}
use Rattle.maple_base.specs.declared.cells.Port.{Port}
use Rattle.maple_base.specs.declared.cells.Value.{Value}
use Rattle.maple_base.specs.declared.cells.Value.TheVariants.{At}
use Rattle.maple_base.specs.declared.decision.Decision.{Decision}
use Rattle.maple_base.specs.declared.decision.Outcome.{Outcome}
use Rattle.maple_base.specs.declared.decision.Outcome.TheVariants.{Decided, Spent as SpentRun}
use Rattle.maple_base.specs.declared.decision.Rule.{Rule}
use Rattle.maple_base.specs.declared.update_refused.UpdateRefused.{UpdateRefused}
use Rattle.maple_base.specs.Decisions.{actions_at}
use Rattle.maple_base.specs.PolicyFaults.{fault_numbered}
use Rattle.maple_base.specs.Ports.{is_port}
use Rattle.maple_base.specs.RuleLists.{Rules}
use Rattle.maple_base.specs.declared.device.Seen.{Seen}
use Rattle.maple_base.specs.declared.device.Seen.TheVariants.{Hit, Miss}
use Rattle.maple_base.specs.declared.items.Item.{Item}
use Rattle.maple_base.specs.declared.policy_fault.PolicyFault.{PolicyFault}
use Rattle.of10_codec.specs.declared.message.Message.{Message}
use Rattle.of10_codec.specs.declared.message.Body.{Body}
use Rattle.of10_codec.specs.declared.message.Body.TheVariants as body
use Rattle.of10_codec.specs.Faults.{fault_number as bad_number}
use Rattle.of10_codec.specs.RuleOrder.{ArePut}
use Rattle.packet_key.specs.declared.malformed.Malformed.{Malformed as Fault}
use Rattle.packet_key.specs.Frames.{key_of, fault_number}
use Rattle.env_cells.specs.declared.updates.Update.{Update}
use Rattle.env_cells.specs.declared.updates.Update.TheVariants.{Switch, Port as PortUpdate, Host, Tables}
use Rattle.env_cells.specs.Environment.{Environment, knows}
use Rattle.env_cells.specs.Most.{most_switches}
use Rattle.env_cells.specs.Changes.{applied}
use Rattle.env_cells.specs.Refusals.{refusal_of}
use Rattle.topo_paths.specs.Scenes.{links_in, cell_in}
use Rattle.topo_paths.specs.Walks.{Link}
use Rattle.policy_lang.specs.declared.Policy.{Policy}
use Rattle.policy_meaning.specs.Asking.{Asking}
use Rattle.policy_meaning.specs.Readings.{items_of, cells_of}
use Rattle.policy_meaning.specs.Through.{through, nothing}
use Rattle.policy_meaning.specs.Meaning.{meaning, eval_of}
use Rattle.trace_record.specs.Runs.{Recorded}
use Rattle.trace_tree.specs.declared.node.Trace.{Trace}
use Rattle.trace_tree.specs.declared.node.Leaf.{Leaf}
use Rattle.trace_tree.specs.Growth.{found, scratch}
use Rattle.tree_prune.specs.Current.{is_current, same_value}
use Rattle.switch_traces.specs.Traces.{Learnings}
use Rattle.switch_traces.specs.Learning.{judged}
use Rattle.switch_traces.specs.Lists.{AreRulesOf}
use Rattle.tree_prune.specs.Stale.{stale_in}
use Rattle.priority_plan.specs.Rules.{rules_of}
use Rattle.report_text.specs.declared.line.Line.{Line}
use Rattle.report_text.specs.declared.line.Line.TheVariants as lines
use Rattle.report_text.specs.declared.line.ScriptRefusal.{ScriptRefusal}
use Rattle.report_text.specs.ScriptRefusals.{refusal_numbered}
use Rattle.report_text.specs.Report.{spelled}
use Rattle.report_text.specs.declared.line.Why.{Why}
use Rattle.report_text.specs.declared.line.Why.TheVariants as why
use Rattle.report_text.specs.declared.line.Learnt.{Learnt}
use Rattle.report_text.specs.declared.line.Learnt.TheVariants.{Learned, Known}
use Rattle.switch_session.specs.declared.told.End.{End}
use Rattle.switch_session.specs.declared.told.End.TheVariants as ends
use Rattle.switch_session.specs.declared.told.Heard.{Heard}
use Rattle.switch_session.specs.declared.told.Heard.TheVariants as heard
use Rattle.switch_session.specs.Sessions.{ended, aimed, put, heading}
use Rattle.maple_base.specs.OpenFlow.{no_buffer}
use Rattle.switch_session.specs.Parts.{Update as Plan, packet_out, is_nil}
use Rattle.switch_session.specs.Calls.{opened, Answer, Hears, IsUpdate, Accepts, TakesOut}
use Rattle.machine_steps.specs.declared.entry.Entry.{Entry}
use Rattle.machine_steps.specs.declared.entry.Entry.TheVariants as entries
use Rattle.machine_steps.specs.declared.entry.Input.{Input}
use Rattle.machine_steps.specs.declared.entry.Input.TheVariants.{Message as Whole, Bad}
use Rattle.machine_steps.specs.Waiting.{Waiting}
use Rattle.machine_steps.specs.declared.note.Note.{Note}
use Rattle.machine_steps.specs.declared.note.Note.TheVariants as notes
use Rattle.machine_steps.specs.declared.reply.Reply.{Reply}
use Rattle.machine_steps.specs.declared.reply.Reply.TheVariants.{Done, NoMemory, Ended, Job as JobOpened, Malformed, TooBig, Overload, NewState, UpdateRefused as Refused, Value as ValueRead, Policy as PolicyLent, Count, Answered, Spent, Stale, NotOpen, Out, Lines}
use Rattle.machine_steps.specs.declared.reply.Differs.TheVariants.{OfCell, OfPolicy}
use Rattle.machine_steps.specs.Machine.{Session, Job, State, this_state, policy_number, state_number, most_sessions, most_jobs, most_sent_back, in_force, is_live, is_open, session_at, was_opened, open_count, with_session, without_session, is_served, traces_in, traces_of, with_traces, trace_total, kept_of, tells, tells_all}

-- ---- what several entries share

-- memory ran out: nothing changes
abbrev pub Lacks : State → Reply → State → Type 0
Lacks old reply new = (reply ≡ NoMemory) × (new ≡ old)

-- there is nothing to do
abbrev pub Passes : State → Reply → State → Type 0
Passes old reply new = (reply ≡ Done) × (new ≡ old)

abbrev pub why_of : End → Why
why_of (ends.Bad place bad) = why.Bad place (bad_number bad)
why_of ends.Version = why.Version
why_of (ends.Twice dpid) = why.Twice dpid
why_of ends.Full = why.Full
why_of ends.ClearRefused = why.Clear
why_of (ends.Early xid) = why.Early xid
why_of ends.Xids = why.Xids
why_of ends.LinkEnd = why.Link
why_of ends.LinkFault = why.Fault

-- a session, which ended for this reason, is put back: its jobs are closed, and its line is told
abbrev pub closes : Session → End → State → State
closes s end m =
    tells (lines.Closed s.connection (why_of end)) (record (with_session s m) { jobs = filter (λ (j : Job). not (j.connection == s.connection)) m.jobs })

-- the number of a live session's switch
abbrev pub switch_of : Session → ℕ
switch_of s = unwrap_or s.dpid 0

-- the session heads for the rules of these traces from now on
pub record HeadsFor (traces : List Trace) (s t : Session) : Type 0 where
  pub rules : Rules
  pub are_rules : AreRulesOf traces rules
  pub plan : Plan
  pub is_plan : IsUpdate s rules plan
  pub now_is : t ≡ aimed plan s

-- a session that is aimed heads for the rules of its switch's traces: where it did already it stays as it is, since aiming would change nothing
abbrev pub HeadsOn : List Trace → Session → Session → Type 0
HeadsOn traces s t = (AreRulesOf traces (heading s) × (t ≡ s)) ⊎ HeadsFor traces s t

-- any other stays as it is
abbrev pub AimsBy : Bool → List Learnings → Session → Session → Type 0
AimsBy true learned s t = HeadsOn (traces_in learned (switch_of s)) s t
AimsBy false learned s t = t ≡ s

-- a live session that isn't quiet is aimed
abbrev pub AimsOne : List Learnings → Session → Session → Type 0
AimsOne learned s t = AimsBy (is_live s && not s.quiet) learned s t

abbrev pub AimsAll : List Learnings → List Session → List Session → Type 0
AimsAll learned [] ts = ts ≡ []
AimsAll learned (s ∷ ss) [] = ⊥
AimsAll learned (s ∷ ss) (t ∷ ts) = AimsOne learned s t × AimsAll learned ss ts

-- the next state, with this environment: of the traces those are left of which p holds
abbrev pub advanced : Environment → (Leaf → Bool) → State → State
advanced scene p m = record m { states = m.states ++ this_state m ∷ []; scene = scene; learned = kept_of p m.learned }

-- the state behind an update: the traces go of which a recorded cell has another value there
abbrev pub updated : Update → State → State
updated u m = advanced (applied m.scene u) (is_current (cell_in (applied m.scene u))) m

-- the state behind another policy: its tables are declared, and all traces go
abbrev pub renewed : Policy → State → State
renewed policy m =
    record (advanced (applied m.scene (Tables policy.tables)) (λ (l : Leaf). false) m) { earlier = m.earlier ++ m.policy ∷ []; policy = policy }

-- how many traces went
abbrev pub gone : State → State → ℕ
gone old next = trace_total old.learned - trace_total next.learned

-- a state was reached: its line is told, and the live sessions head for the rules that are left
pub record Reaches (old next new : State) : Type 0 where
  pub sessions : List Session
  pub aims : AimsAll next.learned next.sessions sessions
  pub now_is : new ≡ tells (lines.State (state_number next) (gone old next)) (record next { sessions = sessions })

abbrev pub reached : State → State → Reply
reached old next = NewState (state_number next) (gone old next)

-- an accepted update, or one that is refused and changes nothing but the report
abbrev pub Updates : Update → State → Reply → State → Type 0
Updates u old reply new =
    ((refusal_of old.scene u ≡ None) × (reply ≡ reached old (updated u old)) × Reaches old (updated u old) new)
    ⊎ (((kind : UpdateRefused) × (refusal_of old.scene u ≡ Some kind) × (reply ≡ Refused kind) × (new ≡ tells (lines.RefusedUpdate kind) old))
    ⊎ Lacks old reply new)

-- ---- connections

abbrev pub Opens : ℕ → State → Reply → State → Type 0
Opens c old reply new =
    ((was_opened c old ≡ true) × Passes old reply new)
    ⊎ (((was_opened c old ≡ false) × (most_sessions ≤ open_count old) × (reply ≡ Ended ends.Full) × (new ≡ tells (lines.Closed c why.Full) (record old { opened = set.insert old.opened c })))
    ⊎ (((was_opened c old ≡ false) × (open_count old < most_sessions) × (reply ≡ Done)
    × (new ≡ tells (lines.Open c) (record old { opened = set.insert old.opened c; sessions = old.sessions ++ opened c old.settings.capacity ∷ [] })))
    ⊎ Lacks old reply new))

-- the open session of a connection ends for this reason: that takes no memory
abbrev pub EndsSession : ℕ → End → State → Reply → State → Type 0
EndsSession c end old reply new =
    ((session_at c old ≡ None) × Passes old reply new)
    ⊎ ((s : Session) × (session_at c old ≡ Some s) × (reply ≡ Ended end) × (new ≡ closes (ended s) end old))

abbrev pub link_end : Bool → End
link_end fault = if fault then ends.LinkFault else ends.LinkEnd

-- the session of a connection, also an ended one
abbrev pub kept_at : ℕ → State → Option Session
kept_at c m = find (λ (s : Session). s.connection == c) m.sessions

-- behind its messages an open session stays, and an ended one goes
abbrev pub emptied : Bool → Session → State → State
emptied true t m = with_session t m
emptied false t m = without_session t.connection m

-- messages are taken out, also those of a session that ended
abbrev pub TakesMessages : ℕ → State → Reply → State → Type 0
TakesMessages c old reply new =
    ((kept_at c old ≡ None) × (reply ≡ Out []) × (new ≡ old))
    ⊎ (((s t : Session) × (bytes : List ℕ) × (kept_at c old ≡ Some s) × TakesOut s bytes t × (reply ≡ Out bytes) × (new ≡ emptied (is_open s) t old))
    ⊎ Lacks old reply new)

-- ---- messages

-- as many switches are known as may be, and this isn't among them
abbrev pub is_full : ℕ → State → Bool
is_full dpid m = not (knows m.scene dpid) && nat_le most_switches (map_of.len m.scene.switches)

-- the switch of a session is known, with its ports, and has a list of traces: the other sessions are aimed, and then this one is accepted with its switch's rules
pub record Joins (t : Session) (dpid : ℕ) (ports : List Port) (old new : State) : Type 0 where
  pub reached : State
  pub reaches : Reaches old (updated (Switch dpid ports) (with_traces dpid (traces_of dpid old) (with_session t old))) reached
  pub rules : Rules
  pub are_rules : AreRulesOf (traces_of dpid reached) rules
  pub accepted : Session
  pub accepts : Accepts t rules accepted
  pub now_is : new ≡ with_session accepted reached

-- a FEATURES_REPLY
abbrev pub HearsFeatures : Session → ℕ → List Port → State → Reply → State → Type 0
HearsFeatures t dpid ports old reply new =
    ((is_served dpid old ≡ true) × (reply ≡ Ended (ends.Twice dpid)) × (new ≡ closes (ended t) (ends.Twice dpid) old))
    ⊎ (((is_served dpid old ≡ false) × (is_full dpid old ≡ true) × (reply ≡ Ended ends.Full) × (new ≡ closes (ended t) ends.Full old))
    ⊎ ((is_served dpid old ≡ false) × (is_full dpid old ≡ false) × (reply ≡ reached old (updated (Switch dpid ports) old)) × Joins t dpid ports old new))

-- the place at which a key's packet came in, and the address is of one interface (IEEE 802)
abbrev pub entry_of : ℕ → Key → Place
entry_of switch k = record { switch = switch; port = k.in_port }

abbrev pub is_individual : ℕ → Bool
is_individual mac = (mac / 2 ^ 40) % 2 == 0

abbrev pub begins_at : Place → Link → Bool
begins_at place link = link.0.switch == place.switch && link.0.port == place.port

-- a packet teaches where its sender is: the policy learns hosts, the sender's address is of one interface, the port is a physical one at which no link begins, and the host isn't known to be there
abbrev pub teaches : ℕ → Key → State → Bool
teaches switch k m =
    m.policy.learning && (is_individual k.dl_src && (is_port k.in_port
    && (list_all (λ link. not (begins_at (entry_of switch k) link)) (links_in m.scene)
    && not (same_value (cell_in m.scene (HostCell k.dl_src)) (At (entry_of switch k))))))

-- what a packet teaches is an update; where there is no room for the host, nothing is told
abbrev pub TeachesBy : Bool → Update → State → State → Type 0
TeachesBy true u old new =
    ((refusal_of old.scene u ≡ None) × Reaches old (updated u old) new) ⊎ ((refusal_of old.scene u ≢ None) × (new ≡ old))
TeachesBy false u old new = new ≡ old

abbrev pub Teaches : ℕ → Key → State → State → Type 0
Teaches switch k old new = TeachesBy (teaches switch k old) (Host k.dl_src (entry_of switch k)) old new

-- a packet whose bytes came whole is too big to be sent back
abbrev pub is_too_big : ℕ → List ℕ → Bool
is_too_big buffer frame = buffer == no_buffer && nat_lt most_sent_back (length frame)

abbrev pub job_of : Session → ℕ → List ℕ → Key → State → Job
job_of s buffer frame k m =
    record { number = m.job_count + 1; connection = s.connection; switch = switch_of s; key = k; buffer = buffer; frame = if buffer == no_buffer then frame else [] }

abbrev pub item_of : Job → Waiting
item_of j = record { job = j.number; switch = j.switch; key = j.key }

abbrev pub opens_job : Job → State → State
opens_job j m = record m { jobs = m.jobs ++ j ∷ []; job_count = m.job_count + 1 }

-- a PACKET_IN: its headers, its size, what it teaches, and then a job where one more may be open
abbrev pub HearsPacket : Session → ℕ → ℕ → List ℕ → State → Reply → State → Type 0
HearsPacket s buffer in_port frame old reply new =
    ((fault : Fault) × (key_of in_port frame ≡ Err fault) × (reply ≡ Malformed (fault_number fault)) × (new ≡ tells (lines.Malformed s.connection (fault_number fault)) old))
    ⊎ (((k : Key) × (key_of in_port frame ≡ Ok k) × (is_too_big buffer frame ≡ true) × (reply ≡ TooBig (length frame)) × (new ≡ tells (lines.TooBig s.connection (length frame)) old))
    ⊎ (((k : Key) × (taught : State) × (key_of in_port frame ≡ Ok k) × (is_too_big buffer frame ≡ false) × Teaches (switch_of s) k old taught
    × (most_jobs ≤ length old.jobs) × (reply ≡ Overload) × (new ≡ tells (lines.Overload s.connection) taught))
    ⊎ ((k : Key) × (taught : State) × (key_of in_port frame ≡ Ok k) × (is_too_big buffer frame ≡ false) × Teaches (switch_of s) k old taught
    × (length old.jobs < most_jobs) × (reply ≡ JobOpened (item_of (job_of s buffer frame k taught))) × (new ≡ opens_job (job_of s buffer frame k taught) taught))))

-- the line of an ERROR
abbrev pub error_lines : ℕ → Body → List Line
error_lines c (body.Error kind code bytes) = lines.Error c kind code ∷ []
error_lines c message = []

-- the first error of a batch: the traces of the switch are retired
abbrev pub quiets : Session → State → State
quiets t m = tells (lines.Quiet (switch_of t) (length (traces_of (switch_of t) m))) (with_traces (switch_of t) [] m)

-- what the machine does with what a session, now t, makes of a message
abbrev pub HearsOf : Message → Session → Heard → State → Reply → State → Type 0
HearsOf m t heard.Passed old reply new = (reply ≡ Done) × (new ≡ with_session t old)
HearsOf m t (heard.Features dpid ports) old reply new = HearsFeatures t dpid ports old reply new
HearsOf m t (heard.PacketIn buffer in_port frame) old reply new = HearsPacket t buffer in_port frame old reply new
HearsOf m t (heard.Port port up) old reply new = Updates (PortUpdate (switch_of t) port up) old reply new
HearsOf m t (heard.Acknowledged true) old reply new = (reply ≡ Done) × (new ≡ tells (lines.Ready t.connection (switch_of t)) (with_session t old))
HearsOf m t (heard.Acknowledged false) old reply new = (reply ≡ Done) × (new ≡ with_session t old)
HearsOf m t (heard.Refused kind code true) old reply new = (reply ≡ Done) × (new ≡ quiets t (tells (lines.Error t.connection kind code) (with_session t old)))
HearsOf m t (heard.Refused kind code false) old reply new = (reply ≡ Done) × (new ≡ tells (lines.Error t.connection kind code) (with_session t old))
HearsOf m t (heard.Ended end) old reply new = (reply ≡ Ended end) × (new ≡ tells_all (error_lines t.connection m.body) (closes t end old))

-- of a BARRIER_REPLY, and of an ERROR that makes its session quiet or ends it, memory can't run out
abbrev pub is_spared : Body → Heard → Bool
is_spared body.BarrierReply h = true
is_spared (body.Error kind code bytes) (heard.Refused k c quiet) = quiet
is_spared (body.Error kind code bytes) h = true
is_spared message h = false

-- a message on the open session of a connection
pub record HearsMessage (c : ℕ) (m : Message) (old : State) (reply : Reply) (new : State) : Type 0 where
  pub session : Session
  pub there : session_at c old ≡ Some session
  pub heard : Heard
  pub behind : Session
  pub hears : Hears m session (Ok heard) behind
  pub does : HearsOf m behind heard old reply new ⊎ ((is_spared m.body heard ≡ false) × Lacks old reply new)

-- memory ran out for the session
pub record LacksForMessage (c : ℕ) (m : Message) (old : State) (reply : Reply) (new : State) : Type 0 where
  pub session : Session
  pub there : session_at c old ≡ Some session
  pub answer : Answer
  pub lacked : is_err answer ≡ true
  pub hears : Hears m session answer session
  pub lacks : Lacks old reply new

abbrev pub HearsInput : ℕ → Input → State → Reply → State → Type 0
HearsInput c (Bad place bad) old reply new = EndsSession c (ends.Bad place bad) old reply new
HearsInput c (Whole m) old reply new =
    ((session_at c old ≡ None) × Passes old reply new) ⊎ (HearsMessage c m old reply new ⊎ LacksForMessage c m old reply new)

-- ---- runs

-- the open job of this number, where it is of this switch and key
pub record IsJob (n s : ℕ) (k : Key) (m : State) (j : Job) : Type 0 where
  pub there : Contains m.jobs j
  pub number : j.number ≡ n
  pub switch : j.switch ≡ s
  pub key : j.key ≡ k

abbrev pub close_job : Job → State → State
close_job j m = record m { jobs = filter (λ (i : Job). not (i.number == j.number)) m.jobs }

abbrev pub next_trace : List Item → List (Cell × Value) → Decision → State → Trace
next_trace items cells d m = record { number = m.trace_count + 1; items = items; cells = cells; decision = d }

-- what is learned of a trace: nothing where one is found, where the tree with it would need too many levels, or else too many rules, or where the switch gets no more rules
abbrev pub learnt : State → Bool → List Trace → Key → Trace → Learnt
learnt m quiet traces k r = if is_some (found traces k) then Known else judged m.settings.levels m.settings.capacity quiet (traces ++ r ∷ [])

-- the packet is sent as the decision says, unless it says to send it nowhere
abbrev pub sends : Job → Decision → Session → Session
sends j d s = if is_nil (actions_at d j.switch) then s else put (packet_out j.buffer j.key.in_port (actions_at d j.switch) j.frame) s

-- the trace is kept, and the session heads for the rules with it; or nothing is learned
abbrev pub Keeps : Learnt → Job → Trace → Session → State → State → Type 0
Keeps Learned j r s old new =
    (t : Session) × HeadsFor (traces_of j.switch old ++ r ∷ []) s t
    × (new ≡ record (with_traces j.switch (traces_of j.switch old ++ r ∷ []) (with_session t old)) { trace_count = old.trace_count + 1 })
Keeps other j r s old new = new ≡ with_session s old

-- a decision: the packet is answered, ahead of any batch, and then the trace is learned
pub record Answers (j : Job) (items : List Item) (cells : List (Cell × Value)) (d : Decision) (old : State) (reply : Reply) (new : State) : Type 0 where
  pub session : Session
  pub there : session_at j.connection old ≡ Some session
  pub learns : Learnt
  pub exactly : learns ≡ learnt old session.quiet (traces_of j.switch old) j.key (next_trace items cells d old)
  pub kept : State
  pub keeps : Keeps learns j (next_trace items cells d old) (sends j d session) old kept
  pub replies : reply ≡ Answered d learns
  pub now_is : new ≡ tells (lines.Answer j.switch j.key.in_port d learns) (close_job j kept)

-- a run ends a job
abbrev pub Concludes : Job → List Item → List (Cell × Value) → Outcome → State → Reply → State → Type 0
Concludes j items cells SpentRun old reply new = (reply ≡ Spent) × (new ≡ tells (lines.Spent j.switch j.key.in_port) (close_job j old))
Concludes j items cells (Decided d) old reply new = Answers j items cells d old reply new

abbrev pub Commits : ℕ → Recorded → State → Reply → State → Type 0
Commits number run old reply new =
    (((j : Job) → ¬ (IsJob number run.switch run.key old j)) × (reply ≡ NotOpen) × (new ≡ old))
    ⊎ (((j : Job) × IsJob number run.switch run.key old j × (run.number ≢ policy_number old)
    × (reply ≡ Stale (OfPolicy run.number (policy_number old))) × (new ≡ tells (lines.Stale number) old))
    ⊎ (((j : Job) × (c : Cell) × (recorded current : Value) × IsJob number run.switch run.key old j × (run.number ≡ policy_number old)
    × (stale_in (cell_in old.scene) run.cells ≡ Some (c, recorded, current)) × (reply ≡ Stale (OfCell c recorded current)) × (new ≡ tells (lines.Stale number) old))
    ⊎ (((j : Job) × IsJob number run.switch run.key old j × (run.number ≡ policy_number old) × (stale_in (cell_in old.scene) run.cells ≡ None)
    × Concludes j run.items run.cells run.outcome old reply new)
    ⊎ Lacks old reply new)))

-- what the policy in force asks of a packet of this key, in the state now
abbrev pub asked_now : Job → State → Asking Outcome
asked_now j m = through (meaning (in_force m).body m.settings.budget j.switch) nothing

abbrev pub Decides : ℕ → State → Reply → State → Type 0
Decides number old reply new =
    (((j : Job) → Contains old.jobs j → j.number ≢ number) × (reply ≡ NotOpen) × (new ≡ old))
    ⊎ (((j : Job) × IsJob number j.switch j.key old j
    × Concludes j (items_of (asked_now j old) j.key (cell_in old.scene)) (cells_of (asked_now j old) j.key (cell_in old.scene)) (eval_of (in_force old).body old.settings.budget (cell_in old.scene) j.switch j.key) old reply new)
    ⊎ Lacks old reply new)

-- ---- what is read and told

-- the policy in force is lent, with its number
abbrev pub LendsPolicy : State → Reply → State → Type 0
LendsPolicy old (PolicyLent number lent) new = (number ≡ policy_number old) × (lent.value ≡ old.policy) × (new ≡ old)
LendsPolicy old NoMemory new = new ≡ old
LendsPolicy old reply new = ⊥

abbrev pub rule_line : ℕ → Rule → Line
rule_line switch r = lines.Rule switch r.priority r.actions r.of

-- the rules of a switch's traces, in the order of rules, and how many they are
abbrev pub TellsRules : ℕ → State → Reply → State → Type 0
TellsRules switch old reply new =
    ((rules : List Rule) × ArePut (rules_of (scratch (traces_of switch old))) rules × (reply ≡ Done)
    × (new ≡ tells_all (map (rule_line switch) rules ++ lines.Rules switch (length rules) ∷ []) old))
    ⊎ Lacks old reply new

abbrev pub seen_lines : ℕ → ℕ → Seen → List Line
seen_lines device port (Hit actions) = lines.Hit device port actions ∷ []
seen_lines device port (Miss reason) = lines.Miss device port reason ∷ []
seen_lines device port seen = []

abbrev pub policy_lines : ℕ → ℕ → Option PolicyFault → List Line
policy_lines line column None = []
policy_lines line column (Some fault) = lines.RefusedPolicy line column fault ∷ []

abbrev pub script_lines : ℕ → Option ScriptRefusal → List Line
script_lines line None = []
script_lines line (Some kind) = lines.RefusedScript line kind ∷ []

-- the line that tells what a driver did, if it has one
abbrev pub note_lines : Note → List Line
note_lines (notes.Offered device failed) = []
note_lines (notes.Turned device turned) = []
note_lines (notes.Seen device port frame seen) = seen_lines device port seen
note_lines (notes.TurnedAll device turns) = lines.Turned device turns ∷ []
note_lines (notes.Settled turns) = lines.Settled turns ∷ []
note_lines (notes.Unsettled turns) = lines.Unsettled turns ∷ []
note_lines (notes.Absent device) = lines.Absent device ∷ []
note_lines (notes.GoneAlready device) = lines.Gone device ∷ []
note_lines (notes.Present device) = lines.Present device ∷ []
note_lines (notes.PolicyRefused line column kind) = policy_lines line column (fault_numbered kind)
note_lines (notes.LineRefused line kind) = script_lines line (refusal_numbered kind)

-- ---- the step of each entry

abbrev pub Steps : State → Entry → Reply → State → Type 0
Steps old (entries.Open c) reply new = Opens c old reply new
Steps old (entries.Heard c input) reply new = HearsInput c input old reply new
Steps old (entries.Gone c fault) reply new = EndsSession c (link_end fault) old reply new
Steps old (entries.Change u) reply new = Updates u old reply new
Steps old (entries.NewPolicy p) reply new =
    ((reply ≡ reached old (renewed p old)) × Reaches old (renewed p old) new) ⊎ Lacks old reply new
Steps old (entries.ReadCell c) reply new = (reply ≡ ValueRead (cell_in old.scene c)) × (new ≡ old)
Steps old entries.ReadPolicy reply new = LendsPolicy old reply new
Steps old (entries.ReadRules switch) reply new = TellsRules switch old reply new
Steps old entries.OpenJobs reply new = (reply ≡ Count (length old.jobs)) × (new ≡ old)
Steps old (entries.Commit job run) reply new = Commits job run old reply new
Steps old (entries.Decide job) reply new = Decides job old reply new
Steps old (entries.TakeOut c) reply new = TakesMessages c old reply new
Steps old entries.TakeReport reply new =
    ((reply ≡ Lines (flat_map spelled old.lines)) × (new ≡ record old { lines = [] })) ⊎ Lacks old reply new
Steps old (entries.Note note) reply new = ((reply ≡ Done) × (new ≡ tells_all (note_lines note) old)) ⊎ Lacks old reply new
