-- What a PACKET_IN does, by the connection that it came by and that connection's switch.
use Rattle.std.specs.Prelude.{◌≡◌, ◌⊎◌, ℕ, ◌+◌, ◌≤◌, ◌<◌, ◌==◌, ◌&&◌, if◌then◌else◌, List, [], length, Option, Some, None, is_none}
use Rattle.maple_base.specs.declared.key.Key.{Key}
use Rattle.env_cells.specs.declared.updates.Update.{Update}
use Rattle.env_cells.specs.declared.updates.Update.TheVariants.{Host}
use Rattle.env_cells.specs.Refusals.{refusal_of}
use Rattle.report_text.specs.declared.line.Line.TheVariants as lines
use Rattle.maple_base.specs.OpenFlow.{no_buffer}
use Rattle.machine_steps.specs.declared.reply.Reply.{Reply}
use Rattle.machine_steps.specs.declared.reply.Reply.TheVariants.{Overload, Job as JobOpened}
use Rattle.machine_steps.specs.declared.job.Job.{Job}
use Rattle.machine_steps.specs.Machine.{Session, State, most_jobs, tells}
use Rattle.machine_steps.specs.Steps.{HearsPacket, Teaches, entry_of, item_of, opens_job, switch_of, teaches}
use Rattle.core_machine.specs.declared.next.Next.{Next}
use Rattle.core_machine.specs.Following.{follows}

-- what a session of this connection and this switch does with a PACKET_IN
abbrev pub HearsPacketOf : ℕ → ℕ → ℕ → ℕ → List ℕ → State → Reply → State → Type 0
HearsPacketOf connection switch buffer in_port frame old reply new =
    (s : Session) → s.connection ≡ connection → switch_of s ≡ switch → HearsPacket s buffer in_port frame old reply new

-- what a packet of this key teaches
abbrev pub taught_by : ℕ → Key → Update
taught_by switch k = Host k.dl_src (entry_of switch k)

-- where it teaches something that isn't refused
abbrev pub lesson_of : ℕ → Key → State → Option Update
lesson_of switch k m = if teaches switch k m && is_none (refusal_of m.scene (taught_by switch k)) then Some (taught_by switch k) else None

-- it is learned, and then this follows
pub record TeachesThen (switch : ℕ) (k : Key) (next : Next) (old new : State) : Type 0 where
  pub taught : State
  pub teaches : Teaches switch k old taught
  pub now_is : new ≡ follows next taught

-- the next job, for a packet of this key
abbrev pub next_job : ℕ → ℕ → Key → ℕ → List ℕ → State → Job
next_job connection switch k buffer frame m =
    record { number = m.job_count + 1; connection = connection; switch = switch; key = k; buffer = buffer; frame = if buffer == no_buffer then frame else [] }

-- a job is opened, and told
abbrev pub OpensJob : Job → State → Reply → State → Type 0
OpensJob j taught reply new = (reply ≡ JobOpened (item_of j)) × (new ≡ opens_job j taught)

-- a packet that can be sent back: what it teaches is learned, and then a job is opened where one more may be open
abbrev pub TakesIn : ℕ → ℕ → Key → ℕ → List ℕ → State → Reply → State → Type 0
TakesIn connection switch k buffer frame old reply new =
    (taught : State) × Teaches switch k old taught
    × (((most_jobs ≤ length old.jobs) × (reply ≡ Overload) × (new ≡ tells (lines.Overload connection) taught))
    ⊎ ((length old.jobs < most_jobs) × OpensJob (next_job connection switch k buffer frame taught) taught reply new))
