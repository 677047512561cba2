-- A frame that comes to a device, and what is known behind it.
use Rattle.std.specs.Prelude.{◌≡◌, ℕ, ◌+◌, Bool, true, false, List, length}
use Rattle.maple_base.specs.declared.device.Seen.{Seen}
use Rattle.maple_base.specs.declared.device.Seen.TheVariants.{Failed}
use Rattle.device_port.specs.Devices.{Meaning}
use Rattle.device_port.specs.Devices.Call.{Looking}
use Rattle.machine_steps.specs.declared.reply.Reply.{Reply}
use Rattle.world_steps.specs.Worlds.{lacks_memory}
use Rattle.sim_steps.specs.Benches.{Bench}
use Rattle.sim_steps.specs.Deeds.{CallsAt, LooksUp, has_failed}
use Rattle.sim_channels.specs.Channels.{Fits, OthersDid, bench, slot_by}
use Rattle.sim_channels.specs.Staging.{HasStage}
use Rattle.sim_channels.specs.Waiting.{IsAtRestBut}
use Rattle.machine_desk.specs.Hearing.{IsSameSession}
use Rattle.machine_desk.specs.declared.inbound.Stage.TheVariants.{Live}
use Rattle.sim_channels.specs.declared.calling.Answer.{Answer}
use Rattle.sim_channels.specs.declared.calling.Answer.TheVariants as answers
use Rattle.sim_channels.specs.declared.channel.Channel.{Channel}
use Rattle.sim_channels.specs.declared.driver.Driver.{Driver}

-- a frame came to the device behind a channel, which answers so; the channel and the device, before and behind
pub record LooksUpBy (port : ℕ) (frame : List ℕ) (seen : Seen) (k : Channel) (d : Meaning) (l : Channel) (e : Meaning) : Type 0 where
  pub bytes : List ℕ
  pub looks : LooksUp port frame seen bytes (slot_by k d) (slot_by l e)
  pub pending : length e.pending ≡ length d.pending
  pub session : IsSameSession k.inbound l.inbound
  pub to : l.to ≡ k.to
  pub waiting : l.waiting ≡ k.waiting

abbrev pub is_failure : Seen → Bool
is_failure Failed = true
is_failure seen = false

-- what it did with it
abbrev pub is_failed : Answer → Bool
is_failed answers.Failed = true
is_failed answer = false

-- a frame came to a device
pub record Called (c port : ℕ) (frame : List ℕ) (failed : Bool) (a b : Bench) : Type 0 where
  pub seen : Seen
  pub bytes : List ℕ
  pub reply : Reply
  pub calls : CallsAt c (Looking port frame seen bytes) reply a b
  pub memory : lacks_memory reply ≡ false
  pub failed_is : has_failed (Looking port frame seen bytes) ≡ failed

-- and the driver behind it; others did what they may ahead of it
pub record IsCalled (at port : ℕ) (frame : List ℕ) (failed : Bool) (old : Driver) (before : List Meaning) (new : Driver) (after : List Meaning) : Type 0 where
  pub fits : Fits new after
  pub rest : IsAtRestBut at new
  pub plugged : HasStage at Live new
  pub ahead : Driver
  pub others : OthersDid old ahead
  pub called : Called (at + 1) port frame failed (bench ahead before) (bench new after)

-- by what it did with it
abbrev pub IsAnswered : ℕ → ℕ → List ℕ → Answer → Driver → List Meaning → Driver → List Meaning → Type 0
IsAnswered at port frame answer old before new after = IsCalled at port frame (is_failed answer) old before new after
