-- What is told of a run when its hall is closed.
use Rattle.std.proofs.Common.{ℕ, ◌≤◌, List, length, sym, subst}
use Rattle.std.specs.Prelude.{Option}
use Rattle.maple_io.specs.Views.{SinkView}
use Rattle.report_text.specs.declared.line.ScriptRefusal.{ScriptRefusal}
use Rattle.device_port.specs.Devices.{Meaning}
use Rattle.history_lock.specs.Histories.{AreAllPositions}
use Rattle.machine_desk.proofs.Turning.{turns_length}
use Rattle.machine_sharing.specs.Legal.{turns_of}
use Rattle.machine_steps.specs.Machine.{State}
use Rattle.packet_workers.specs.Adding.{PassView}
use Rattle.sim_driver.specs.declared.drive.SimEnd.{SimEnd}
use Rattle.sim_driver.specs.Passes.{DroveBy}
use Rattle.sim_driver.specs.Runs.{Ends, Given}
use Rattle.sim_driver.proofs.Going.{closed}
use Rattle.machine_desk.proofs.HadMemory.{had_at_all, had_seen}

-- how it ends in a hall that is closed with the desk's pass, which made all calls
pub alone_ends : (end : SimEnd) (g : Given) (refused : Option (ℕ × ScriptRefusal)) (start : State) (k : PassView) (after : List Meaning) (old new : SinkView)
    → k.number ≤ length k.seen → AreAllPositions (length k.seen) k.own → DroveBy end g refused start after k old new → Ends end g after old new
alone_ends end g refused start k after old new enough all drove =
    closed end g after k.number (turns_of start k.seen) old new (subst (λ n. k.number ≤ n) (sym (turns_length start k.seen)) enough)
    (record { room = drove.smooth.room; memory = λ whole. had_at_all start k.seen k.own (had_seen start k.seen k.own (drove.smooth.memory whole)) all })
    drove.ends
