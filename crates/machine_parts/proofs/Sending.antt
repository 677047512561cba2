-- The parts may go to another thread: the generated proof is only there for each of them.
use denote.Param.Send
use denote.Param.Send.{sendable}
use denote.Struct.Declared
use Rattle.std.below.std_heap.proofs.GlobalAllocator.TheSendSync as frees
use Rattle.std.proofs.Crossing
use Rattle.std.proofs.alloc.Global.TheSendSync as global
use Rattle.std.proofs.collections.VecDeque.TheSendSync as deque
use Rattle.std.proofs.vec.Vec.TheSendSync as vec
use Rattle.maple_base.proofs.decision.Settings.TheSendSync as settings
use Rattle.maple_base.proofs.witness.Witness.TheSendSync as witness
use Rattle.report_text.proofs.line.Line.TheSendSync as line
use Rattle.topo_paths.proofs.scene.Scene.TheSendSync as scene
use Rattle.maple_base.proofs.key.Field.TheSendSync as field
use Rattle.trace_tree.proofs.node.Leaf.TheSendSync as leaf
use Rattle.trace_tree.proofs.node.Node.TheLaws.TheKnot as nodes
use Rattle.switch_traces.specs.contracts.traces.SwitchTraces
use Rattle.machine_steps.proofs.job.Job.TheSendSync as job
use Rattle.machine_steps.proofs.Sending.{shared_send}
use Rattle.machine_parts.proofs.connection.Connection.TheSendSync as connection
use Rattle.machine_parts.proofs.opened.Opened.TheSendSync as opened
use Rattle.policy_lang.specs.contracts.Policy
use Rattle.machine_parts.proofs.parts.Past.TheSendSync as past
use Rattle.machine_parts.specs.contracts.parts.Parts
use Rattle.machine_parts.specs.contracts.parts.Parts.TheInside as parts

traces_send : Send.IsSend SwitchTraces.the_row
traces_send = search (Crossing.crosses, nodes.crosses, witness.the_send, leaf.the_field_send, field.the_field_send, sendable) depth 60 fits 20000

pub parts_send : Send.IsSend Parts.the_row
parts_send = Send.view_send parts.the_row _ _ _ _ (Send.recorded_send (parts.the_field).row _ _ (parts.the_type).to_one (Send.struct_send (Declared.shape parts.the_type) (
  global.the_field_send,
  (
    settings.the_field_send,
    (
      vec.the_send _ _ _ (witness.the_send Policy.the_row) global.the_send frees.the_frees,
      (
        shared_send,
        (
          vec.the_send _ _ _ past.the_send global.the_send frees.the_frees,
          (
            scene.the_send,
            (
              vec.the_send _ _ _ traces_send global.the_send frees.the_frees,
              (
                vec.the_send _ _ _ connection.the_send global.the_send frees.the_frees,
                (
                  opened.the_send,
                  (
                    deque.the_send _ _ _ job.the_send global.the_send frees.the_frees,
                    (Send.plain_send _ _ _ _ _, (Send.plain_send _ _ _ _ _, (vec.the_send _ _ _ line.the_send global.the_send frees.the_frees, tt))),
                  ),
                ),
              ),
            ),
          ),
        ),
      ),
    ),
  ),
)))
