-- Entries and replies may go to another thread: the generated proofs are only there for their parts.
use denote.Builtin.{u8}
use denote.Enum.Declared
use denote.Param.Send
use denote.Param.Send.{sendable}
use Rattle.env_cells.proofs.updates.Update.TheSendSync as update
use Rattle.maple_base.proofs.cells.Cell.TheSendSync as cell
use Rattle.maple_base.proofs.cells.Value.TheSendSync as value
use Rattle.maple_base.proofs.decision.Decision.TheSendSync as decision
use Rattle.maple_base.proofs.lists.Listed.TheSendSync as listed
use Rattle.maple_base.specs.contracts.lists.Listed
use Rattle.maple_base.proofs.name.Name.TheSendSync as name
use Rattle.maple_base.proofs.key.Field.TheSendSync as field
use Rattle.maple_base.proofs.update_refused.UpdateRefused.TheSendSync as refused
use Rattle.report_text.proofs.line.Learnt.TheSendSync as learnt
use Rattle.switch_session.proofs.told.End.TheSendSync as ends
use Rattle.trace_record.proofs.recording.Run.TheSendSync as run
use Rattle.machine_steps.proofs.entry.Input.TheSendSync as input
use Rattle.machine_steps.proofs.note.Note.TheSendSync as note
use Rattle.machine_steps.proofs.item.JobItem.TheSendSync as item
use Rattle.machine_steps.proofs.reply.Differs.TheSendSync as differs
use Rattle.machine_steps.specs.contracts.entry.Entry
use Rattle.machine_steps.specs.contracts.reply.Reply
use Rattle.policy_lang.proofs.Expr.TheLaws.TheKnot as exprs
use Rattle.policy_lang.proofs.Statement.TheLaws.TheKnot as statements
use Rattle.policy_lang.specs.contracts.Policy
use Rattle.std.below.std_heap.proofs.GlobalAllocator.TheSendSync as frees
use Rattle.std.proofs.Crossing
use Rattle.std.proofs.alloc.Global.TheSendSync as global
use Rattle.std.proofs.option.Option.TheSendSync as option
use Rattle.std.proofs.sync.Arc.TheSendSync as arc
use Rattle.std.proofs.vec.Vec.TheSendSync as vec
use Rattle.std.specs.contracts.alloc.Global
use Rattle.std.specs.contracts.impls.GlobalAllocator.TheImpl
use Rattle.std.specs.contracts.sync.Arc

policy_field_send : Send.IsSend (Policy.the_field).row
policy_field_send = search (Crossing.crosses, exprs.crosses, statements.crosses, listed.the_send, name.the_send, field.the_field_send, option.the_send, vec.the_send, sendable) depth 60 fits 20000

pub policy_send : Send.IsSend Policy.the_row
policy_send = search (Crossing.crosses, exprs.crosses, statements.crosses, listed.the_send, name.the_send, field.the_field_send, option.the_send, vec.the_send, sendable) depth 60 fits 20000

pub policy_sync : Send.IsSync Policy.the_row
policy_sync = search (Crossing.crosses, exprs.crosses, statements.crosses, listed.the_sync, name.the_sync, field.the_field_sync, option.the_sync, vec.the_sync, sendable) depth 60 fits 20000

pub shared_send : Send.IsSend (Arc.the_row Policy.the_row Global.the_row TheImpl.ghosts)
shared_send = arc.the_send Policy.the_row Global.the_row TheImpl.ghosts policy_send global.the_send policy_sync global.the_sync frees.the_frees

bytes_send : Send.IsSend (Listed.the_row u8)
bytes_send = search (listed.the_send, sendable)

reply_field_send : Send.IsSend (Reply.the_field).row
reply_field_send = Send.enum_send (Declared.shape Reply.the_type) (
  tt,
  (
    tt,
    (
      (ends.the_field_send, tt),
      (
        (item.the_send, tt),
        (
          (Send.plain_send _ _ _ _ _, tt),
          (
            (Send.plain_send _ _ _ _ _, tt),
            (
              tt,
              (
                (Send.plain_send _ _ _ _ _, (Send.plain_send _ _ _ _ _, tt)),
                (
                  (refused.the_field_send, tt),
                  (
                    (value.the_field_send, tt),
                    (
                      (Send.plain_send _ _ _ _ _, (shared_send, tt)),
                      (
                        (Send.plain_send _ _ _ _ _, tt),
                        (
                          (decision.the_field_send, (learnt.the_field_send, tt)),
                          (tt, ((differs.the_field_send, tt), (tt, ((bytes_send, tt), ((bytes_send, tt), tt))))),
                        ),
                      ),
                    ),
                  ),
                ),
              ),
            ),
          ),
        ),
      ),
    ),
  ),
)

pub reply_send : Send.IsSend Reply.the_row
reply_send = Send.recorded_send (Reply.the_field).row _ _ (Reply.the_type).to_one reply_field_send

entry_field_send : Send.IsSend (Entry.the_field).row
entry_field_send = Send.enum_send (Declared.shape Entry.the_type) (
  (Send.plain_send _ _ _ _ _, tt),
  (
    (Send.plain_send _ _ _ _ _, (input.the_field_send, tt)),
    (
      (Send.plain_send _ _ _ _ _, (Send.plain_send _ _ _ _ _, tt)),
      (
        (update.the_field_send, tt),
        (
          (policy_field_send, tt),
          (
            (cell.the_field_send, tt),
            (
              tt,
              (
                (Send.plain_send _ _ _ _ _, tt),
                (
                  tt,
                  (
                    (Send.plain_send _ _ _ _ _, (run.the_send, tt)),
                    (
                      (Send.plain_send _ _ _ _ _, tt),
                      ((Send.plain_send _ _ _ _ _, tt), (tt, ((note.the_field_send, tt), tt))),
                    ),
                  ),
                ),
              ),
            ),
          ),
        ),
      ),
    ),
  ),
)

pub entry_send : Send.IsSend Entry.the_row
entry_send = Send.recorded_send (Entry.the_field).row _ _ (Entry.the_type).to_one entry_field_send
