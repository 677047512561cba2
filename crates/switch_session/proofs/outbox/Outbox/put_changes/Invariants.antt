use Rattle.std.proofs.Common.{◌≡◌, ◌+◌, ◌*◌, ◌≤◌, ◌++◌, true, length, vec_len, vec_capacity}
use Rattle.std.specs.List.{list_all}
use Rattle.switch_session.specs.Parts.{changes_from}
use Rattle.switch_session.specs.Room.{change_fits, most_change}
use Rattle.switch_session.proofs.outbox.Outbox.put_changes.Given as goal

-- what is put in already and what is left are all, and the room for what is left is there
abbrev pub invariant-loop-rest : goal.invariant-loop-rest
invariant-loop-rest l = record {
  fits : list_all change_fits l.rest ≡ true;
  numbers : l.xid + length l.rest ≡ l.fn.xid + length l.changes;
  log : l.self.log.value ++ changes_from l.xid l.rest ≡ l.fn.self.log.value ++ changes_from l.fn.xid l.changes;
  len : vec_len l.self.bytes + most_change * length l.rest ≤ vec_len l.fn.self.bytes + most_change * length l.changes;
  room : vec_len l.self.bytes + most_change * length l.rest ≤ vec_capacity l.self.bytes;
  capacity : vec_capacity l.fn.self.bytes ≤ vec_capacity l.self.bytes;
}

abbrev pub decreases-loop-rest : goal.decreases-loop-rest
decreases-loop-rest l = length l.rest
