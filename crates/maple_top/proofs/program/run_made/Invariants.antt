use Rattle.std.proofs.Common.{◌≡◌, ◌-◌, ◌≤◌, map}
use Rattle.maple_top.specs.Program.{devices_to}
use Rattle.maple_top.proofs.program.run_made.OwnLists.{own-1}
use Rattle.maple_top.proofs.program.run_made.Given as goal

-- the devices up to a place were made, and nothing was read or written
abbrev pub invariant-loop-place : goal.invariant-loop-place
invariant-loop-place g l = record {
  made : map (λ z. (own-1.entry z.vtable).1.meaning z.value) l.devices.items ≡ devices_to l.place;
  within : l.place ≤ 64;
}

abbrev pub decreases-loop-place : goal.decreases-loop-place
decreases-loop-place g l = 64 - l.place
