-- The exit status of each way in which a run ends, and its last line.
use Rattle.std.specs.Prelude.{ℕ, List, [], codes}
use Rattle.maple_top.specs.declared.status.Status.{Status}
use Rattle.maple_top.specs.declared.status.Status.TheVariants.{Done, Usage, Policy, Script, ReadFault, WriteFault, NoMemory, TooLong, BoardFault, Worn}

abbrev pub status_number : Status → ℕ
status_number Done = 0
status_number Usage = 1
status_number Policy = 2
status_number Script = 3
status_number ReadFault = 4
status_number WriteFault = 5
status_number NoMemory = 6
status_number TooLong = 7
status_number BoardFault = 8
status_number Worn = 9

-- the line that each status writes last; that of a refused policy or script is its refusal's
abbrev pub last_line : Status → List ℕ
last_line Done = codes "end\n"
last_line Usage = codes "refused usage\n"
last_line Policy = []
last_line Script = []
last_line ReadFault = codes "refused read\n"
last_line WriteFault = []
last_line NoMemory = []
last_line TooLong = codes "refused input\n"
last_line BoardFault = codes "refused board\n"
last_line Worn = codes "refused worn\n"
