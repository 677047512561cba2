-- The faults of a policy's text by their numbers and names.
use Rattle.std.specs.Prelude.{◌≡◌, ℕ, List, Option, Some, None, if◌then◌else◌, ◌==◌, codes}
use Rattle.maple_base.specs.declared.policy_fault.PolicyFault.{PolicyFault}
use Rattle.maple_base.specs.declared.policy_fault.PolicyFault.TheVariants.{NotAscii, Token, Syntax, UnknownName, Twice, TypeMismatch, NumberRange, Nesting, Nodes, TooLong}

abbrev pub number_of : PolicyFault → ℕ
number_of NotAscii = 1
number_of Token = 2
number_of Syntax = 3
number_of UnknownName = 4
number_of Twice = 5
number_of TypeMismatch = 6
number_of NumberRange = 7
number_of Nesting = 8
number_of Nodes = 9
number_of TooLong = 10

-- the fault of a number
abbrev pub fault_numbered : ℕ → Option PolicyFault
fault_numbered n =
    if n == 1 then Some NotAscii else (if n == 2 then Some Token else (if n == 3 then Some Syntax else (if n == 4 then Some UnknownName else (if n == 5 then Some Twice
    else (if n == 6 then Some TypeMismatch else (if n == 7 then Some NumberRange else (if n == 8 then Some Nesting else (if n == 9 then Some Nodes
    else (if n == 10 then Some TooLong else None)))))))))

-- the number of a fault is that of no other, and leads back to it
abbrev pub FaultsAreNumbered : Type 0
FaultsAreNumbered = (fault : PolicyFault) → fault_numbered (number_of fault) ≡ Some fault

-- the word by which a report tells the fault
unfoldable pub fault_name : PolicyFault → List ℕ
fault_name NotAscii = codes "NotAscii"
fault_name Token = codes "Token"
fault_name Syntax = codes "Syntax"
fault_name UnknownName = codes "UnknownName"
fault_name Twice = codes "Twice"
fault_name TypeMismatch = codes "TypeMismatch"
fault_name NumberRange = codes "NumberRange"
fault_name Nesting = codes "Nesting"
fault_name Nodes = codes "Nodes"
fault_name TooLong = codes "TooLong"
