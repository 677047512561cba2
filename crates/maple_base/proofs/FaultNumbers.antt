-- A policy's fault is told by its number.
use Rattle.std.proofs.Common.{◌≡◌, Some, refl}
use Rattle.maple_base.specs.declared.policy_fault.PolicyFault.{PolicyFault}
use Rattle.maple_base.specs.declared.policy_fault.PolicyFault.TheVariants.{NotAscii, Token, Syntax, UnknownName, Twice, TypeMismatch, NumberRange, Nesting, Nodes, TooLong}
use Rattle.maple_base.specs.PolicyFaults.{number_of, fault_numbered}

pub numbered_back : (f : PolicyFault) → fault_numbered (number_of f) ≡ Some f
numbered_back NotAscii = refl
numbered_back Token = refl
numbered_back Syntax = refl
numbered_back UnknownName = refl
numbered_back Twice = refl
numbered_back TypeMismatch = refl
numbered_back NumberRange = refl
numbered_back Nesting = refl
numbered_back Nodes = refl
numbered_back TooLong = refl
