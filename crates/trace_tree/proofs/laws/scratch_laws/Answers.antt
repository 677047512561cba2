use Rattle.std.proofs.Common.{refl, arith}
use Rattle.trace_tree.proofs.Growths.{search_scratch}
use Rattle.trace_tree.proofs.Apart.{scratch_apart, admitted_scratch, grown_push, leaves_grown, apart_scratch, admitted_filter}
use Rattle.trace_tree.proofs.Keeping.{kept_grown}
use Rattle.trace_tree.proofs.Numbers.{once_filter, numbers_push, numbers_filter}
use Rattle.trace_tree.specs.Shape.{Empty}
use Rattle.trace_tree.proofs.laws.scratch_laws.Goals as goal

pub returns-clause-apart : goal.returns-clause-apart
returns-clause-apart c = scratch_apart

pub returns-clause-free : goal.returns-clause-free
returns-clause-free c = admitted_scratch

pub returns-clause-grows : goal.returns-clause-grows
returns-clause-grows c = λ rs r. grown_push rs Empty r

pub returns-clause-found : goal.returns-clause-found
returns-clause-found c = search_scratch

pub returns-clause-leaves : goal.returns-clause-leaves
returns-clause-leaves c = λ rs a. let e = leaves_grown rs Empty a in omega (arith, e)

pub returns-clause-fewer : goal.returns-clause-fewer
returns-clause-fewer c = λ rs q a. admitted_filter q rs a

pub returns-clause-kept : goal.returns-clause-kept
returns-clause-kept c = λ rs p a. kept_grown p rs Empty tt a

pub returns-clause-only : goal.returns-clause-only
returns-clause-only c = apart_scratch

pub returns-clause-none : goal.returns-clause-none
returns-clause-none c = record { admitted = tt; made = refl }

pub returns-clause-fewer_once : goal.returns-clause-fewer_once
returns-clause-fewer_once c = once_filter

pub returns-clause-numbers : goal.returns-clause-numbers
returns-clause-numbers c = numbers_push

pub returns-clause-fewer_numbers : goal.returns-clause-fewer_numbers
returns-clause-fewer_numbers c = numbers_filter
