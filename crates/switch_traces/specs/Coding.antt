-- How the logic stores the traces of a switch.
use Rattle.std.specs.Prelude.{List}
use Rattle.std.specs.Coded.{Coded, coded_list}
use Rattle.trace_tree.specs.declared.node.Trace.{Trace}
use Rattle.trace_tree.specs.contracts.node.Trace as trace

abbrev pub traces_code : Coded (List Trace)
traces_code = coded_list trace.the_row.coded
