use Rattle.std.proofs.Common.{rules, tests}
use Rattle.std.proofs.lemmas.Iterator.{YieldsList-from_slice}
use Rattle.std.proofs.lemmas.Iterator.Consumers.{YieldsList-from_filter, count_from_yields_List}
use Rattle.machine_parts.specs.declared.connection.Connection.{Connection}
use Rattle.machine_steps.specs.Machine.{is_open}
use Rattle.machine_parts.specs.Sessions.{session_of}
use Rattle.machine_parts.proofs.finding.open_count.Goals as goal

pub returns : goal.returns
returns c =
    count_from_yields_List c.filter.result _ c.count.ensures.ran
    (YieldsList-from_filter _ (λ (k : Connection). is_open (session_of k)) (YieldsList-from_slice c.args.sessions.now cc) c.filter.ensures.closure (λ x b q k. search (rules, tests)))
