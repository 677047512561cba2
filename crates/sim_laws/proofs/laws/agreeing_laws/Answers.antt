use Rattle.sim_laws.proofs.Agreed.{agree_law}
use Rattle.sim_laws.proofs.History.{history_law}
use Rattle.sim_laws.proofs.Told.{report_law}
use Rattle.sim_laws.proofs.laws.agreeing_laws.Goals as goal

pub returns-clause-history : goal.returns-clause-history
returns-clause-history c = history_law

pub returns-clause-report : goal.returns-clause-report
returns-clause-report c = report_law

pub returns-clause-agree : goal.returns-clause-agree
returns-clause-agree c =
    agree_law (record {
      opens = c.machine_laws.ensures.opens;
      keeps = c.machine_laws.ensures.keeps;
      sessions = c.session_laws.ensures.opens;
      connections = c.growth_laws.ensures.connections;
    })
