use Rattle.machine_history.proofs.Along.{lists_live}
use Rattle.machine_history.proofs.Evaluated.{answers_evaluated}
use Rattle.machine_history.proofs.Exactly.{learning_exact}
use Rattle.machine_history.proofs.Numbered.{opened_once}
use Rattle.machine_history.proofs.laws.history_laws.Goals as goal

pub returns-clause-live : goal.returns-clause-live
returns-clause-live c =
    lists_live c.machine_laws.ensures.keeps (record { same = c.live_laws.ensures.same; own = c.tree_laws.ensures.own; now = c.running_laws.ensures.now; asked = c.running_laws.ensures.asked })
    c.machine_laws.ensures.opens

pub returns-clause-once : goal.returns-clause-once
returns-clause-once c = opened_once

pub returns-clause-answers : goal.returns-clause-answers
returns-clause-answers c =
    answers_evaluated c.machine_laws.ensures.opens c.machine_laws.ensures.keeps
    (record { same = c.live_laws.ensures.same; own = c.tree_laws.ensures.own; now = c.running_laws.ensures.now; asked = c.running_laws.ensures.asked })

pub returns-clause-exact : goal.returns-clause-exact
returns-clause-exact c =
    learning_exact c.machine_laws.ensures.opens c.machine_laws.ensures.keeps
    (record { same = c.live_laws.ensures.same; own = c.tree_laws.ensures.own; now = c.running_laws.ensures.now; asked = c.running_laws.ensures.asked })
