use Rattle.rule_builder.proofs.Forms.{none_exact, normal_law, fact_law, barrier_law}
use Rattle.rule_builder.proofs.Distinct.{distinct_law}
use Rattle.rule_builder.proofs.laws.rules_law.Goals as goal

pub returns-clause-exact : goal.returns-clause-exact
returns-clause-exact c = none_exact

pub returns-clause-facts : goal.returns-clause-facts
returns-clause-facts c = fact_law

pub returns-clause-barriers : goal.returns-clause-barriers
returns-clause-barriers c = barrier_law

pub returns-clause-distinct : goal.returns-clause-distinct
returns-clause-distinct c = distinct_law

pub returns-clause-normal : goal.returns-clause-normal
returns-clause-normal c = normal_law
