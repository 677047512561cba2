use Rattle.serve_channels.proofs.Attended.{tends_more, tends_on}
use Rattle.serve_channels.proofs.Coming.{crew_stays, has_crew}
use Rattle.serve_channels.proofs.Others.{lawful}
use Rattle.serve_channels.proofs.server.Server.work_waiting.Goals as goal

pub loop-init : goal.loop-init
loop-init g c = tends_on c.args.self.now (lawful c.law.ensures)

pub work_one-requires : goal.work_one-requires
work_one-requires g c = record { crew = crew_stays c.args.self.now c.loop.self c.loop.invariant.same (has_crew c.args.self.now c.requires.serving) }

pub loop-preserved : goal.loop-preserved
loop-preserved g c = tends_more c.serving_laws.ensures c.args.self.now c.loop.self c.work_one.new.self c.loop.invariant c.in_ok-work_one.ensures.tends

pub returns-then-not-branch-clause-goes : goal.returns-then-not-branch-clause-goes
returns-then-not-branch-clause-goes g c =
    (tends_more c.serving_laws.ensures c.args.self.now c.loop.self c.work_one.new.self c.loop.invariant c.in_ok-work_one.ensures.tends).goes
