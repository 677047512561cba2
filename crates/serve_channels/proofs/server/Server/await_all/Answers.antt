use Rattle.std.proofs.Common.{Some, ap, refl}
use Rattle.std.specs.Prelude.{is_some}
use Rattle.machine_desk.proofs.Tended.{done_by, done_none}
use Rattle.serve_channels.specs.Servers.{home}
use Rattle.serve_channels.proofs.Attended.{nothing_asked, tended}
use Rattle.serve_channels.proofs.Others.{lawful}
use Rattle.serve_channels.proofs.server.Server.await_all.Goals as goal

pub returns-in-None-clause-goes : goal.returns-in-None-clause-goes
returns-in-None-clause-goes g c = nothing_asked c.args.self.now

pub returns-in-None-clause-none : goal.returns-in-None-clause-none
returns-in-None-clause-none g c = c.requires.serving.1.kept.jobs (ap is_some c.in-None.is)

pub returns-in_ok-await_all-in-Some-clause-goes : goal.returns-in_ok-await_all-in-Some-clause-goes
returns-in_ok-await_all-in-Some-clause-goes g c =
    let e = c.in_ok-await_all-in-Some.ensures in
    let old = c.args.self.now in
    let new = record old { desk = c.await_all.new.desk; crew = Some c.await_all.new.self } in
    tended c.serving_laws.ensures old new (lawful c.law.ensures)
    (done_by home old new refl e.footing c.in-Some.crew c.await_all.new.self c.in-Some.is refl e.still c.serving_laws.ensures.driving
    c.tending_laws.ensures.allowed c.tending_laws.ensures.none c.law.ensures.sound e.done).tends

pub returns-in_ok-await_all-in-Some-clause-none : goal.returns-in_ok-await_all-in-Some-clause-none
returns-in_ok-await_all-in-Some-clause-none g c =
    let e = c.in_ok-await_all-in-Some.ensures in
    let old = c.args.self.now in
    let new = record old { desk = c.await_all.new.desk; crew = Some c.await_all.new.self } in
    done_none home old new refl e.footing c.in-Some.crew c.await_all.new.self c.in-Some.is refl e.still c.serving_laws.ensures.driving
    c.tending_laws.ensures.allowed c.tending_laws.ensures.none c.law.ensures.sound e.done
