use Rattle.std.proofs.lemmas.Result.{on_ok_weaker}
use Rattle.serve_pump.specs.declared.pump.Pump.{Pump}
use Rattle.serve_pump.proofs.Followed.{enters_as, enters_bytes, enters_broken, enters_closed, enters_control, enters_end, enters_idle, enters_opened, serves_turned}
use Rattle.serve_pump.proofs.pump.Pump.enter.Goals as goal

pub hear-requires : goal.hear-requires
hear-requires g c = record { serving = serves_turned c.args.turn c.args.self.now.server c.requires.turned }

pub work_waiting-requires : goal.work_waiting-requires
work_waiting-requires g c = record { serving = serves_turned c.args.turn c.args.self.now.server c.requires.turned }

pub returns-in_ok-open-in-Opened-clause-enters : goal.returns-in_ok-open-in-Opened-clause-enters
returns-in_ok-open-in-Opened-clause-enters g c =
    let old = c.args.self.now in
    let new : Pump = record old { server = c.open.new.self } in
    enters_as c.args.turn _ old new c.in-Opened.is (enters_opened old new c.in-Opened.number c.in_ok-open-in-Opened.ensures.goes)

pub returns-in_ok-hear-in-Bytes-clause-enters : goal.returns-in_ok-hear-in-Bytes-clause-enters
returns-in_ok-hear-in-Bytes-clause-enters g c =
    let old = c.args.self.now in
    let new : Pump = record old { server = c.hear.new.self } in
    enters_as c.args.turn _ old new c.in-Bytes.is (enters_bytes old new c.in-Bytes.number c.in-Bytes.field-1 c.in_ok-hear-in-Bytes.ensures.goes)

pub returns-in_ok-end-in-Closed-clause-enters : goal.returns-in_ok-end-in-Closed-clause-enters
returns-in_ok-end-in-Closed-clause-enters g c =
    let old = c.args.self.now in
    let new : Pump = record old { server = c.end.new.self } in
    enters_as c.args.turn _ old new c.in-Closed.is (enters_closed old new c.in-Closed.number c.in_ok-end-in-Closed.ensures.goes)

pub returns-in_ok-end-in-Broken-clause-enters : goal.returns-in_ok-end-in-Broken-clause-enters
returns-in_ok-end-in-Broken-clause-enters g c =
    let old = c.args.self.now in
    let new : Pump = record old { server = c.end-in-Broken.new.self } in
    enters_as c.args.turn _ old new c.in-Broken.is (enters_broken old new c.in-Broken.number c.in_ok-end-in-Broken.ensures.goes)

pub returns-in-Control-clause-enters : goal.returns-in-Control-clause-enters
returns-in-Control-clause-enters g c =
    let old = c.args.self.now in
    let new : Pump = record old { server = c.control.new.self; reader = c.control.new.reader } in
    on_ok_weaker c.control.result (λ gives. enters_as c.args.turn _ old new c.in-Control.is (enters_control old new c.in-Control.count gives))
    (rw c.deref.ensures.value at c.control.ensures.gives)

pub returns-in_ok-work_waiting-in-Idle-clause-enters : goal.returns-in_ok-work_waiting-in-Idle-clause-enters
returns-in_ok-work_waiting-in-Idle-clause-enters g c =
    let old = c.args.self.now in
    let new : Pump = record old { server = c.work_waiting.new.self } in
    enters_as c.args.turn _ old new c.in-Idle.is (enters_idle old new c.in_ok-work_waiting-in-Idle.ensures.goes)

pub returns-in_ok-control_end-in-End-clause-enters : goal.returns-in_ok-control_end-in-End-clause-enters
returns-in_ok-control_end-in-End-clause-enters g c =
    let old = c.args.self.now in
    let new : Pump = record old { server = c.control_end.new.self; reader = c.control_end.new.reader } in
    enters_as c.args.turn _ old new c.in-End.is (enters_end old new c.in_ok-control_end-in-End.ensures.gives)
