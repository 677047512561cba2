use Rattle.std.proofs.Common.{◌≡◌, true, [], ◌++◌, append-nil, refl, ap, ◌∙◌, subst, sym}
use Rattle.std.specs.List.{list_all}
use Rattle.machine_desk.proofs.Opened.{opened_with}
use Rattle.machine_desk.proofs.Tended.{same_then}
use Rattle.core_machine.proofs.Hearing.{on_err}
use Rattle.serve_channels.specs.Servers.{home}
use Rattle.serve_steps.specs.Parts.{is_quiet}
use Rattle.serve_steps.specs.Runs.{taken_report}
use Rattle.serve_pump.specs.declared.pump.Pump.{Pump}
use Rattle.serve_pump.specs.Beginning.{given_at}
use Rattle.serve_pump.proofs.Started.{begun_breaks, begun_failed, begun_ok, begun_serving, breaks_by_past, breaks_told, is_failed, listens_not_write, listens_spared, reader_stays, room_stays, still_alone}
use Rattle.serve_pump.proofs.pump.Pump.begin.Goals as goal

pub returns-in_err-end-clause-breaks : goal.returns-in_err-end-clause-breaks
returns-in_err-end-clause-breaks g c =
    on_err c.from_residual.result _
    (breaks_by_past c.begin_laws.ensures.report (given_at c.args.self.now.server c.args.startup.now) (g.B.Board.tells c.args.board.now).log c.carry_out-carried.new.self
    c.law.ensures (ap (λ f. f.start) c.carry_out-carried.ensures.same.footing ∙ opened_with c.args.self.now.server.desk c.requires.fresh.opened) (g.O.Sink.tells c.args.out.now))

pub returns-in-Ok : goal.returns-in-Ok
returns-in-Ok g c =
    let a = c.args.self.now.server in
    let startup = c.args.startup.now in
    let given = given_at a startup in
    let state = a.desk.footing.start in
    let fresh = c.requires.fresh in
    let laws = c.begin_laws.ensures in
    let old_board = g.B.Board.tells c.args.board.now in
    let new_board = g.B.Board.tells c.listen.new.board in
    let old = g.O.Sink.tells c.args.out.now in
    let new = g.O.Sink.tells c.report-reported.new.out in
    let f = c.carry_out-carried.new.self in
    let d = c.report-reported.new.self in
    let p : Pump = record f { server = d } in
    let told = c.in_ok-end.ensures in
    let w = told.goes old_board.log given old_board.log [] (laws.fresh given old_board.log a fresh (opened_with a.desk fresh.opened)) tt in
    let v = c.in-Ok.ensures.goes old_board.log given old_board.log (w.done ++ []) w.kept in
    let reports = c.in-Ok.ensures.reports in
    let law = c.law-2.ensures in
    let none = ap (λ ks. ks.items) c.carry_out-carried.ensures.connections ∙ fresh.alone in
    let rest = c.report-reported.ensures.rest in
    let still = c.in-Ok.ensures.still (still_alone f.server none told.none) in
    let end = c.in_ok-end.end in
    let reader = reader_stays c.args.self.now f c.carry_out-carried.ensures.rest c.requires.reader in
    let listens = c.listen.ensures in
    record {
      begins =
          begun_ok laws state startup old_board f.server d old new w v reports law none rest still end told.end p refl reader new_board c.listen.result listens;
      breaks =
          begun_breaks laws state startup old_board f.server d old new w v reports law none rest still end told.end p refl reader new_board law c.listen.result
          listens;
      failed = λ e.
          begun_failed laws state startup old_board f.server d old new w v reports law none rest still end told.end p refl reader new_board
          (is_failed c.listen.result end startup d old_board new_board e listens);
      spared = listens_spared c.listen.result end startup d old_board new_board listens;
      write = λ e. absurd (listens_not_write c.listen.result end startup d old_board new_board listens e);
      no_write = λ n. c.report-reported.ensures.spared (λ e. absurd (cc));
      serving =
          begun_serving laws state startup old_board f.server d old new w v reports law none rest still end told.end p refl reader new_board c.listen.result
          listens;
      room = room_stays c.args.self.now f c.carry_out-carried.ensures.rest;
      same = same_then home c.carry_out-carried.ensures.same c.report-reported.ensures.same;
    }

pub returns-in-Err-clause-breaks : goal.returns-in-Err-clause-breaks
returns-in-Err-clause-breaks g c =
    let a = c.args.self.now.server in
    let given = given_at a c.args.startup.now in
    let fresh = c.requires.fresh in
    let laws = c.begin_laws.ensures in
    let log = (g.B.Board.tells c.args.board.now).log in
    let old = g.O.Sink.tells c.args.out.now in
    let new = g.O.Sink.tells c.report-reported.new.out in
    let f = c.carry_out-carried.new.self in
    let p : Pump = record f { server = c.report-reported.new.self } in
    let w = c.in_ok-end.ensures.goes log given log [] (laws.fresh given log a fresh (opened_with a.desk fresh.opened)) tt in
    breaks_told laws.report given log p c.law-2.ensures
    (ap (λ f. f.start) (c.report-reported.ensures.same.footing ∙ c.carry_out-carried.ensures.same.footing) ∙ opened_with a.desk fresh.opened)
    f.server (w.done ++ []) old new w.kept (subst (λ ds. list_all is_quiet ds ≡ true) (sym (append-nil w.done)) w.stretch.quiet)
    (ap taken_report (append-nil w.done) ∙ w.unread) c.in-Err.stop c.in-Err.ensures.reports
