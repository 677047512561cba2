use Rattle.std.proofs.Common.{◌≡◌, true, ap, ◌∙◌, subst, sym}
use Rattle.machine_desk.proofs.Crewed.{same_crew}
use Rattle.machine_desk.specs.Desks.{DeskView, HadMemory, NoneOverflows, calls_of}
use Rattle.serve_steps.specs.declared.end.ServeEnd.{ServeEnd}
use Rattle.serve_channels.specs.declared.server.Server.{Server}
use Rattle.serve_pump.specs.Beginning.{given_by}
use Rattle.serve_pump.specs.Ending.{DroveAt, RanAt}
use Rattle.serve_pump.proofs.Going.{crew_at, fresh_at, hall_at, memory_drove, never_drove}
use Rattle.serve_pump.proofs.running.at_desk.Goals as goal

pub returns-in_default-clause-crew : goal.returns-in_default-clause-crew
returns-in_default-clause-crew g c = same_crew c.args.crew

pub returns-in_default-clause-drove : goal.returns-in_default-clause-drove
returns-in_default-clause-drove g c =
    never_drove (given_by c.args.desk.footing.start c.args.startup.now) c.args.desk (g.B.Board.tells c.args.board.now) (g.O.Sink.tells c.args.out.now)
    c.requires.opened.start.none

pub run-end-requires-clause-fresh : goal.run-end-requires-clause-fresh
run-end-requires-clause-fresh g c =
    fresh_at c.args.desk c.args.crew c.new-server.result c.new-pump.result.server c.new-pump.ensures.server c.new-server.ensures.desk c.new-server.ensures.crew
    c.new-server.ensures.none c.requires.opened c.requires.crew

pub returns-clause-same : goal.returns-clause-same
returns-clause-same g c =
    let begins : c.new-pump.result.server.desk ≡ c.args.desk = ap (λ (s : Server). s.desk) c.new-pump.ensures.server ∙ c.new-server.ensures.desk in
    let ended : c.into_parts-desk.result.0 ≡ c.run-end.new.self.server.desk = c.into_parts-desk.ensures.desk ∙ ap (λ (s : Server). s.desk) c.into_server-server.ensures in
    hall_at c.args.desk c.into_parts-desk.result.0 c.new-pump.result.server c.run-end.new.self.server begins ended c.run-end.ensures.same

pub returns-clause-crew : goal.returns-clause-crew
returns-clause-crew g c =
    let begins = ap (λ (s : Server). s.crew) c.new-pump.ensures.server ∙ c.new-server.ensures.crew in
    let ended = c.into_parts-desk.ensures.crew ∙ ap (λ (s : Server). s.crew) c.into_server-server.ensures in
    crew_at c.args.crew c.into_parts-desk.result.1 c.new-pump.result.server c.run-end.new.self.server begins ended c.run-end.ensures.same

pub returns-clause-drove : goal.returns-clause-drove
returns-clause-drove g c =
    let startup = c.args.startup.now in
    let given = given_by c.args.desk.footing.start startup in
    let last = c.run-end.new.self.server.desk in
    let old_board = g.B.Board.tells c.args.board.now in
    let new_board = g.B.Board.tells c.run-end.new.board in
    let old = g.O.Sink.tells c.args.out.now in
    let new = g.O.Sink.tells c.run-end.new.out in
    let begins : c.new-pump.result.server.desk ≡ c.args.desk = ap (λ (s : Server). s.desk) c.new-pump.ensures.server ∙ c.new-server.ensures.desk in
    let ended : c.into_parts-desk.result.0 ≡ last = c.into_parts-desk.ensures.desk ∙ ap (λ (s : Server). s.desk) c.into_server-server.ensures in
    let ran : RanAt c.run-end.result given old_board.log new_board.log last old new =
    subst (λ (d : DeskView). RanAt c.run-end.result (given_by d.footing.start startup) old_board.log new_board.log last old new) begins c.run-end.ensures.ran in
    let had : c.had_memory.result ≡ true → HadMemory (calls_of last.past) last.own =
    subst (λ (s : Server). c.had_memory.result ≡ true → HadMemory (calls_of s.desk.past) s.desk.own) c.into_server-server.ensures c.had_memory.ensures in
    let room : NoneOverflows last.past = subst (λ (s : Server). NoneOverflows s.desk.past) c.into_server-server.ensures c.law.ensures.room in
    let drove = memory_drove given last old_board new_board old new room c.run-end.result c.had_memory.result ran c.run-end.ensures.caused had in
    subst (λ (d : DeskView). DroveAt c.with_memory-end.result given d old_board new_board old new) (sym ended)
    (subst (λ (end : ServeEnd). DroveAt end given last old_board new_board old new) (sym c.with_memory-end.ensures) drove)
