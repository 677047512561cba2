use Rattle.std.proofs.Common.{◌<◌, ℕ, sym, ap, ◌∙◌, subst, arith}
use Rattle.serve_channels.proofs.Acts.{quietly_then}
use Rattle.std.proofs.lemmas.Option.{slice_get_within}
use Rattle.machine_desk.specs.Hearing.{is_live}
use Rattle.machine_desk.specs.declared.inbound.Stage.{Stage}
use Rattle.machine_desk.proofs.Tended.{same_then}
use Rattle.serve_channels.specs.declared.server.Server.{Server}
use Rattle.serve_channels.proofs.Kept.{same_connections}
use Rattle.serve_channels.proofs.Shutting.{closes_all, live_left, live_on, quietly_closed, serving_closed, shuts_on, over_at}
use Rattle.serve_channels.proofs.server.Server.close_over.Goals as goal
use Rattle.serve_channels.specs.Servers.{home}

pub loop-at-preserved-then-is_live : goal.loop-at-preserved-then-is_live
loop-at-preserved-then-is_live g c =
    let i = c.loop-at.invariant in
    let within = subst (λ (n : ℕ). c.loop-at.at < n) (c.len.ensures ∙ c.loop-at.self.connections.ok.0) c.loop-at-test.true in
    record {
      goes = i.goes;
      serving = i.serving;
      ahead = live_on c.loop-at.self.connections.items c.loop-at.at c.index.result.now within c.index.ensures
          (ap (λ (s : Stage). is_live s) (sym c.stage.ensures) ∙ sym c.is_live.ensures ∙ c.if-is_live.true) i.ahead;
      desk = i.desk;
      quietly = i.quietly;
      faults = i.faults;
      same = i.same;
    }

pub close_at-requires : goal.close_at-requires
close_at-requires g c =
    let within = subst (λ (n : ℕ). c.loop-at.at < n) (c.len.ensures ∙ c.loop-at.self.connections.ok.0) c.loop-at-test.true in
    record {
      within = within;
      serving = c.loop-at.invariant.serving;
      over = over_at (g.B.Board.tells c.loop-at.board).log c.loop-at.self c.loop-at.at c.index.result.now c.loop-at.invariant.serving within c.index.ensures
          (ap (λ (s : Stage). is_live s) (sym c.stage.ensures) ∙ sym c.is_live.ensures ∙ c.if-is_live.false);
    }

pub loop-at-preserved : goal.loop-at-preserved
loop-at-preserved g c =
    let first = (g.B.Board.tells c.args.board.now).log in
    let old = (g.B.Board.tells c.loop-at.board).log in
    let new = (g.B.Board.tells c.close_at.new.board).log in
    let i = c.loop-at.invariant in
    let closes = c.close_at.ensures.closes in
    record {
      goes = shuts_on c.args.self.now first closes i.goes;
      serving = serving_closed closes i.serving;
      ahead = live_left closes i.ahead;
      desk = ap (λ (s : Server). s.desk) closes.rest ∙ i.desk;
      quietly = quietly_then first old new i.quietly (quietly_closed closes);
      faults = c.close_at.ensures.faults ∙ i.faults;
      same = same_then home i.same (same_connections c.loop-at.self c.close_at.new.self closes.rest);
    }

pub returns-clause-goes : goal.returns-clause-goes
returns-clause-goes g c =
    let read = c.len.ensures ∙ c.loop-at.self.connections.ok.0 in
    let end = c.loop-at-test.false in
    closes_all c.args.self.now c.loop-at.self (g.B.Board.tells c.args.board.now).log (g.B.Board.tells c.loop-at.board).log
    (λ n k is. c.loop-at.invariant.ahead n k (let low = slice_get_within c.loop-at.self.connections.items n k is in omega (arith, low, read, end)) is)
    c.loop-at.invariant.goes
