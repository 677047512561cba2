use Rattle.serve_channels.proofs.Emptied.{empties_cut, empties_left, empties_sent}
use Rattle.serve_channels.proofs.Numbered.{there_at}
use Rattle.serve_channels.proofs.Others.{lawful}
use Rattle.serve_channels.proofs.Rounds.{fewer_left, fewer_sent, others_left, others_sent, sent_so}
use Rattle.serve_channels.proofs.Served.{goes_cut, goes_left, goes_sent}
use Rattle.serve_channels.proofs.server.Server.deliver_to.Goals as goal

pub returns-then-index-clause-goes : goal.returns-then-index-clause-goes
returns-then-index-clause-goes g c =
    goes_cut c.args.at c.args.self.now (g.B.Board.tells c.args.board.now).log c.index.result.now
    (there_at c.args.self.now.connections.items c.args.at c.index.result.now c.requires.within c.index.ensures) c.if-index.true

pub returns-then-index-clause-empties : goal.returns-then-index-clause-empties
returns-then-index-clause-empties g c =
    λ none. empties_cut (g.B.Board.tells c.args.board.now).log c.args.at c.args.self.now c.index.result.now c.requires.serving
    (there_at c.args.self.now.connections.items c.args.at c.index.result.now c.requires.within c.index.ensures) c.if-index.true none

-- ---- no send failed

pub returns-then-not-branch-clause-goes : goal.returns-then-not-branch-clause-goes
returns-then-not-branch-clause-goes g c =
    goes_sent c.serving_laws.ensures (lawful c.law.ensures) c.in_ok-take_out.ensures.takes (sent_so c.if-not-branch.true c.in_ok-send_out.ensures.sends)

pub returns-then-not-branch-clause-empties : goal.returns-then-not-branch-clause-empties
returns-then-not-branch-clause-empties g c = λ none.
    empties_sent c.serving_laws.ensures c.requires.serving (lawful c.law.ensures) c.in_ok-take_out.ensures.takes none (sent_so c.if-not-branch.true c.in_ok-send_out.ensures.sends)

pub returns-then-not-branch-clause-others : goal.returns-then-not-branch-clause-others
returns-then-not-branch-clause-others g c = others_sent c.in_ok-take_out.ensures.takes c.in_ok-send_out.ensures.sends

pub returns-then-not-branch-clause-fewer : goal.returns-then-not-branch-clause-fewer
returns-then-not-branch-clause-fewer g c = fewer_sent c.in_ok-take_out.ensures.takes (sent_so c.if-not-branch.true c.in_ok-send_out.ensures.sends)

-- ---- one failed

pub returns-clause-goes : goal.returns-clause-goes
returns-clause-goes g c =
    goes_left c.serving_laws.ensures (lawful c.law.ensures) c.in_ok-take_out.ensures.takes (sent_so c.if-not-branch.false c.in_ok-send_out.ensures.sends)
    c.in_ok-leave.ensures.same c.in_ok-leave.ensures.leaves

pub returns-clause-empties : goal.returns-clause-empties
returns-clause-empties g c = λ none.
    empties_left c.serving_laws.ensures c.requires.serving (lawful c.law.ensures) c.in_ok-take_out.ensures.takes
    (sent_so c.if-not-branch.false c.in_ok-send_out.ensures.sends) c.in_ok-leave.ensures.leaves none

pub returns-clause-others : goal.returns-clause-others
returns-clause-others g c = others_left c.in_ok-take_out.ensures.takes (sent_so c.if-not-branch.false c.in_ok-send_out.ensures.sends) c.in_ok-leave.ensures.leaves

pub returns-clause-fewer : goal.returns-clause-fewer
returns-clause-fewer g c = fewer_left c.in_ok-take_out.ensures.takes (sent_so c.if-not-branch.false c.in_ok-send_out.ensures.sends) c.in_ok-leave.ensures.leaves
