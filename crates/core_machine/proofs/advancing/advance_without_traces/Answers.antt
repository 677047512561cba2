use Rattle.machine_parts.proofs.Aiming.{all_turn}
use Rattle.core_machine.proofs.Reaching.{given_back, led}
use Rattle.core_machine.proofs.advancing.advance_without_traces.Goals as goal

pub returns-then-is_err-clause-sessions : goal.returns-then-is_err-clause-sessions
returns-then-is_err-clause-sessions c =
    given_back _ _ c.args.sessions.now c.make_ready.new.sessions c.give_up_all.new.sessions c.requires.can c.in_ok-make_ready.ensures.ready c.give_up_all.ensures

pub turn_all-requires : goal.turn_all-requires
turn_all-requires c = all_turn _ c.args.sessions.now c.make_ready.new.sessions c.in_ok-make_ready.ensures.ready

pub returns-clause-led : goal.returns-clause-led
returns-clause-led c = led _ c.args.sessions.now c.make_ready.new.sessions c.turn_all.new.sessions c.turn_all.ensures c.in_ok-make_ready.ensures.ready
