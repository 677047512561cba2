use Rattle.std.proofs.Common.{ap, ◌∙◌}
use Rattle.env_cells.specs.Environment.{Environment}
use Rattle.topo_paths.specs.Scenes.{cell_in}
use Rattle.tree_prune.specs.Current.{is_current}
use Rattle.machine_steps.specs.Machine.{kept_of}
use Rattle.machine_parts.proofs.Aiming.{all_turn}
use Rattle.core_machine.proofs.Reaching.{given_back, led}
use Rattle.core_machine.proofs.advancing.advance.Goals as goal

pub returns-in-Err-clause-sessions : goal.returns-in-Err-clause-sessions
returns-in-Err-clause-sessions c =
    given_back _ _ c.args.sessions.now c.make_ready_behind.new.sessions c.give_up_all.new.sessions c.requires.can c.in_ok-gone.ensures.ready c.give_up_all.ensures

pub turn_all-requires : goal.turn_all-requires
turn_all-requires c = all_turn _ c.args.sessions.now c.make_ready_behind.new.sessions c.in_ok-gone.ensures.ready

pub returns-clause-led : goal.returns-clause-led
returns-clause-led c = led _ c.args.sessions.now c.make_ready_behind.new.sessions c.turn_all.new.sessions c.turn_all.ensures c.in_ok-gone.ensures.ready

pub returns-clause-left : goal.returns-clause-left
returns-clause-left c = c.prune_all.ensures ∙ ap (λ (e : Environment). kept_of (is_current (cell_in e)) c.args.learned.now) c.in_default.ensures.applied
