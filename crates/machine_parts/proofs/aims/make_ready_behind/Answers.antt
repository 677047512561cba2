use Rattle.std.proofs.Common.{◌≡◌, ◌+◌, length, subst}
use Rattle.env_cells.specs.Environment.{Environment}
use Rattle.topo_paths.specs.Scenes.{cell_in}
use Rattle.tree_prune.specs.Current.{is_current}
use Rattle.machine_steps.specs.Machine.{kept_of, trace_total}
use Rattle.machine_parts.specs.Aiming.{AreReadied}
use Rattle.machine_parts.proofs.aims.make_ready_behind.Goals as goal

pub returns-clause-gone : goal.returns-clause-gone
returns-clause-gone c =
    let ls = c.args.learned.now in
    subst (λ (e : Environment). c.in_ok-gone.gone + trace_total (kept_of (is_current (cell_in e)) ls) ≡ trace_total ls) c.in_ok-behind.ensures.behind c.in_ok-gone.ensures

pub returns-clause-ready : goal.returns-clause-ready
returns-clause-ready c =
    let ss = c.args.sessions.now in
    subst (λ (e : Environment). AreReadied (kept_of (is_current (cell_in e)) c.args.learned.now) (length ss) ss c.make_ready.new.sessions) c.in_ok-behind.ensures.behind c.in_ok-make_ready.ensures.ready
