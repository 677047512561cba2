use Rattle.std.proofs.Common.{◌≡◌, sym, ◌∙◌, subst}
use Rattle.env_cells.specs.Lists.{NamesFewSwitches}
use Rattle.env_cells.proofs.LinkFacts.{links_apart, links_named, links_rise}
use Rattle.topo_paths.specs.Beside.{StartOnce}
use Rattle.topo_paths.specs.Graphs.{RisePorts}
use Rattle.topo_paths.specs.Scenes.{links_in}
use Rattle.topo_paths.specs.Tables.{IsTableOf}
use Rattle.topo_paths.proofs.Beside.{graph_within, rise_by_port}
use Rattle.topo_paths.proofs.Moved.{one_link}
use Rattle.topo_paths.proofs.behind.own_table.Goals as goal

made_of : (c : goal.After-deref) → links_in c.args.env.now ≡ c.deref.result.now
made_of c = sym (c.deref.ensures.value ∙ c.in_ok-links.ensures.links)

pub rebuild-requires-clause-few : goal.rebuild-requires-clause-few
rebuild-requires-clause-few c = subst NamesFewSwitches (made_of c) (links_named c.args.env.now c.requires)

pub rebuild-requires-clause-rise : goal.rebuild-requires-clause-rise
rebuild-requires-clause-rise c = subst RisePorts (made_of c) (rise_by_port _ (links_rise c.args.env.now c.requires))

pub rebuild-requires-clause-once : goal.rebuild-requires-clause-once
rebuild-requires-clause-once c = subst StartOnce (made_of c) (one_link _ (links_apart c.args.env.now c.requires))

pub returns : goal.returns
returns c =
    record { graph = graph_within c.args.env.now c.requires; hops = subst (λ l. IsTableOf l c.rebuild.new.self) (c.deref.ensures.value ∙ c.in_ok-links.ensures.links) c.rebuild.ensures.table }
