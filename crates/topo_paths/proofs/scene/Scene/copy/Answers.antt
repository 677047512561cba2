use Rattle.std.proofs.Common.{sym, subst}
use Rattle.env_cells.specs.Environment.{Environment}
use Rattle.topo_paths.specs.Scenes.{links_in}
use Rattle.topo_paths.specs.Tables.{HasTable}
use Rattle.topo_paths.proofs.scene.Scene.copy.Goals as goal

pub invariant_of-result : goal.invariant_of-result
invariant_of-result c = (
  c.in_ok-copy-2.ensures.room,
  subst (λ (e : Environment). HasTable (links_in e) c.in_ok-copy-2.field-0) (sym c.in_ok-copy.ensures.equal)
      (record { graph = c.self.invariant.1.graph; hops = c.in_ok-copy-2.ensures.table (links_in c.self.inside.env) c.self.invariant.1.hops }),
)
