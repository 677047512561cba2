use Rattle.std.proofs.Common.{false}
use Rattle.maple_io.specs.declared.kept.Link.{Link}
use Rattle.maple_io.specs.Kept.{marked}
use Rattle.maple_io.proofs.Links.{walked_from}
use Rattle.maple_io.proofs.kept.close_links.Goals as goal

pub loop-link-preserved : goal.loop-link-preserved
loop-link-preserved c =
    let blank : Link = record { connection = 0; closed = false } in
    walked_from (marked c.args.connection) c.args.links.now c.loop-link.links c.loop-link.link-index blank c.mark.new.link c.loop-link-test.true c.loop-link.auto.links c.loop-link.invariant c.mark.ensures
