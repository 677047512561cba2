use Rattle.std.proofs.Common.{subst, sym}
use Rattle.std.specs.Prelude.{MatchOption}
use Rattle.serve_channels.specs.Servers.{IsAt, IsMissing}
use Rattle.serve_channels.proofs.Sorted.{found_by}
use Rattle.serve_channels.proofs.server.Server.find.Goals as goal

pub returns : goal.returns
returns c =
    let n = c.args.number in
    let ks = c.args.self.now.connections.items in
    subst (λ o. MatchOption o (IsMissing n ks) (λ at. IsAt at n ks)) (sym c.ok.ensures.value) (found_by ks n c.place.result c.place.ensures.found c.place.ensures.absent)
