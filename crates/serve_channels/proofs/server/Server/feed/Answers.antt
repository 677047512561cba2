use Rattle.std.proofs.Common.{inr, refl}
use Rattle.std.proofs.lemmas.Option.{slice_get_within}
use Rattle.serve_channels.proofs.Numbered.{numbers_at, there_at}
use Rattle.serve_channels.specs.Servers.{with_inbound}
use Rattle.serve_channels.proofs.server.Server.feed.Goals as goal

pub returns-in_ok-feed-clause-feeds : goal.returns-in_ok-feed-clause-feeds
returns-in_ok-feed-clause-feeds c =
    let is = c.in-Some.ensures in
    let items = c.args.self.now.connections.items in
    let k = c.index_mut.result.now in
    inr (record {
      at = c.in-Some.at;
      is = is;
      feeds = record {
        connection = k;
        there = there_at items c.in-Some.at k (slice_get_within items c.in-Some.at is.connection is.there) c.index_mut.ensures.value;
        behind = c.feed.new.self;
        does = c.in_ok-feed.ensures.ok;
        rest = refl;
        all = refl;
      };
    })

pub returns-in_ok-feed-clause-numbers : goal.returns-in_ok-feed-clause-numbers
returns-in_ok-feed-clause-numbers c =
    let is = c.in-Some.ensures in
    let items = c.args.self.now.connections.items in
    let k = c.index_mut.result.now in
    numbers_at items items c.in-Some.at k (with_inbound c.feed.new.self k) refl (slice_get_within items c.in-Some.at is.connection is.there) c.index_mut.ensures.value c.feed.ensures.session.0

pub returns-in_err-feed-clause-numbers : goal.returns-in_err-feed-clause-numbers
returns-in_err-feed-clause-numbers c =
    let is = c.in-Some.ensures in
    let items = c.args.self.now.connections.items in
    let k = c.index_mut.result.now in
    numbers_at items items c.in-Some.at k (with_inbound c.feed.new.self k) refl (slice_get_within items c.in-Some.at is.connection is.there) c.index_mut.ensures.value c.feed.ensures.session.0
