use Rattle.std.proofs.Common.{rules, subst, IfErr, IfOk}
use Rattle.std.proofs.lemmas.List.Sorted.{answers_always}
use Rattle.serve_channels.specs.Servers.{IsAt, IsGap, number_of}
use Rattle.serve_channels.proofs.Sorted.{searched}
use Rattle.serve_channels.proofs.server.Server.place.Goals as goal

-- the closure gives a connection's number
pub returns : goal.returns
returns c =
    let facts = c.binary_search_by_key.ensures in
    let by_number = facts.position (λ k. number_of k) (answers_always _ _ _ (λ f a r g called. search rules)) in
    let n = c.args.number in
    let r = c.binary_search_by_key.result in
    let so = subst (λ ks. IfOk r (λ at. IsAt at n ks) × IfErr r (λ at. IsGap at n ks)) c.deref.ensures.value (searched c.deref.result.now n r facts.bound by_number) in
    record { found = so.0; absent = so.1 }
