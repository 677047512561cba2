use Rattle.std.proofs.Common.{◌≡◌, [], sym, ap, ◌∙◌, rules}
use Rattle.std.proofs.lemmas.List.{nil_from_length}
use Rattle.of10_stream.specs.Steps.{fed}
use Rattle.sim_channels.proofs.Looking.{fed_nothing}
use Rattle.sim_channels.proofs.calling.feed.Goals as goal

pub returns-then-is_empty-clause-from : goal.returns-then-is_empty-clause-from
returns-then-is_empty-clause-from c =
    let stream = c.args.channel.now.inbound.from.stream in
    let none : c.args.bytes.now ≡ [] = nil_from_length c.args.bytes.now (search rules) in
    sym (ap (λ bytes. fed bytes stream) none ∙ fed_nothing stream)
