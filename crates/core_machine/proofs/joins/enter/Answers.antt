use Rattle.core_machine.proofs.Joining.{still_within}
use Rattle.core_machine.proofs.joins.enter.Goals as goal

pub give_up-requires : goal.give_up-requires
give_up-requires c = record {
  place = still_within c.args.at c.args.parts.now c.accept.new.parts c.requires.joins.session c.in-Err.ensures.err c.requires.joins.there;
}
