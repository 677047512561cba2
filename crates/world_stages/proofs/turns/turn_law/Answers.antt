use Rattle.world_stages.proofs.Turning.{turns_keep}
use Rattle.world_stages.proofs.turns.turn_law.Goals as goal

pub returns : goal.returns
returns c =
    turns_keep
    (record {
      moves = c.session_laws.ensures.moves;
      kept = c.session_laws.ensures.kept;
      grow = c.growth_laws.ensures.states;
      hearing = c.hearing_laws.ensures.keeps;
      others = c.hearing_laws.ensures.others;
      silent = c.hearing_laws.ensures.silent;
      sent = c.sending_laws.ensures.others;
      taken = c.sending_laws.ensures.taken;
      agree = c.sending_laws.ensures.agree;
      replies = c.update_laws.ensures.replies;
      signals = c.update_laws.ensures.signals;
      aims = c.update_laws.ensures.aims;
      accepted = c.update_laws.ensures.accepted;
    })
