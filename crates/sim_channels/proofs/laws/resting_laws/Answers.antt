use Rattle.std.proofs.Common.{◌≡◌, []}
use Rattle.sim_steps.specs.Parts.{IsHeardOut}
use Rattle.sim_channels.specs.declared.channel.Channel.{Channel}
use Rattle.sim_channels.proofs.Kept.{all_left}
use Rattle.sim_channels.proofs.Others.{others_rest, tends_done, tends_of}
use Rattle.sim_channels.proofs.Places.{all_heard, but_here, done_beside, taken_still, while_still}
use Rattle.sim_channels.proofs.Resting.{rest_is_calm, rest_is_still}
use Rattle.sim_channels.proofs.laws.resting_laws.Goals as goal

pub returns : goal.returns
returns c =
    let laws = c.driving_laws.ensures in
    record {
      taken = taken_still laws;
      offered = while_still (λ (k : Channel). k.to ≡ []);
      heard = while_still (λ (k : Channel). IsHeardOut k.inbound.from.stream);
      left = λ at driver left. record { taken = all_left _ at driver left; offered = all_left _ at driver left; heard = all_left _ at driver left };
      beside = done_beside laws;
      but = but_here;
      all = all_heard;
      others = others_rest laws;
      done = λ old new kept h. tends_done laws old new kept (tends_of old new h);
      calm = rest_is_calm;
      still = rest_is_still;
    }
