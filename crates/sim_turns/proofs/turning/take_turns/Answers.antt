use Rattle.std.proofs.Common.{◌+◌, ℕ, map, sym, subst, arith}
use Rattle.sim_steps.specs.Parts.{IsTurnAt}
use Rattle.sim_channels.specs.Channels.{bench}
use Rattle.sim_channels.proofs.Others.{same_then}
use Rattle.sim_turns.specs.Taking.{TakesSome}
use Rattle.sim_turns.proofs.Obeyed.{takes_more, turn_at_place}
use Rattle.sim_channels.proofs.Staged.{on_err}
use Rattle.sim_steps.proofs.Broken.{broken_stretch}
use Rattle.sim_turns.proofs.turning.take_turns.Goals as goal

pub loop-taken-preserved : goal.loop-taken-preserved
loop-taken-preserved g c =
    let f = g.D.Device.meaning in
    let place = c.args.at + 1 in
    let a = bench c.args.driver.now (map f c.args.devices.now) in
    let b = bench c.loop-taken.driver (map f c.loop-taken.devices) in
    let d = bench c.take_turn.new.driver (map f c.take_turn.new.devices) in
    let turned = c.in_ok-take_turn.field-0 in
    let h = c.in_ok-take_turn.ensures in
    record {
      fits = h.fits;
      rest = h.rest;
      same = same_then c.args.driver.now c.loop-taken.driver c.take_turn.new.driver c.loop-taken.invariant.same c.take_turn.ensures.same;
      some = subst (λ (n : ℕ). TakesSome (IsTurnAt place) (c.loop-taken.taken + n) a d) (sym c.dealt.ensures.dealt)
          (takes_more (IsTurnAt place) c.loop-taken.taken a b d place turned c.loop-taken.invariant.some h.taken (turn_at_place place turned b d h.taken));
      most = omega arith;
    }

pub returns-in_err-take_turn-clause-broken : goal.returns-in_err-take_turn-clause-broken
returns-in_err-take_turn-clause-broken g c =
    let some = c.loop-taken.invariant.some in
    on_err c.from_residual.result (broken_stretch _ _ _ _ c.take_turn.new.driver.desk.past some.stretch c.in_err-take_turn.ensures.broken)
