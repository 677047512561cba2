use Rattle.std.proofs.Common.{ap, sym, subst}
use Rattle.std.specs.Prelude.{IfSome}
use Rattle.machine_steps.specs.Admitting.{IsHeard}
use Rattle.sim_channels.specs.declared.driver.Driver.{Driver}
use Rattle.sim_channels.specs.Passes.{ComesAt, HearsInput}
use Rattle.machine_desk.proofs.Smooth.{takes_in}
use Rattle.sim_channels.specs.Channels.{WorksAlone, bench, home}
use Rattle.sim_channels.specs.Waiting.{NoneWaits}
use Rattle.sim_channels.proofs.Others.{alone_back, same_then, tends_kept}
use Rattle.sim_channels.proofs.Passing.{broken_behind_it, broken_hearing, hears_next, passed_by, passed_nothing}
use Rattle.machine_desk.specs.Desks.{DeskView}
use Rattle.machine_desk.specs.Laws.{Meanwhile}
use Rattle.sim_steps.proofs.Broken.{broken_here}
use Rattle.sim_channels.proofs.Broken.{broken_meanwhile}
use Rattle.sim_channels.proofs.Staged.{on_err}
use Rattle.sim_channels.proofs.driver.Driver.hear_next.Goals as goal

pub returns-in_default : goal.returns-in_default
returns-in_default g c =
    let old = c.args.self.now in
    let comes = subst (λ o. ComesAt c.args.at o old c.next.new.self) c.in_default.is c.in_ok-input.ensures.comes in
    record {
      next = comes;
      passed = passed_nothing c.args.at old c.next.new.self comes c.next.ensures.same c.in_ok-input.ensures.kept c.requires.jobs c.requires.offered;
      broken = tt;
      same = c.next.ensures.same;
    }

pub hear-requires-clause-kept : goal.hear-requires-clause-kept
hear-requires-clause-kept g c = tends_kept c.driving_laws.ensures c.next.new.self c.make_room_for.new.self c.in_ok-input.ensures.kept c.in_ok-make_room_for.ensures.room.tends

pub hear-requires-clause-room : goal.hear-requires-clause-room
hear-requires-clause-room g c = takes_in home c.in-Some.input c.make_room_for.new.self c.in_ok-make_room_for.ensures.room.room still
  where
    next : Driver
    next = c.next.new.self

    still : WorksAlone c.make_room_for.new.self → NoneWaits c.make_room_for.new.self.desk
    still alone =
        let before = alone_back next c.make_room_for.new.self c.make_room_for.ensures.same alone in
        let none = c.requires.jobs (alone_back c.args.self.now next c.next.ensures.same before) in
        subst (λ (d : Driver). NoneWaits d.desk) (sym (c.in_ok-make_room_for.ensures.room.alone before)) (subst (λ (d : Driver). NoneWaits d.desk) (sym c.in_ok-input.ensures.comes.rest) none)

pub returns : goal.returns
returns g c =
    let old = c.args.self.now in
    let heard = c.in_ok-heard.heard in
    let h : HearsInput c.args.at c.of-came.result old c.follow.new.self = record {
      input = c.in-Some.input;
      next = c.next.new.self;
      comes = subst (λ o. ComesAt c.args.at o old c.next.new.self) c.in-Some.is c.in_ok-input.ensures.comes;
      room = c.make_room_for.new.self;
      makes = c.in_ok-make_room_for.ensures.room;
      heard = heard;
      hearing = c.hear.new.self;
      hears = c.in_ok-heard.ensures.hears;
      follows = c.in_ok-follow.ensures.follows;
      told = c.of-came.ensures;
    } in
    let behind = same_then c.make_room_for.new.self c.hear.new.self c.follow.new.self c.hear.ensures.same c.follow.ensures.same in
    record {
      next = hears_next c.args.at c.of-came.result old c.follow.new.self h;
      passed = passed_by c.driving_laws.ensures c.args.at old h.input h.next h.comes h.room h.makes c.requires.kept heard h.hearing h.hears
          (subst (λ o. IfSome o IsHeard) c.in-Some.is c.in_ok-input.ensures.heard) c.in_ok-heard.ensures.kept c.hear.ensures.same c.requires.jobs c.requires.offered c.follow.new.self
          c.of-came.result c.of-came.ensures c.in_ok-follow.ensures.follows;
      broken = tt;
      same = same_then old c.next.new.self c.follow.new.self c.next.ensures.same (same_then c.next.new.self c.make_room_for.new.self c.follow.new.self c.make_room_for.ensures.same behind);
    }

-- ---- it stops

pub returns-in_err-input-clause-broken : goal.returns-in_err-input-clause-broken
returns-in_err-input-clause-broken g c =
    on_err c.from_residual.result
    (λ ds long. broken_here (bench c.args.self.now ds) c.next.new.self.desk.past (ap (λ (d : DeskView). d.past) (sym c.next.ensures.desk)))

pub returns-in_err-make_room_for-clause-broken : goal.returns-in_err-make_room_for-clause-broken
returns-in_err-make_room_for-clause-broken g c =
    let new = c.make_room_for.new.self.desk in
    on_err c.from_residual-in_err-make_room_for.result
    (λ ds long. broken_meanwhile c.args.self.now new (subst (λ (d : DeskView). Meanwhile d new) c.next.ensures.desk c.in_err-make_room_for.ensures.meanwhile) ds)

pub returns-in_err-heard-clause-broken : goal.returns-in_err-heard-clause-broken
returns-in_err-heard-clause-broken g c =
    let comes = subst (λ o. ComesAt c.args.at o c.args.self.now c.next.new.self) c.in-Some.is c.in_ok-input.ensures.comes in
    let stops = c.in_err-heard.ensures.stops in
    on_err c.from_residual-in_err-heard.result
    (broken_hearing c.driving_laws.ensures c.args.at c.args.self.now c.in-Some.input c.next.new.self comes c.make_room_for.new.self c.in_ok-make_room_for.ensures.room
    c.requires.kept c.hear.new.self stops.0 stops.1)

pub returns-in_err-follow-clause-broken : goal.returns-in_err-follow-clause-broken
returns-in_err-follow-clause-broken g c =
    let comes = subst (λ o. ComesAt c.args.at o c.args.self.now c.next.new.self) c.in-Some.is c.in_ok-input.ensures.comes in
    let can = subst (λ o. IfSome o IsHeard) c.in-Some.is c.in_ok-input.ensures.heard in
    let hears = c.in_ok-heard.ensures in
    on_err c.from_residual-in_err-follow.result
    (broken_behind_it c.driving_laws.ensures c.args.at c.args.self.now c.in-Some.input c.next.new.self comes c.make_room_for.new.self c.in_ok-make_room_for.ensures.room
    c.requires.kept c.in_ok-heard.heard c.hear.new.self hears.hears can hears.kept c.hear.ensures.same c.requires.jobs c.requires.offered c.follow.new.self
    c.in_err-follow.ensures.meanwhile)
