use Rattle.std.proofs.Common.{◌<◌, ◌^◌, length, map, refl, sym, ◌∙◌, subst}
use Rattle.std.proofs.lemmas.List.{length-map}
use Rattle.sim_channels.specs.declared.driver.Driver.{Driver}
use Rattle.sim_channels.proofs.Opening.{IsNewDriver, new_bench, new_fits, new_rest}
use Rattle.sim_channels.proofs.driver.Driver.new.Goals as goal

pub returns-in-Ok : goal.returns-in-Ok
returns-in-Ok g c =
    let devices = map g.D.Device.meaning c.args.devices.now in
    let long = length-map c.args.devices.now g.D.Device.meaning in
    let driver : Driver = record { alloc = c.args.alloc; desk = c.args.desk; crew = c.args.crew; channels = c.in-Ok.channels } in
    let h : IsNewDriver driver (length devices) = record {
      start = c.requires.start;
      ranges = c.requires.ranges;
      crew = c.requires.crew;
      unused = c.in-Ok.ensures.unused;
      count = c.in-Ok.ensures.count ∙ sym long;
      few = subst (λ n. n < 2 ^ 32) (sym long) c.in-Ok.ensures.few;
      names = c.in-Ok.ensures.names;
    } in
    record { desk = refl; crew = refl; opening = new_bench driver devices h; fits = new_fits driver devices h c.requires.idle; rest = new_rest driver devices h; back = tt }
