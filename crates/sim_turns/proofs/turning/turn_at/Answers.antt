use Rattle.std.proofs.Common.{get_or, ap, ◌∙◌}
use Rattle.std.specs.Option.{option_map}
use Rattle.std.proofs.lemmas.List.{map-set}
use Rattle.std.proofs.lemmas.Option.{slice_get-get_or, slice_get-map}
use Rattle.sim_turns.proofs.turning.turn_at.Goals as goal

pub returns-in_default : goal.returns-in_default
returns-in_default g c =
    let f = g.D.Device.meaning in
    let t = c.turn.ensures in
    let xs = c.args.devices.now in
    let x = c.index-devices-at.result in
    record {
      bytes = t.0;
      appended = t.1;
      turns = record {
        before = f (get_or xs c.args.at x);
        behind = f c.turn.new.self;
        there = slice_get-map f xs c.args.at ∙ ap (option_map f) (slice_get-get_or xs c.args.at x c.requires);
        set_is = map-set f xs c.args.at c.turn.new.self;
        turns = t.2;
      };
      memory = c.in_default.not-NoMemory;
    }
