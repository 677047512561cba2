use Rattle.std.proofs.Common.{◌≡◌, ◌+◌, ◌++◌, ◌∷◌, [], ap, map, ◌∙◌, arith, rules}
use Rattle.maple_top.proofs.Programs.{map_one}
use Rattle.maple_top.proofs.program.push_next.Goals as goal

pub returns : goal.returns
returns g c =
    let pushed : c.push.new.self.items ≡ c.args.all.now.items ++ c.args.device ∷ [] = search rules in
    ap (map g.D.Device.meaning) pushed
    ∙ map_one g.D.Device.meaning c.args.all.now.items c.args.device c.args.place (c.args.place + 1) (omega arith) c.requires.others c.requires.device
