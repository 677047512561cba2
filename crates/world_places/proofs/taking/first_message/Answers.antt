use Rattle.std.proofs.Common.{◌≡◌, List, ◌∷◌, ◌++◌, drop, suc}
use Rattle.std.proofs.lemmas.Result.{IfOk-weaker}
use Rattle.of10_codec.specs.declared.message.Message.{Message}
use Rattle.world_places.specs.Places.{joined}
use Rattle.world_places.proofs.Blocks.{begins, has_some}
use Rattle.world_places.proofs.taking.first_message.Goals as goal

pub first-requires : goal.first-requires
first-requires c = has_some c.args.blocks.now c.args.at c.index-blocks-at.result c.requires c.index-blocks-at.is

pub returns : goal.returns
returns c =
    IfOk-weaker c.first.result (λ m. (later : List Message) × (c.index-blocks-at.result ≡ m ∷ later)) (λ m. (later : List Message) × (joined c.args.blocks.now ≡ m ∷ later))
    (λ m h. (h.0 ++ joined (drop (suc c.args.at) c.args.blocks.now), begins c.args.blocks.now c.args.at c.index-blocks-at.result c.requires c.index-blocks-at.is m h.0 h.1))
    c.first.ensures
