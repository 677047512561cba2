use Rattle.std.proofs.Common.{[], ◌∷◌, ◌++◌}
use Rattle.of10_codec.specs.Lent.{message_of}
use Rattle.switch_session.proofs.outbox.with.Given as goal

abbrev pub ghost-picked : goal.ghost-picked
ghost-picked a = a.shown.now.0.now.value ++ message_of a.shown.now.1.now ∷ []
