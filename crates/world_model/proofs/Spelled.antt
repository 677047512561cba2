-- What waits in the machine of a world that a run led to can be spelled.
use Rattle.std.proofs.Common.{◌≡◌, ℕ, List, [], ◌∷◌, Some, None, refl}
use Rattle.std.specs.Prelude.{◌==◌, Option}
use Rattle.std.specs.List.{AllByRecursion}
use Rattle.of10_codec.specs.declared.message.Message.{Message}
use Rattle.message_blocks.specs.Spelling.{IsSpelled}
use Rattle.machine_moves.specs.Sends.{CanBeOffered, OutboxesCanBeOffered, SendsLaw}
use Rattle.machine_steps.specs.Machine.{Session, State}
use Rattle.machine_steps.specs.Steps.{kept_at}
use Rattle.machine_steps.proofs.Sound.Zipped.{find_all}
use Rattle.world_steps.specs.Runs.{HistoryLaw, turns_of}
use Rattle.world_steps.specs.Worlds.{World, messages_for, outbox_of}
use Rattle.world_model.specs.Kept.{IsReached}

each : (ms : List Message) → AllByRecursion CanBeOffered ms → AllByRecursion IsSpelled ms
each [] all = tt
each (m ∷ ms) all = (all.0.spelled, each ms all.1)

pub spelled : SendsLaw → HistoryLaw → (w : World) → IsReached w → (c : ℕ) → AllByRecursion IsSpelled (messages_for c w.machine)
spelled sends history w r c = each (messages_for c w.machine) (go (kept_at c w.machine) refl)
  where
    offered : OutboxesCanBeOffered w.machine
    offered = sends r.policy r.settings (turns_of r.events) w.machine r.run.ranges (history r.policy r.settings r.events w r.run)

    go : (o : Option Session) → kept_at c w.machine ≡ o → AllByRecursion CanBeOffered (outbox_of o)
    go None e = tt
    go (Some s) e = find_all (λ (t : Session). AllByRecursion CanBeOffered t.outbox) (λ (t : Session). t.connection == c) w.machine.sessions s offered e
