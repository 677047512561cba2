use Rattle.std.proofs.Common.{◌≡◌, subst, inl, inr}
use Rattle.machine_desk.specs.Desks.{Enters}
use Rattle.machine_steps.specs.declared.entry.Entry.TheVariants as entries
use Rattle.machine_steps.specs.declared.note.Note.{Note}
use Rattle.machine_steps.specs.declared.reply.Reply.{Reply}
use Rattle.machine_steps.specs.declared.reply.Reply.TheVariants.{Done, NoMemory}
use Rattle.machine_steps.specs.Machine.{State}
use Rattle.machine_steps.specs.Steps.{Steps}
use Rattle.sim_channels.proofs.driver.Driver.note.Goals as goal

-- where memory suffices a note is taken down
done : (note : Note) (old : State) (reply : Reply) (new : State) → (reply ≡ NoMemory → ⊥) → Steps old (entries.Note note) reply new → reply ≡ Done
done note old reply new other (inl (is, e)) = is
done note old reply new other (inr lacks) = absurd (other lacks.0)

pub returns-clause-notes : goal.returns-clause-notes
returns-clause-notes g c =
    let asks = c.in_ok-ask.ensures.ok in
    subst (λ r. Enters c.args.self.now.desk (entries.Note c.args.note) r c.ask.new.self)
    (done c.args.note asks.enters.between c.in_ok-ask.field-0 c.ask.new.self.now asks.memory asks.enters.made.steps) asks.enters
