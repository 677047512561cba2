-- What the machine replies to entries of the server.
use Rattle.std.proofs.Common.{◌≡◌, ◌⊎◌, ℕ, Bool, true, false, refl, sym, ap, ◌∙◌, inl, inr}
use Rattle.machine_steps.specs.declared.entry.Entry.TheVariants as entries
use Rattle.machine_steps.specs.declared.reply.Reply.{Reply}
use Rattle.machine_steps.specs.declared.reply.Reply.TheVariants as replies
use Rattle.machine_steps.specs.Machine.{State}
use Rattle.machine_steps.specs.Machine.{was_opened as was_session}
use Rattle.machine_steps.specs.Steps.{Steps, link_end}
use Rattle.switch_session.specs.declared.told.End.TheVariants as ends_by
use Rattle.world_steps.specs.Worlds.{lacks_memory}
use Rattle.serve_steps.specs.Deeds.{tells_link_end}

pub cut_by : (fault : Bool) → tells_link_end (replies.Ended (link_end fault)) ≡ true
cut_by true = refl
cut_by false = refl

-- a session is opened, or there are too many
pub opened_so : (c : ℕ) (old : State) (reply : Reply) (new : State) → was_session c old ≡ false → lacks_memory reply ≡ false → Steps old (entries.Open c) reply new
    → (reply ≡ replies.Done) ⊎ (reply ≡ replies.Ended ends_by.Full)
opened_so c old reply new unused memory (inl h) = (let f : true ≡ false = sym h.0 ∙ unused in absurd (cc))
opened_so c old reply new unused memory (inr (inl h)) = inr h.2
opened_so c old reply new unused memory (inr (inr (inl h))) = inl h.2
opened_so c old reply new unused memory (inr (inr (inr h))) = (let f : true ≡ false = sym (ap lacks_memory h.0) ∙ memory in absurd (cc))
