-- What the machine replies to a driver's entries.
use Rattle.std.proofs.Common.{◌≡◌, ℕ, Bool, true, false, refl, sym, ap, ◌∙◌, inl, inr}
use Rattle.std.specs.Prelude.{is_some}
use Rattle.machine_steps.specs.declared.entry.Entry.TheVariants as entries
use Rattle.machine_steps.specs.declared.reply.Reply.{Reply}
use Rattle.machine_steps.specs.declared.reply.Reply.TheVariants as replies
use Rattle.machine_steps.specs.Machine.{State, session_at}
use Rattle.machine_steps.specs.Steps.{Steps, link_end}
use Rattle.world_steps.specs.Worlds.{lacks_memory}

-- no session, or one that was open, ended by its link
pub gone_none : (c : ℕ) (fault : Bool) (old : State) (reply : Reply) (new : State) → is_some (session_at c old) ≡ false → Steps old (entries.Gone c fault) reply new
    → reply ≡ replies.Done
gone_none c fault old reply new none (inl (nobody, passes)) = passes.0
gone_none c fault old reply new none (inr (s, found, r, e)) = (let f : true ≡ false = sym (ap is_some found) ∙ none in absurd (cc))

pub gone_live : (c : ℕ) (fault : Bool) (old : State) (reply : Reply) (new : State) → is_some (session_at c old) ≡ true → Steps old (entries.Gone c fault) reply new
    → reply ≡ replies.Ended (link_end fault)
gone_live c fault old reply new live (inl (nobody, passes)) = (let f : true ≡ false = sym live ∙ ap is_some nobody in absurd (cc))
gone_live c fault old reply new live (inr (s, found, r, e)) = r

-- that takes no memory
pub gone_enough : (c : ℕ) (fault : Bool) (old : State) (reply : Reply) (new : State) → Steps old (entries.Gone c fault) reply new → lacks_memory reply ≡ false
gone_enough c fault old reply new (inl (nobody, passes)) = ap lacks_memory passes.0
gone_enough c fault old reply new (inr (s, found, r, e)) = ap lacks_memory r

pub had_memory : (reply : Reply) → (reply ≡ replies.NoMemory → ⊥) → lacks_memory reply ≡ false
had_memory replies.NoMemory other = absurd (other refl)
had_memory reply other = refl
