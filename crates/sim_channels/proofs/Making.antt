-- Which entries make no state, whatever the policy; and a reply that isn't want of memory.
use Rattle.std.proofs.Common.{◌≡◌, Bool, true, false, length, refl, ap}
use Rattle.machine_steps.specs.declared.entry.Entry.{Entry}
use Rattle.machine_steps.specs.declared.entry.Entry.TheVariants as entries
use Rattle.machine_steps.specs.declared.reply.Reply.{Reply}
use Rattle.machine_steps.specs.declared.reply.Reply.TheVariants.{NoMemory}
use Rattle.machine_steps.specs.Effects.{may_advance}
use Rattle.machine_steps.specs.Machine.{State, state_number}
use Rattle.machine_steps.specs.Steps.{Steps}
use Rattle.machine_steps.proofs.Changes.{Network, network, Follows, changes}
use Rattle.machine_steps.proofs.Changes.Follows.{Stays, Next, Renewed}
use Rattle.world_steps.specs.Worlds.{lacks_memory}

-- a message may teach where a host or a port is; updates and policies are asked for
abbrev pub may_make : Entry → Bool
may_make (entries.Heard c input) = true
may_make (entries.Change u) = true
may_make (entries.NewPolicy p) = true
may_make entry = false

none_made : (entry : Entry) → may_make entry ≡ false → may_advance entry ≡ true → ⊥
none_made (entries.Heard c input) f may = absurd (cc)
none_made (entries.Change u) f may = absurd (cc)
none_made other f may = absurd (cc)

pub no_state : (old : State) (entry : Entry) (reply : Reply) (new : State) → may_make entry ≡ false → Steps old entry reply new → state_number new ≡ state_number old
no_state old entry reply new f steps = go (network new) (changes old entry reply new steps).follows
  where
    go : (n : Network) → Follows old entry reply n → length n.2 ≡ state_number old
    go n (Stays untold e) = ap (λ (n : Network). length n.2) e
    go n (Next scene may told e) = absurd (none_made entry f may)
    go n (Renewed scene p is told e) = (let makes = ap may_make is in absurd (cc))

pub had_memory : (reply : Reply) → (reply ≡ NoMemory → ⊥) → lacks_memory reply ≡ false
had_memory NoMemory other = absurd (other refl)
had_memory reply other = refl
