-- Whether hosts are learned, behind an entry.
use Rattle.std.proofs.Common.{◌≡◌, Bool, true, false, if◌then◌else◌, refl}
use Rattle.policy_lang.specs.declared.Policy.{Policy}
use Rattle.machine_moves.specs.Told.{is_new_state, policy_behind}
use Rattle.machine_steps.specs.declared.entry.Entry.{Entry}
use Rattle.machine_steps.specs.declared.entry.Entry.TheVariants as entries
use Rattle.machine_steps.specs.declared.reply.Reply.{Reply}
use Rattle.machine_steps.specs.declared.reply.Reply.TheVariants as replies
use Rattle.machine_desk.specs.Desks.{learning_behind}

-- what is learned behind the entry by whether its reply tells of a new state
abbrev pub told_by : Bool → Entry → Bool → Bool
told_by made entry learning = if made then learning_behind entry learning else learning

either : (made learning : Bool) → learning ≡ (if made then learning else learning)
either true learning = refl
either false learning = refl

renewed : (q p : Policy) (reply : Reply) → (policy_behind (entries.NewPolicy q) reply p).learning ≡ told_by (is_new_state reply) (entries.NewPolicy q) p.learning
renewed q p (replies.NewState state pruned) = refl
renewed q p replies.Done = refl
renewed q p replies.NoMemory = refl
renewed q p (replies.Ended end) = refl
renewed q p (replies.Job item) = refl
renewed q p (replies.Malformed kind) = refl
renewed q p (replies.TooBig size) = refl
renewed q p replies.Overload = refl
renewed q p (replies.UpdateRefused why) = refl
renewed q p (replies.Value value) = refl
renewed q p (replies.Policy number policy) = refl
renewed q p (replies.Count count) = refl
renewed q p (replies.Answered decision told) = refl
renewed q p replies.Spent = refl
renewed q p (replies.Stale differs) = refl
renewed q p replies.NotOpen = refl
renewed q p (replies.Out bytes) = refl
renewed q p (replies.Lines bytes) = refl

pub learning_told : (entry : Entry) (reply : Reply) (p : Policy) → (policy_behind entry reply p).learning ≡ told_by (is_new_state reply) entry p.learning
learning_told (entries.NewPolicy q) reply p = renewed q p reply
learning_told (entries.Open c) reply p = either (is_new_state reply) p.learning
learning_told (entries.Heard c input) reply p = either (is_new_state reply) p.learning
learning_told (entries.Gone c fault) reply p = either (is_new_state reply) p.learning
learning_told (entries.Change update) reply p = either (is_new_state reply) p.learning
learning_told (entries.ReadCell cell) reply p = either (is_new_state reply) p.learning
learning_told entries.ReadPolicy reply p = either (is_new_state reply) p.learning
learning_told (entries.ReadRules switch) reply p = either (is_new_state reply) p.learning
learning_told entries.OpenJobs reply p = either (is_new_state reply) p.learning
learning_told (entries.Commit job run) reply p = either (is_new_state reply) p.learning
learning_told (entries.Decide job) reply p = either (is_new_state reply) p.learning
learning_told (entries.TakeOut c) reply p = either (is_new_state reply) p.learning
learning_told entries.TakeReport reply p = either (is_new_state reply) p.learning
learning_told (entries.Note note) reply p = either (is_new_state reply) p.learning
