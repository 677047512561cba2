-- Memory in the calls that the desk makes.
use Rattle.std.proofs.Common.{◌≡◌, ◌≢◌, ◌||◌, ℕ, Bool, true, false, List, [], ◌∷◌, ◌++◌, refl, subst, sym}
use Rattle.std.specs.List.{AllByRecursion}
use Rattle.history_lock.specs.declared.view.Known.{Known}
use Rattle.history_lock.specs.Histories.{AllAt, Calls, Did, event}
use Rattle.history_lock.proofs.Deeds.{did_more, did_none}
use Rattle.machine_steps.specs.declared.entry.Entry.{Entry}
use Rattle.machine_steps.specs.declared.reply.Reply.{Reply}
use Rattle.machine_steps.specs.declared.reply.Reply.TheVariants as replies
use Rattle.machine_steps.specs.Machine.{State}
use Rattle.machine_steps.specs.Waiting.{Waiting}
use Rattle.machine_sharing.specs.Sharing.{Allows, Call, Turns}
use Rattle.packet_workers.specs.declared.worked.Worked.{Worked}
use Rattle.packet_workers.specs.declared.worked.Worked.TheVariants as how
use Rattle.packet_workers.specs.Rounds.{Rounds}
use Rattle.packet_workers.proofs.Passing.{all_append, all_more}
use Rattle.machine_desk.specs.Desks.{HadMemory, IsMemoryTold}
use Rattle.machine_desk.specs.Working.{IsPlainCall}
use Rattle.machine_desk.proofs.Rounds.{rounds_plain}

-- memory sufficed for each of these calls
abbrev pub AllHad : List Call → Type 0
AllHad calls = AllByRecursion (λ (e : Call). e.reply ≢ replies.NoMemory) calls

plain_had : (calls : List Call) (worked : Worked) → AllByRecursion (IsPlainCall worked) calls → worked ≢ how.NoMemory → AllHad calls
plain_had [] worked plain not = tt
plain_had (e ∷ calls) worked (one, plain) not = (one.memory not, plain_had calls worked plain not)

module _ (item : Waiting) (budget : ℕ) where
  -- where a work didn't end by want of memory no call of it did
  pub rounds_had : (n : ℕ) (calls : List Call) (worked : Worked) → Rounds item budget n calls worked → worked ≢ how.NoMemory → AllHad calls
  rounds_had n calls worked h not = plain_had calls worked (rounds_plain item budget n calls worked h) not

-- ---- in more calls

had_append : (xs ys : List Call) → AllHad xs → AllHad ys → AllHad (xs ++ ys)
had_append [] ys h k = k
had_append (x ∷ xs) ys (one, h) k = (one, had_append xs ys h k)

module _ (old new : Known State Entry Reply) where
  had_more : (calls : List Call) → Did old calls new → AllHad calls → HadMemory old.seen old.own → HadMemory new.seen new.own
  had_more calls did all had =
      let P : List Call → Type 0 = λ x. AllAt x did.positions calls in
      let Q : List Call → Type 0 = λ x. AllAt x (old.own ++ did.positions) (had.calls ++ calls) in
      let R : List ℕ → Type 0 = λ ps. AllAt new.seen ps (had.calls ++ calls) in
      let seen = old.seen ++ did.later.0 in
      let at = all_append seen old.own did.positions had.calls calls (all_more old.seen did.later.0 old.own had.calls had.at) (subst P did.later.1 did.at) in
      record { calls = had.calls ++ calls; at = subst R (sym did.own) (subst Q (sym did.later.1) at); memory = had_append had.calls calls had.memory all }

  -- what the desk has of its memory behind calls, by whether it ran out in them
  pub memory_stays : (calls : List Call) → Did old calls new → (lacked lacks : Bool) → (lacks ≡ false → AllHad calls) → IsMemoryTold lacked old → IsMemoryTold (lacked || lacks) new
  memory_stays calls did true lacks all told = λ enough. (absurd (cc))
  memory_stays calls did false lacks all told = λ enough. had_more calls did (all enough) (told refl)

  pub memory_entered : (entry : Entry) (reply : Reply) → Calls Turns Allows old entry reply new → (lacked lacks : Bool) → (lacks ≡ false → reply ≢ replies.NoMemory)
      → IsMemoryTold lacked old → IsMemoryTold (lacked || lacks) new
  memory_entered entry reply c lacked lacks has told =
      memory_stays (event entry reply c.behind ∷ []) (did_more Turns Allows old old [] entry reply new (did_none old) c) lacked lacks (λ enough. (has enough, tt)) told
