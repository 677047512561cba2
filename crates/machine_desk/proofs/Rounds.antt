-- What the calls of rounds tell, by recursion on the rounds.
use Rattle.std.proofs.Common.{◌≡◌, ℕ, zero, suc, List, [], ◌∷◌, ◌++◌, Some, ap, inl, inr, subst, sym}
use Rattle.std.specs.List.{AllByRecursion}
use Rattle.maple_base.specs.declared.cells.Value.{Value}
use Rattle.policy_lang.specs.declared.Policy.{Policy}
use Rattle.history_lock.specs.Histories.{state_behind}
use Rattle.machine_steps.specs.declared.reply.Differs.{Differs}
use Rattle.machine_steps.specs.declared.reply.Reply.{Reply}
use Rattle.machine_steps.specs.declared.reply.Reply.TheVariants as replies
use Rattle.machine_steps.specs.Machine.{State}
use Rattle.machine_steps.specs.Waiting.{Waiting}
use Rattle.machine_sharing.specs.Longer.{Lends}
use Rattle.machine_sharing.specs.Sharing.{Call}
use Rattle.packet_workers.specs.declared.worked.Worked.{Worked}
use Rattle.packet_workers.specs.declared.worked.Worked.TheVariants as how
use Rattle.packet_workers.specs.Rounds.{Behind, Decision, IsBroken, IsClosedBy, IsLast, Lent, Reads, Round, Rounds, Told, worked_by}
use Rattle.machine_desk.specs.Working.{IsPlainCall}

-- ---- plain calls

plain_value : (e : Call) (worked : Worked) (value : Value) → e.reply ≡ replies.Value value → IsPlainCall worked e
plain_value e worked value is = record { few = λ over. cc; memory = λ other lacks. cc }

plain_stale : (e : Call) (worked : Worked) (differs : Differs) → e.reply ≡ replies.Stale differs → IsPlainCall worked e
plain_stale e worked differs is = record { few = λ over. cc; memory = λ other lacks. cc }

plain_lent : (e : Call) (worked : Worked) (number : ℕ) (policy : Policy) → Lends number policy e.reply → IsPlainCall worked e
plain_lent e worked number policy lends =
    let P : Reply → Type 0 = λ r. Lends number policy r in
    record { few = λ over. subst P over lends; memory = λ other lacks. subst P lacks lends }

plain_lacking : (e : Call) (worked : Worked) → e.reply ≡ replies.NoMemory → worked ≡ how.NoMemory → IsPlainCall worked e
plain_lacking e worked is ends = record { few = λ over. cc; memory = λ other lacks. other ends }

plain_last : (e : Call) (worked : Worked) → worked_by e.reply ≡ Some worked → IsPlainCall worked e
plain_last e worked is =
    record {
      few = λ over. (let a = ap worked_by over in cc);
      memory = λ other lacks. other (let a = ap worked_by lacks in cc);
    }

abbrev Next : Type 1
Next = List Call → Worked → Type 0

abbrev ArePlain : Worked → List Call → Type 0
ArePlain worked calls = AllByRecursion (IsPlainCall worked) calls

module _ (item : Waiting) (budget : ℕ) where
  abbrev EndsPlain : Next → Type 0
  EndsPlain next = (calls : List Call) (worked : Worked) → next calls worked → ArePlain worked calls

  last_plain : (e : Call) (rest : List Call) (worked : Worked) → IsLast item e rest worked → ArePlain worked (e ∷ rest)
  last_plain e rest worked last = (plain_last e worked last.answers, subst (ArePlain worked) (sym last.no_more) tt)

  behind_plain : (next : Next) → EndsPlain next → (e : Call) (rest : List Call) (worked : Worked) → Behind item budget next e rest worked → ArePlain worked (e ∷ rest)
  behind_plain next all e rest worked (inl (differs, is, more)) = (plain_stale e worked differs is, all rest worked more)
  behind_plain next all e rest worked (inr last) = last_plain e rest worked last

  reads_plain : (next : Next) → EndsPlain next → (number : ℕ) (policy : Policy) (told : Told) (calls : List Call) (worked : Worked) → Reads item budget next number policy told calls worked
      → ArePlain worked calls
  reads_plain next all number policy told [] worked broken = tt
  reads_plain next all number policy told (e ∷ rest) worked (inl (cell, read, more)) =
      (plain_value e worked cell.1 read.reply, reads_plain next all number policy (told ++ cell ∷ []) rest worked more)
  reads_plain next all number policy told (e ∷ rest) worked (inr (commits, behind)) = behind_plain next all e rest worked behind

  lent_plain : (next : Next) → EndsPlain next → (e : Call) (rest : List Call) (worked : Worked) → Lent item budget next e rest worked → ArePlain worked (e ∷ rest)
  lent_plain next all e rest worked (inl (number, policy, lends, more)) = (plain_lent e worked number policy lends, reads_plain next all number policy [] rest worked more)
  lent_plain next all e rest worked (inr (lacks, no_more, ends)) = (plain_lacking e worked lacks ends, subst (ArePlain worked) (sym no_more) tt)

  round_plain : (next : Next) → EndsPlain next → EndsPlain (Round item budget next)
  round_plain next all [] worked worn = tt
  round_plain next all (e ∷ rest) worked (entry, lent) = lent_plain next all e rest worked lent

  decision_plain : EndsPlain (Decision item budget)
  decision_plain [] worked worn = tt
  decision_plain (e ∷ rest) worked (entry, last) = last_plain e rest worked last

  pub rounds_plain : (n : ℕ) → EndsPlain (Rounds item budget n)
  rounds_plain zero = decision_plain
  rounds_plain (suc n) = round_plain (Rounds item budget n) (rounds_plain n)

  -- ---- the machine behind them

  abbrev EndsClosed : Next → Type 0
  EndsClosed next = (calls : List Call) (worked : Worked) (m : State) → next calls worked → IsClosedBy worked item (state_behind m calls)

  broken_closes : (worked : Worked) (m : State) → IsBroken worked → IsClosedBy worked item m
  broken_closes how.NoMemory m broken = tt
  broken_closes how.Worn m broken = tt
  broken_closes how.Answered m broken = absurd broken
  broken_closes how.Spent m broken = absurd broken
  broken_closes how.NotOpen m broken = absurd broken

  worn_closes : (worked : Worked) (m : State) → worked ≡ how.Worn → IsClosedBy worked item m
  worn_closes worked m worn = subst (λ w. IsClosedBy w item m) (sym worn) tt

  last_closes : (e : Call) (rest : List Call) (worked : Worked) → IsLast item e rest worked → IsClosedBy worked item (state_behind e.behind rest)
  last_closes e rest worked last = subst (λ es. IsClosedBy worked item (state_behind e.behind es)) (sym last.no_more) last.closed

  behind_closes : (next : Next) → EndsClosed next → (e : Call) (rest : List Call) (worked : Worked) → Behind item budget next e rest worked → IsClosedBy worked item (state_behind e.behind rest)
  behind_closes next all e rest worked (inl (differs, is, more)) = all rest worked e.behind more
  behind_closes next all e rest worked (inr last) = last_closes e rest worked last

  reads_close : (next : Next) → EndsClosed next → (number : ℕ) (policy : Policy) (told : Told) (calls : List Call) (worked : Worked) (m : State)
      → Reads item budget next number policy told calls worked → IsClosedBy worked item (state_behind m calls)
  reads_close next all number policy told [] worked m broken = broken_closes worked m broken
  reads_close next all number policy told (e ∷ rest) worked m (inl (cell, read, more)) = reads_close next all number policy (told ++ cell ∷ []) rest worked e.behind more
  reads_close next all number policy told (e ∷ rest) worked m (inr (commits, behind)) = behind_closes next all e rest worked behind

  lent_closes : (next : Next) → EndsClosed next → (e : Call) (rest : List Call) (worked : Worked) → Lent item budget next e rest worked → IsClosedBy worked item (state_behind e.behind rest)
  lent_closes next all e rest worked (inl (number, policy, lends, more)) = reads_close next all number policy [] rest worked e.behind more
  lent_closes next all e rest worked (inr (lacks, no_more, ends)) = subst (λ w. IsClosedBy w item (state_behind e.behind rest)) (sym ends) tt

  round_closes : (next : Next) → EndsClosed next → EndsClosed (Round item budget next)
  round_closes next all [] worked m worn = worn_closes worked m worn
  round_closes next all (e ∷ rest) worked m (entry, lent) = lent_closes next all e rest worked lent

  decision_closes : EndsClosed (Decision item budget)
  decision_closes [] worked m worn = worn_closes worked m worn
  decision_closes (e ∷ rest) worked m (entry, last) = last_closes e rest worked last

  pub rounds_close : (n : ℕ) → EndsClosed (Rounds item budget n)
  rounds_close zero = decision_closes
  rounds_close (suc n) = round_closes (Rounds item budget n) (rounds_close n)
