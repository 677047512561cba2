-- The notes of a recorder.
use Rattle.std.specs.Prelude.{◌≡◌, ℕ}
use Rattle.maple_base.specs.declared.key.Key.{Key}
use Rattle.maple_base.specs.declared.cells.Cell.{Cell}
use Rattle.maple_base.specs.declared.cells.Value.{Value}
use Rattle.policy_meaning.specs.Cells.{AreGiven}
use Rattle.policy_meaning.specs.Through.{Seen}
use Rattle.policy_meaning.specs.Leads.{Answer}
use Rattle.policy_meaning.specs.Notes.{Notes, seen}
use Rattle.policy_lang.specs.declared.Policy.{Policy}
use Rattle.policy_lang.specs.TreeOf.{tree_of}
use Rattle.policy_meaning.specs.Meaning.{meaning}
use Rattle.policy_meaning.specs.QuestionLaws.{IsTrace}
use Rattle.maple_base.specs.declared.decision.Outcome.{Outcome}
use Rattle.trace_record.specs.declared.recorder.Notes.{Notes as Kept}

-- the answers that were noted
abbrev pub answers_of : Kept → Seen
answers_of n = seen n.items n.cells

-- an answer is noted, the key stays, and each noted cell was given by the view
pub record Records (old : Kept) (gave : Cell → Value → Type 0) (a : Answer) (new : Kept) (now : Cell → Value → Type 0) : Type 0 where
  pub key : old.key ≡ new.key
  pub notes : Notes old.key (answers_of old) a (answers_of new)
  pub told : AreGiven gave old.cells → AreGiven now new.cells

-- behind a walk through a policy, where there were no notes ahead of it: the notes are the trace, and what the view gave
pub record IsRecorded (p : Policy) (budget switch : ℕ) (k : Key) (n : Kept) (gave : Cell → Value → Type 0) (o : Outcome) : Type 0 where
  pub trace : IsTrace (meaning (tree_of p.body) budget switch) k n.items n.cells o
  pub given : AreGiven gave n.cells
