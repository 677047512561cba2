-- What clauses see of a source and of a sink.
use Rattle.std.specs.Prelude.{◌≡◌, ℕ, List, ◌++◌, Option}
use Rattle.std.specs.Io.KnownBytes.{Appends, Consumes}
use Rattle.maple_base.specs.Counts.{HasRisen}
use Rattle.maple_io.specs.declared.answer.Answer.{Answer}
use Rattle.maple_io.specs.Answers.{given}

-- the bytes that are left, where the source tells them, how many of its reads failed, and what it answered to all reads so far
pub record SourceView : Type 0 where
  pub left : Option (List ℕ)
  pub failed : ℕ
  pub answers : List Answer

-- the bytes that are held, where the sink tells them, how many of its writes failed, and what it took in all writes so far
pub record SinkView : Type 0 where
  pub taken : Option (List ℕ)
  pub failed : ℕ
  pub took : List ℕ

-- a read failed
abbrev pub ReadFailed : SourceView → SourceView → Type 0
ReadFailed old new = HasRisen old.failed new.failed

-- no failed read was counted
abbrev pub NoReadFailed : SourceView → SourceView → Type 0
NoReadFailed old new = new.failed ≡ old.failed

-- a write failed
abbrev pub WriteFailed : SinkView → SinkView → Type 0
WriteFailed old new = HasRisen old.failed new.failed

-- no failed write was counted
abbrev pub NoWriteFailed : SinkView → SinkView → Type 0
NoWriteFailed old new = new.failed ≡ old.failed

-- what a source answered in between is so
abbrev pub Heard : SourceView → SourceView → (List Answer → Type 0) → Type 0
Heard old new Are = (answers : List Answer) × (new.answers ≡ old.answers ++ answers) × Are answers

-- this text was read
pub record Gave (old new : SourceView) (text : List ℕ) : Type 0 where
  pub left : Consumes old.left new.left text
  pub heard : Heard old new (λ answers. given answers ≡ text)

-- this text was written
pub record Wrote (old new : SinkView) (text : List ℕ) : Type 0 where
  pub taken : Appends old.taken new.taken text
  pub took : new.took ≡ old.took ++ text
