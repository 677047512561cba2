-- What comes of a run, from what its parts say.
use Rattle.std.proofs.Common.{◌≡◌, ℕ, ◌<◌, true, List, [], ◌∷◌, length, Option, Some, None, refl, sym, subst, inl, inr}
use Rattle.std.specs.Prelude.{IfSome}
use Rattle.std.specs.Io.KnownBytes.{IsAtEnd}
use Rattle.maple_io.specs.Answers.{ends as tells_end, fails, given, gives}
use Rattle.maple_io.specs.declared.answer.Answer.{Answer}
use Rattle.maple_io.specs.declared.answer.Answer.TheVariants as answers
use Rattle.maple_io.specs.Views.{Heard, SinkView, SourceView, Wrote}
use Rattle.maple_io.proofs.Pieces.{wrote_nothing}
use Rattle.report_text.specs.Report.{spelled}
use Rattle.serve_steps.specs.declared.end.ServeEnd.{ServeEnd}
use Rattle.serve_steps.specs.declared.end.ServeEnd.TheVariants as ends
use Rattle.command_words.specs.declared.words.Command.{Command}
use Rattle.maple_top.specs.declared.status.Status.{Status}
use Rattle.maple_top.specs.declared.status.Status.TheVariants as status
use Rattle.maple_top.specs.Due.{AreReading, AreWords, HasCommand, OfInput, most_bytes}
use Rattle.maple_top.specs.Ends.{Ends, IsAside, IsGiven, IsOrCut, WroteSome, status_of}
use Rattle.maple_top.specs.Outcomes.{Comes, IsRead, IsText, Results, RunsPolicy, Switches, kept_of, last_of}
use Rattle.maple_top.specs.Running.{RunsTexts, ran, refused, lacked_memory}
use Rattle.maple_top.specs.Statuses.{last_line}
use Rattle.maple_top.specs.Texts.{Texts, texts_of}
use Rattle.maple_top.proofs.Endings.{ends_written, of_cutting}

-- ---- of an input, as far as it is known

-- what follows of any input follows of this one
of_told : (left : Option (List ℕ)) (P Q : List ℕ → Type 0) → ((bytes : List ℕ) → P bytes → Q bytes) → IfSome left P → IfSome left Q
of_told None P Q f h = tt
of_told (Some bytes) P Q f h = f bytes h

of_none : (left : Option (List ℕ)) (Q : List ℕ → Type 0) → ((bytes : List ℕ) → Q bytes) → IfSome left Q
of_none None Q f = tt
of_none (Some bytes) Q f = f bytes

pub of_input : {source left : SourceView} {P : Type 0 → List ℕ → Type 0} → (Q : Type 0 → List ℕ → Type 0) → ((ended : Type 0) (bytes : List ℕ) → P ended bytes → Q ended bytes)
    → OfInput source left P → OfInput source left Q
of_input {source} {left} {P} Q f h =
    let (heard, is, of) = h.heard in
    record {
      told = of_told source.left (P (IsAtEnd left.left)) (Q (IsAtEnd left.left)) (f (IsAtEnd left.left)) h.told;
      heard = (heard, is, f (tells_end heard ≡ true) (given heard) of);
    }

-- what holds of any input holds of this one
pub of_any : (source left : SourceView) (Q : Type 0 → List ℕ → Type 0) (Are : List Answer → Type 0) → ((ended : Type 0) (bytes : List ℕ) → Q ended bytes) → Heard source left Are
    → OfInput source left Q
of_any source left Q Are f (heard, is, are) = record {
  told = of_none source.left (Q (IsAtEnd left.left)) (f (IsAtEnd left.left));
  heard = (heard, is, f (tells_end heard ≡ true) (given heard));
}

-- what holds of an input that is too long holds of this one
pub of_long : (source left : SourceView) (Q : Type 0 → List ℕ → Type 0) → ((ended : Type 0) (bytes : List ℕ) → most_bytes < length bytes → Q ended bytes)
    → IfSome source.left (λ bytes. most_bytes < length bytes) → Heard source left (λ heard. (gives heard ≡ true) × (most_bytes < length (given heard))) → OfInput source left Q
of_long source left Q f long (heard, is, h) = record {
  told = of_told source.left (λ bytes. most_bytes < length bytes) (Q (IsAtEnd left.left)) (f (IsAtEnd left.left)) long;
  heard = (heard, is, f (tells_end heard ≡ true) (given heard) h.1);
}

-- what holds of the bytes that were read to the end holds of this one
whole_told : (left : Option (List ℕ)) (ended : Type 0) (input : List ℕ) (Q : Type 0 → List ℕ → Type 0) → (ended → Q ended input) → IfSome left (λ bytes. input ≡ bytes)
    → IfSome left (λ _. ended) → IfSome left (λ bytes. Q ended bytes)
whole_told None ended input Q f is end = tt
whole_told (Some bytes) ended input Q f is end = subst (Q ended) is (f end)

pub of_whole : (source left : SourceView) (Q : Type 0 → List ℕ → Type 0) (input : List ℕ) → ((ended : Type 0) → ended → Q ended input) → IfSome source.left (λ bytes. input ≡ bytes)
    → IfSome source.left (λ _. IsAtEnd left.left) → Heard source left (λ heard. (tells_end heard ≡ true) × (given heard ≡ input)) → OfInput source left Q
of_whole source left Q input f is end (heard, grew, h) = record {
  told = whole_told source.left (IsAtEnd left.left) input Q (f (IsAtEnd left.left)) is end;
  heard = (heard, grew, subst (Q (tells_end heard ≡ true)) (sym h.1) (f (tells_end heard ≡ true) h.0));
}

-- ---- what was heard

-- no answer ends and fails
pub ended_unfailed : (heard : List Answer) → tells_end heard ≡ true → fails heard ≡ true → ⊥
ended_unfailed [] e f = let no = e in cc
ended_unfailed (answers.Gave b ∷ heard) e f = ended_unfailed heard e f
ended_unfailed (answers.Ended ∷ []) e f = let no = f in cc
ended_unfailed (answers.Ended ∷ a ∷ heard) e f = let no = e in cc
ended_unfailed (answers.Failed ∷ []) e f = let no = e in cc
ended_unfailed (answers.Failed ∷ a ∷ heard) e f = let no = e in cc

pub given_unfailed : (heard : List Answer) → gives heard ≡ true → fails heard ≡ true → ⊥
given_unfailed [] g f = let no = f in cc
given_unfailed (answers.Gave b ∷ heard) g f = given_unfailed heard g f
given_unfailed (answers.Ended ∷ heard) g f = let no = g in cc
given_unfailed (answers.Failed ∷ heard) g f = let no = g in cc

-- ---- what comes of it

-- no run under a policy leaves all as it was
of_end : (end : ServeEnd) → ¬ (IsAside (status_of end))
of_end (ends.Script line kind) a = a
of_end end a = a

-- it comes to that status
runs : (ended unread : Type 0) (words : List (List ℕ)) (input : List ℕ) (before after : Switches) (due : Status) (kept last : List ℕ)
    → RunsPolicy ended words input before after due kept last → Comes ended unread words input before after due kept last
runs ended unread words input before after due kept last h = by due (λ a. of_end h.end (subst IsAside h.status_is a)) h
  where
    by : (s : Status) → ¬ (IsAside s) → RunsPolicy ended words input before after s kept last → Comes ended unread words input before after s kept last
    by status.Usage o h = absurd (o tt)
    by status.Policy o h = absurd (o tt)
    by status.ReadFault o h = absurd (o tt)
    by status.NoMemory o h = inr h
    by status.TooLong o h = absurd (o tt)
    by due o h = h

module _ (ended unread : Type 0) (words : List (List ℕ)) (input : List ℕ) (before : Switches) (old new : SinkView) (result : Status) where
  abbrev pub Came : Switches → Type 0
  Came after = WroteSome old new (Results ended unread words input before after result)

  -- a line alone
  came : (due : Status) → IsGiven due → (line : List ℕ) → Comes ended unread words input before before due [] line → Ends old new due line result → Came before
  came due given line comes e =
      let (text, written, w) = ends_written old old new [] (wrote_nothing old) line due result given e in
      (text, record { came_to = due; kept = []; last = line; comes = comes; written = written }, w)

  text_alone : (text : List ℕ) → IsText before before text [] text
  text_alone text = record { same = refl; nothing = refl; text_is = refl }

  pub refused_words : ¬ (AreWords words) → Ends old new status.Usage (last_line status.Usage) result → Came before
  refused_words none e = came status.Usage tt (last_line status.Usage) (none, text_alone (last_line status.Usage)) e

  pub failed_read : AreReading words → unread → Ends old new status.ReadFault (last_line status.ReadFault) result → Came before
  failed_read are fault e = came status.ReadFault tt (last_line status.ReadFault) (are, fault, text_alone (last_line status.ReadFault)) e

  pub read_too_long : AreReading words → most_bytes < length input → Ends old new status.TooLong (last_line status.TooLong) result → Came before
  read_too_long are long e = came status.TooLong tt (last_line status.TooLong) (are, long, text_alone (last_line status.TooLong)) e

  pub lacks_memory : result ≡ status.NoMemory → Wrote old new [] → Came before
  lacks_memory is w = ([], record { came_to = status.NoMemory; kept = []; last = []; comes = inl (text_alone []); written = inl (is, refl) }, w)

  module _ (command : Command) (has : HasCommand command words) (read : IsRead ended command input) (texts : Texts) (texts_are : texts ≡ texts_of command input) where
    pub texts_ran : (after : Switches) → RunsTexts command texts before after old new result → Came after
    texts_ran after (ran policy has_policy (text, under, w)) = (
      text,
      record {
        came_to = status_of under.end;
        kept = kept_of command under.report;
        last = last_of command under.end under.report;
        comes = runs ended unread words input before after (status_of under.end) (kept_of command under.report) (last_of command under.end under.report) (record {
          command = command;
          has_command = has;
          read = read;
          policy = policy;
          has_policy = rw texts_are at has_policy;
          end = under.end;
          report = under.report;
          ran = rw texts_are at under.ran;
          status_is = refl;
          kept_is = refl;
          last_is = refl;
        });
        written = under.written;
      },
      w,
    )
    texts_ran after (refused same none line refusal e) =
        subst Came (sym same)
        (came status.Policy tt (spelled line) (record {
          command = command;
          has_command = has;
          read = read;
          none = rw texts_are at none;
          line = line;
          refusal = rw texts_are at refusal;
          is_text = text_alone (spelled line);
        }) e)
    texts_ran after (lacked_memory same is w) = subst Came (sym same) (lacks_memory is w)

-- ---- a run that leaves all as it was

ends_aside : (old new : SinkView) (due : Status) (text : List ℕ) (result : Status) → Ends old new due text result → IsAside result → result ≡ due
ends_aside old new due text status.WriteFault e a = absurd a
ends_aside old new due text status.NoMemory e a = absurd a
ends_aside old new due text result e a = e.0

-- refuses the policy
pub texts_aside : (command : Command) (texts : Texts) (before after : Switches) (old new : SinkView) (result : Status) → RunsTexts command texts before after old new result
    → IsAside result → result ≡ status.Policy
texts_aside command texts before after old new result (ran policy has (text, under, w)) a = absurd (by under.written)
  where
    by : IsOrCut (status_of under.end) result (kept_of command under.report) (last_of command under.end under.report) text → ⊥
    by (inl (is, t)) = of_end under.end (subst IsAside is a)
    by (inr (given, cut, front, is_front, t)) = of_cutting (λ (s : Status). ¬ (IsAside s)) (λ a. a) (λ a. a) result cut a
texts_aside command texts before after old new result (refused same none line refusal e) a = ends_aside old new status.Policy (spelled line) result e a
texts_aside command texts before after old new result (lacked_memory same is w) a = absurd (subst IsAside is a)
