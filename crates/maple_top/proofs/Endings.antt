-- How a run ends behind its report.
use Rattle.std.proofs.Common.{◌≡◌, ◌≢◌, ℕ, true, List, [], ◌++◌, refl, sym, subst, inl, inr, append-nil}
use Rattle.maple_io.specs.Views.{NoWriteFailed, SinkView, WriteFailed, Wrote}
use Rattle.maple_io.proofs.Pieces.{wrote_nothing, wrote_then}
use Rattle.serve_steps.specs.declared.end.ServeEnd.{ServeEnd}
use Rattle.serve_steps.specs.declared.end.ServeEnd.TheVariants as ends
use Rattle.serve_steps.specs.Runs.{is_whole}
use Rattle.maple_top.specs.declared.status.Status.{Status}
use Rattle.maple_top.specs.declared.status.Status.TheVariants as status
use Rattle.maple_top.specs.Ends.{ClosesBy, Ends, IsBoardSpared, IsCutting, IsGiven, IsOrCut, WroteFront, WroteSome, closing, status_of}

-- what holds of a failed write and of want of memory holds of each status by which a run is cut short
pub of_cutting : (P : Status → Type 0) → P status.WriteFault → P status.NoMemory → (s : Status) → IsCutting s → P s
of_cutting P w n status.WriteFault cut = w
of_cutting P w n status.NoMemory cut = n
of_cutting P w n s cut = absurd (cut tt)

module _ (old new : SinkView) (text : List ℕ) where
  pub given_ends : (result : Status) → IsGiven result → Wrote old new text → Ends old new result text result
  given_ends status.WriteFault h a = absurd h
  given_ends status.NoMemory h a = absurd h
  given_ends result h a = (refl, a)

  -- a whole text is a front of itself
  wrote_front : Wrote old new text → WroteFront old new text
  wrote_front a = (text, ([], append-nil text), a)

  -- however a part ends, it wrote a front of its text
  pub ends_front : (due result : Status) → Ends old new due text result → WroteFront old new text
  ends_front due status.WriteFault e = e.1
  ends_front due status.NoMemory e = e
  ends_front due result e = wrote_front e.1

  pub ends_failed : (due result : Status) → Ends old new due text result → result ≡ status.WriteFault → WriteFailed old new
  ends_failed due result e is = (rw is at e).0

-- where nothing was written, a front of any text was
pub nothing_front : (old : SinkView) (text : List ℕ) → WroteFront old old text
nothing_front old text = ([], (text, refl), wrote_nothing old)

-- ---- behind what was written before

module _ (first old new : SinkView) (kept : List ℕ) (wrote : Wrote first old kept) (last : List ℕ) where
  -- a status with all of the last text, or one that cuts it short
  whole : (due result : Status) → result ≡ due → Wrote old new last → WroteSome first new (IsOrCut due result kept last)
  whole due result is w = (kept ++ last, inl (is, refl), wrote_then first old new kept last wrote w)

  pub ends_written : (due result : Status) → IsGiven due → Ends old new due last result → WroteSome first new (IsOrCut due result kept last)
  ends_written due status.WriteFault given (failed, (front, is, w)) = (kept ++ front, inr (given, (λ g. g), front, is, refl), wrote_then first old new kept front wrote w)
  ends_written due status.NoMemory given (front, is, w) = (kept ++ front, inr (given, (λ g. g), front, is, refl), wrote_then first old new kept front wrote w)
  ends_written due result given e = whole due result e.0 e.1

-- ---- closed by how it ended

module _ (first old new : SinkView) (kept : List ℕ) (wrote : Wrote first old kept) where
  -- no line follows
  bare : (due result : Status) → result ≡ due → new ≡ old → WroteSome first new (IsOrCut due result kept [])
  bare due result is same = (kept ++ [], inl (is, refl), subst (λ (s : SinkView). Wrote first s (kept ++ [])) (sym same) (wrote_then first old old kept [] wrote (wrote_nothing old)))

  pub closes_written : (end : ServeEnd) (result : Status) → ClosesBy end old new result → WroteSome first new (IsOrCut (status_of end) result kept (closing end))
  closes_written ends.Done result e = ends_written first old new kept wrote (closing ends.Done) status.Done result tt e
  closes_written (ends.Script line kind) result e = ends_written first old new kept wrote (closing (ends.Script line kind)) status.Script result tt e
  closes_written ends.WriteFault result e = bare status.WriteFault result e.0 e.1
  closes_written ends.BoardFault result e = ends_written first old new kept wrote (closing ends.BoardFault) status.BoardFault result tt e
  closes_written ends.Worn result e = ends_written first old new kept wrote (closing ends.Worn) status.Worn result tt e
  closes_written ends.NoMemory result e = bare status.NoMemory result e.0 e.1

-- a write failed ahead of the line, or as it was written
pub closes_failed : (first old new : SinkView) (end : ServeEnd) (result : Status) → (end ≡ ends.WriteFault → WriteFailed first old) → (end ≢ ends.WriteFault → NoWriteFailed first old)
    → ClosesBy end old new result → result ≡ status.WriteFault → WriteFailed first new
closes_failed first old new end result fails spares closes is = by end fails spares closes
  where
    behind : NoWriteFailed first old → WriteFailed old new → WriteFailed first new
    behind same failed = rw same at failed

    by : (end : ServeEnd) → (end ≡ ends.WriteFault → WriteFailed first old) → (end ≢ ends.WriteFault → NoWriteFailed first old) → ClosesBy end old new result → WriteFailed first new
    by ends.Done f s e = behind (s (λ e. cc)) (ends_failed old new (closing ends.Done) status.Done result e is)
    by (ends.Script line kind) f s e = behind (s (λ e. cc)) (ends_failed old new (closing (ends.Script line kind)) status.Script result e is)
    by ends.WriteFault f s e = subst (λ (v : SinkView). WriteFailed first v) (sym e.1) (f refl)
    by ends.BoardFault f s e = behind (s (λ e. cc)) (ends_failed old new (closing ends.BoardFault) status.BoardFault result e is)
    by ends.Worn f s e = behind (s (λ e. cc)) (ends_failed old new (closing ends.Worn) status.Worn result e is)
    by ends.NoMemory f s e = absurd (let both = sym e.0 in cc)

-- where the run ended by a failed write, so does the whole
pub closes_write : (old new : SinkView) (end : ServeEnd) (result : Status) → ClosesBy end old new result → result ≢ status.WriteFault → end ≢ ends.WriteFault
closes_write old new end result closes other is = other (rw is at closes).0

-- ---- ends of serving

-- where it ends by the board, so did the run
pub closes_board : (old new : SinkView) (end : ServeEnd) (result : Status) → ClosesBy end old new result → result ≡ status.BoardFault → end ≡ ends.BoardFault
closes_board old new ends.Done result e is = absurd (let no = (rw is at e).0 in cc)
closes_board old new (ends.Script line kind) result e is = absurd (let no = (rw is at e).0 in cc)
closes_board old new ends.WriteFault result e is = absurd (let no = e.0 in cc)
closes_board old new ends.BoardFault result e is = refl
closes_board old new ends.Worn result e is = absurd (let no = (rw is at e).0 in cc)
closes_board old new ends.NoMemory result e is = absurd (let no = e.0 in cc)

-- a status that comes only where no call of the board failed, behind a run in which none did
module _ (old new : SinkView) (text : List ℕ) where
  pub unspared : (due result : Status) → Ends old new due text result → IsBoardSpared result → IsBoardSpared due
  unspared due status.WriteFault e s = absurd s
  unspared due status.NoMemory e s = absurd s
  unspared due result e s = subst IsBoardSpared e.0 s

pub closes_spared : (old new : SinkView) (end : ServeEnd) (result : Status) → ClosesBy end old new result → IsBoardSpared result → is_whole end ≡ true
closes_spared old new ends.Done result e s = refl
closes_spared old new (ends.Script line kind) result e s = refl
closes_spared old new ends.WriteFault result e s = absurd (subst IsBoardSpared e.0 s)
closes_spared old new ends.BoardFault result e s = absurd (unspared old new (closing ends.BoardFault) status.BoardFault result e s)
closes_spared old new ends.Worn result e s = absurd (unspared old new (closing ends.Worn) status.Worn result e s)
closes_spared old new ends.NoMemory result e s = absurd (subst IsBoardSpared e.0 s)
