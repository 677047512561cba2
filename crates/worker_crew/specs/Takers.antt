-- What a clause says of a queue and its passes.
use Rattle.std.specs.Prelude.{ℕ, ◌<◌, Option}
use Rattle.atomic_table.specs.declared.shared.Seat.{Seat}
use Rattle.crossbeam_queue.specs.declared.array_queue.Doing.{Doing}
use Rattle.crossbeam_queue.specs.Passes.{IsPassOf, ruled_capacity, view}
use Rattle.history_lock.specs.declared.pass.Token.{Token}
use Rattle.history_lock.specs.declared.view.Known.{Known}
use Rattle.history_lock.specs.Passes.{known}
use Rattle.worker_crew.specs.declared.queue.Jobs.{Jobs}
use Rattle.worker_crew.specs.declared.rule.Account.{Account}
use Rattle.worker_crew.specs.declared.rule.View.{View}

abbrev pub Taker : Type 0 → Type 0
Taker T = Seat (Option T) (Doing T (View T))

module _ {T : Type 0} where
  -- what the pass knows
  abbrev pub account : Taker T → Account T
  account p = (view p).account

  -- the parts of the right to know all
  abbrev pub shares : Taker T → ℕ
  shares p = (account p).parts

  -- it is a pass of this queue, and has a part
  abbrev pub IsTakerOf : Jobs T → Taker T → Type 0
  IsTakerOf jobs p = IsPassOf jobs.queue p × (0 < shares p)

  -- what a pass of a hall and one of a queue know
  abbrev pub both : {S M E R : Type 0} → Token S M E R → Taker T → Known M E R × Account T
  both pass taker = (known pass, account taker)

  abbrev pub places : Jobs T → ℕ
  places jobs = ruled_capacity jobs.queue
