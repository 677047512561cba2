-- Some deeds, one after the other, as they may stand in the part of an order.
use Rattle.std.specs.Prelude.{◌≡◌, ℕ, List, [], ◌∷◌, None}
use Rattle.std.specs.List.{AllByRecursion}
use Rattle.machine_steps.specs.declared.entry.Entry.{Entry}
use Rattle.machine_steps.specs.declared.reply.Reply.{Reply}
use Rattle.machine_steps.specs.Histories.{Turn}
use Rattle.script_text.specs.Orders.{Order}
use Rattle.sim_steps.specs.Agreeing.{taken_report}
use Rattle.sim_steps.specs.Benches.{Bench}
use Rattle.sim_steps.specs.Deeds.{Event, Runs}
use Rattle.sim_steps.specs.Deeds.Deed.{Enters}
use Rattle.sim_steps.specs.Parts.{FaultsEnd, HadMemory, IsBeside, IsDrained, IsInOrder, IsPart, asked_of}

-- deeds lead from one bench to another; of them these were asked for, and this text of the report was taken
pub record Stretch (asked : List Event) (text : List ℕ) (a b : Bench) : Type 0 where
  pub events : List Event
  pub runs : Runs a events b
  pub asked_is : asked_of events ≡ asked
  pub drained : AllByRecursion IsDrained asked
  pub in_order : AllByRecursion IsInOrder events
  pub memory : AllByRecursion HadMemory events
  pub faults : FaultsEnd None events
  pub text_is : taken_report events ≡ text

-- none was asked for: they carry messages, answer packets, or tell that a device failed
abbrev pub Carried : Bench → Bench → Type 0
Carried a b = Stretch [] [] a b

-- an order's part, in which no report is taken
pub record Obeyed (o : Order) (a b : Bench) : Type 0 where
  pub events : List Event
  pub part : IsPart o a events b
  pub none : taken_report events ≡ []

-- this entry alone was asked for
pub record Asked (entry : Entry) (a b : Bench) : Type 0 where
  pub event : Event
  pub stretch : Stretch (event ∷ []) [] a b
  pub reply : Reply
  pub deed : event.deed ≡ Enters entry reply

-- what others do beside who drives, which the order doesn't ask for
pub record Beside (a b : Bench) : Type 0 where
  pub events : List Event
  pub runs : Runs a events b
  pub all : AllByRecursion IsBeside events
  pub memory : AllByRecursion HadMemory events

-- ---- what was broken off

-- deeds lead on from this bench, any that may be done, and the machine's history behind them is this. They need not be a whole part, and memory may have run out
pub record BreaksOff (a : Bench) (past : List Turn) : Type 0 where
  pub events : List Event
  pub last : Bench
  pub runs : Runs a events last
  pub past_is : last.past ≡ past
