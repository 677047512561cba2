-- Legal histories of the machine, and their reports.
use Rattle.std.specs.Prelude.{◌≡◌, List, [], ◌∷◌, length, drop}
use Rattle.std.specs.List.{flat_map}
use Rattle.report_text.specs.declared.line.Line.{Line}
use Rattle.machine_steps.specs.declared.entry.Entry.{Entry}
use Rattle.machine_steps.specs.declared.entry.Entry.TheVariants.{TakeReport}
use Rattle.machine_steps.specs.declared.reply.Reply.{Reply}
use Rattle.machine_steps.specs.Admitting.{Admits}
use Rattle.machine_steps.specs.Machine.{State}
use Rattle.machine_steps.specs.Steps.{Steps}

-- an entry with the reply to it, and the states before and behind it
pub record Turn : Type 0 where
  pub before : State
  pub entry : Entry
  pub reply : Reply
  pub behind : State

-- the entry is within its condition, and the machine does it so
pub record IsTurn (t : Turn) : Type 0 where
  pub admitted : Admits t.before t.entry
  pub steps : Steps t.before t.entry t.reply t.behind

-- a legal history: from this state these turns lead one after the other to the last
abbrev pub Leads : State → List Turn → State → Type 0
Leads m [] last = last ≡ m
Leads m (t ∷ ts) last = (t.before ≡ m) × IsTurn t × Leads t.behind ts last

-- the lines that an entry gives: those behind the ones that weren't taken yet
abbrev pub said : State → Entry → State → List Line
said old TakeReport new = []
said old entry new = drop (length old.lines) new.lines

-- the report of a history
abbrev pub report_of : List Turn → List Line
report_of ts = flat_map (λ (t : Turn). said t.before t.entry t.behind) ts
