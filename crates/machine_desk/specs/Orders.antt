-- What the orders of an operator do at the desk.
use Rattle.std.specs.Prelude.{◌≡◌, ◌≢◌, ◌⊎◌, ℕ, Bool, true, false, List}
use Rattle.env_cells.specs.declared.updates.Update.{Update}
use Rattle.policy_lang.specs.declared.Policy.{Policy}
use Rattle.policy_text.specs.declared.reading.ReadError.TheVariants.{Refused}
use Rattle.policy_text.specs.Texts.{IsRefused, IsTextOf}
use Rattle.machine_moves.specs.Told.{is_new_state}
use Rattle.machine_steps.specs.declared.entry.Entry.{Entry}
use Rattle.machine_steps.specs.declared.entry.Entry.TheVariants as entries
use Rattle.machine_steps.specs.declared.note.Note.TheVariants as notes
use Rattle.machine_steps.specs.declared.reply.Reply.{Reply}
use Rattle.machine_steps.specs.declared.reply.Reply.TheVariants.{NoMemory as LacksMemory}
use Rattle.machine_desk.specs.Desks.{DeskView, Enters, WearsOut}
use Rattle.machine_desk.specs.declared.asking.DeskStop.{DeskStop}
use Rattle.machine_desk.specs.declared.asking.DeskStop.TheVariants.{NoMemory, Worn}

-- the entry was made, and memory sufficed
pub record Asks (entry : Entry) (reply : Reply) (a b : DeskView) : Type 0 where
  pub enters : Enters a entry reply b
  pub memory : reply ≢ LacksMemory

-- memory didn't suffice for the entry, or the hall is worn
abbrev pub Stops : DeskStop → Entry → DeskView → DeskView → Type 0
Stops NoMemory entry a b = Enters a entry LacksMemory b
Stops Worn entry a b = WearsOut a b

-- the entry was made, with some reply
pub record Asked (entry : Entry) (a b : DeskView) : Type 0 where
  pub reply : Reply
  pub asks : Asks entry reply a b

-- an update of the network was made or refused; it was made where the machine tells of a new state
pub record Changes (update : Update) (made : Bool) (a b : DeskView) : Type 0 where
  pub reply : Reply
  pub asks : Asks (entries.Change update) reply a b
  pub made_is : made ≡ is_new_state reply

abbrev pub refusal : ℕ → ℕ → ℕ → Entry
refusal line column kind = entries.Note (notes.PolicyRefused line column kind)

-- the policy of a text is put in force
pub record PutsInForce (text : List ℕ) (a b : DeskView) : Type 0 where
  pub policy : Policy
  pub is_text : IsTextOf policy text
  pub asked : Asked (entries.NewPolicy policy) a b

-- the text is of none, and where and why is told
pub record TellsRefusal (text : List ℕ) (a b : DeskView) : Type 0 where
  pub line : ℕ
  pub column : ℕ
  pub kind : ℕ
  pub refused : IsRefused text (Refused line column kind)
  pub asked : Asked (refusal line column kind) a b

-- by whether the text is of a policy
abbrev pub Renews : Bool → List ℕ → DeskView → DeskView → Type 0
Renews true text a b = PutsInForce text a b
Renews false text a b = TellsRefusal text a b

-- the entry that is made with a text: its policy is put in force, or it is of none, and where and why is told
abbrev pub IsToRenew : List ℕ → Entry → Type 0
IsToRenew text entry =
    ((policy : Policy) × IsTextOf policy text × (entry ≡ entries.NewPolicy policy))
    ⊎ ((line column kind : ℕ) × IsRefused text (Refused line column kind) × (entry ≡ refusal line column kind))

-- memory didn't suffice for the policy's text, or for the entry that is made with it
abbrev pub StopsRenewing : DeskStop → List ℕ → DeskView → DeskView → Type 0
StopsRenewing NoMemory text a b = (b ≡ a) ⊎ ((entry : Entry) × IsToRenew text entry × Enters a entry LacksMemory b)
StopsRenewing Worn text a b = WearsOut a b
