-- The grammar of a script's lines: a form for each kind of line.
use Rattle.std.specs.Prelude.{◌≡◌, ℕ, ◌<◌, List, [], ◌∷◌, ◌++◌, length, IsTrue, codes}
use Rattle.maple_base.specs.declared.cells.Place.{Place}
use Rattle.maple_base.specs.declared.key.Match.{Match}
use Rattle.maple_base.specs.Keys.{anything}
use Rattle.maple_base.specs.Names.{is_name}
use Rattle.script_text.specs.declared.command.Command.{Command}
use Rattle.script_text.specs.declared.command.Command.TheVariants.{Nothing, Plug, Unplug, Packet, Frame, Turn, Settle, Host, NoHost, Link, NoLink, Set, Unset, NewPolicy, Rules, Quit}
use Rattle.script_text.specs.PacketFields.{key_by, is_packet}
use Rattle.script_text.specs.Spelling.{AreWords, IsNumber, IsPort, IsAddress, IsTurns, IsPlace, ArePairs, AreFields}

-- a line, without its line feed, and the command that it says
pub data IsLine (line : List ℕ) : Command → Type 0 where
  -- nothing, or a comment
  EmptyLine : line ≡ [] → IsLine line Nothing
  CommentLine : (text : List ℕ) → line ≡ codes "#" ++ text → IsLine line Nothing
  -- plug C, unplug C
  PlugLine : {c : List ℕ} {device : ℕ} → AreWords line (codes "plug" ∷ c ∷ []) → IsNumber c device → IsLine line (Plug device)
  UnplugLine : {c : List ℕ} {device : ℕ} → AreWords line (codes "unplug" ∷ c ∷ []) → IsNumber c device → IsLine line (Unplug device)
  -- packet C P {field=number}
  PacketLine : {c p : List ℕ} {fields : List (List ℕ)} {device port : ℕ} {named : Match} → AreWords line (codes "packet" ∷ c ∷ p ∷ fields)
      → IsNumber c device → IsPort p port → AreFields anything fields named → IsTrue (is_packet (key_by port named))
      → IsLine line (Packet device (key_by port named))
  -- frame C P HEX
  FrameLine : {c p digits : List ℕ} {device port : ℕ} {bytes : List ℕ} → AreWords line (codes "frame" ∷ c ∷ p ∷ digits ∷ [])
      → IsNumber c device → IsPort p port → ArePairs digits bytes → 0 < length bytes → IsLine line (Frame device port bytes)
  -- turn C N
  TurnLine : {c n : List ℕ} {device turns : ℕ} → AreWords line (codes "turn" ∷ c ∷ n ∷ []) → IsNumber c device → IsTurns n turns → IsLine line (Turn device turns)
  -- settle
  SettleLine : AreWords line (codes "settle" ∷ []) → IsLine line Settle
  -- host M S P, nohost M
  HostLine : {m s p : List ℕ} {address : ℕ} {place : Place} → AreWords line (codes "host" ∷ m ∷ s ∷ p ∷ []) → IsAddress m address → IsPlace s p place
      → IsLine line (Host address place)
  NoHostLine : {m : List ℕ} {address : ℕ} → AreWords line (codes "nohost" ∷ m ∷ []) → IsAddress m address → IsLine line (NoHost address)
  -- link S P S P, nolink S P
  LinkLine : {s p to_s to_p : List ℕ} {from to : Place} → AreWords line (codes "link" ∷ s ∷ p ∷ to_s ∷ to_p ∷ []) → IsPlace s p from → IsPlace to_s to_p to
      → IsLine line (Link from to)
  NoLinkLine : {s p : List ℕ} {from : Place} → AreWords line (codes "nolink" ∷ s ∷ p ∷ []) → IsPlace s p from → IsLine line (NoLink from)
  -- set NAME K V, unset NAME K
  SetLine : {name k v : List ℕ} {key value : ℕ} → AreWords line (codes "set" ∷ name ∷ k ∷ v ∷ []) → IsTrue (is_name name) → IsNumber k key → IsNumber v value
      → IsLine line (Set name key value)
  UnsetLine : {name k : List ℕ} {key : ℕ} → AreWords line (codes "unset" ∷ name ∷ k ∷ []) → IsTrue (is_name name) → IsNumber k key → IsLine line (Unset name key)
  -- newpolicy
  NewPolicyLine : AreWords line (codes "newpolicy" ∷ []) → IsLine line NewPolicy
  -- rules S
  RulesLine : {s : List ℕ} {switch : ℕ} → AreWords line (codes "rules" ∷ s ∷ []) → IsNumber s switch → IsLine line (Rules switch)
  -- quit
  QuitLine : AreWords line (codes "quit" ∷ []) → IsLine line Quit

-- a line of no command
abbrev pub IsNoLine : List ℕ → Type 0
IsNoLine line = (command : Command) → IsLine line command → ⊥

-- a line of a frame, the one kind of line whose command holds bytes
abbrev pub IsFrameLine : List ℕ → Type 0
IsFrameLine line = (device port : ℕ) × (bytes : List ℕ) × IsLine line (Frame device port bytes)

-- the most bytes of a line
abbrev pub most_bytes : ℕ
most_bytes = 8192
