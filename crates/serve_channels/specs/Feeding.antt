-- Bytes of a connection are kept until they are heard.
use Rattle.std.specs.Prelude.{◌≡◌, ◌⊎◌, ℕ, List}
use Rattle.maple_io.specs.declared.board.Turn.{Turn as BoardTurn}
use Rattle.maple_io.specs.declared.board.Turn.TheVariants as turn
use Rattle.machine_desk.specs.Hearing.{Feeds as FeedsInbound}
use Rattle.machine_desk.specs.Connections.{Fills}
use Rattle.serve_channels.specs.declared.server.Server.{Server}
use Rattle.serve_channels.specs.Servers.{IsAt, IsMissing, links, with_inbound}

-- they stand behind those that came before on the connection of this number
pub record FeedsOne (c : ℕ) (bytes : List ℕ) (old new : Server) : Type 0 where
  pub at : ℕ
  pub is : IsAt at c old.connections.items
  pub feeds : Fills links with_inbound at (FeedsInbound bytes) old new

-- those of a number that isn't there are passed over
abbrev pub Feeds : ℕ → List ℕ → Server → Server → Type 0
Feeds c bytes old new = (IsMissing c old.connections.items × (new ≡ old)) ⊎ FeedsOne c bytes old new

-- what came by a turn is kept
abbrev pub FeedsBy : BoardTurn → List ℕ → Server → Server → Type 0
FeedsBy (turn.Bytes c n) bytes old new = Feeds c bytes old new
FeedsBy t bytes old new = new ≡ old
