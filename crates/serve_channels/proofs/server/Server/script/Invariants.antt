use Rattle.std.proofs.Common.{[], ◌∷◌, drop}
use Rattle.board_lines.specs.Laws.{given_of}
use Rattle.serve_steps.specs.Texts.{script_items}
use Rattle.serve_channels.proofs.Items.{list_end, script_does}
use Rattle.serve_channels.proofs.Texts.{Followed}
use Rattle.serve_channels.proofs.server.Server.script.Given as goal

-- the bytes so far were read, and what they gave was done; the script ends at none of that
abbrev pub invariant-loop-byte : goal.invariant-loop-byte
invariant-loop-byte g l =
    let left = given_of l.reader (drop l.byte-index l.text ∷ []) in
    Followed script_does list_end (script_items l.first_line l.text) (script_does left) (list_end left) l.fn.self l.self
