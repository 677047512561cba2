use Rattle.std.proofs.Common.{drop}
use Rattle.board_lines.specs.Laws.{given_by}
use Rattle.serve_steps.specs.Texts.{asks_of, quits}
use Rattle.serve_channels.proofs.Texts.{Followed, ReadsFirst}
use Rattle.serve_channels.proofs.server.Server.control.Given as goal

-- the bytes so far were read, and what they gave was done
abbrev pub invariant-loop-byte : goal.invariant-loop-byte
invariant-loop-byte g l =
    let left = given_by l.reader (drop l.byte-index l.bytes) in
    record {
      followed : Followed asks_of quits (given_by l.fn.reader l.bytes) (asks_of left) (quits left) l.fn.self l.self;
      read : ReadsFirst l.byte-index l.bytes l.fn.reader l.reader;
    }
