use Rattle.std.proofs.Common.{ℕ, ◌+◌, List, true, refl, sym, ◌∙◌, arith, subst}
use Rattle.std.proofs.lemmas.List.{drop_all}
use Rattle.board_lines.specs.Laws.{given_by}
use Rattle.core_machine.proofs.Hearing.{on_err}
use Rattle.serve_steps.specs.Texts.{asks_of, quits}
use Rattle.serve_channels.proofs.Texts.{Followed, all_read, control_next, followed_all, followed_end, followed_none, followed_on, none_read, one_read, read_on, some_read}
use Rattle.serve_channels.specs.Controlling.{ReadsSome}
use Rattle.serve_channels.proofs.server.Server.control.Goals as goal

pub loop-byte-init : goal.loop-byte-init
loop-byte-init g c = record { followed = followed_none asks_of quits _ _ c.args.self.now refl; read = none_read c.args.bytes.now c.args.reader.now }

pub returns-then-branch : goal.returns-then-branch
returns-then-branch g c =
    let at = c.loop-byte in
    let bytes = c.args.bytes.now in
    let item = c.in_ok-item.item in
    let did = c.in_ok-obey_next.ensures in
    let next = control_next at.reader c.push.new.self bytes at.byte-index item c.loop-byte-test.true c.in_ok-item.ensures.item c.in_ok-item.ensures.behind in
    let ended = followed_end next at.invariant.followed true did.goes (sym c.if-branch.true ∙ did.quit) did.connections did.same (λ e. absurd (cc)) in
    record {
      gives = followed_all ended;
      reads = λ text reading. read_on c.text_laws.ensures.given text bytes c.args.reader.now reading true c.push.new.self (sym ended.end_is) (λ e. absurd (cc));
      stopped = tt;
      connections = ended.connections;
      same = ended.same;
    }

-- the byte wasn't read
pub returns-in_err-item-clause-stopped : goal.returns-in_err-item-clause-stopped
returns-in_err-item-clause-stopped g c =
    let at = c.loop-byte in
    let bytes = c.args.bytes.now in
    let old = c.args.reader.now in
    on_err c.from_residual.result _ (subst (λ r. ReadsSome bytes old r) (sym c.in_err-item.ensures.err) (some_read at.byte-index bytes old at.reader at.invariant.read))

pub returns-in_err-obey_next-clause-stopped : goal.returns-in_err-obey_next-clause-stopped
returns-in_err-obey_next-clause-stopped g c =
    let at = c.loop-byte in
    let bytes = c.args.bytes.now in
    let old = c.args.reader.now in
    let new = c.push.new.self in
    on_err c.from_residual-in_err-obey_next.result _ (some_read (at.byte-index + 1) bytes old new
    (one_read c.text_laws.ensures.given old at.reader new bytes at.byte-index c.in_ok-item.item c.loop-byte-test.true c.in_ok-item.ensures.item
    c.in_ok-item.ensures.behind c.in_err-obey_next.ensures.stopped at.invariant.read))

pub loop-byte-preserved : goal.loop-byte-preserved
loop-byte-preserved g c =
    let at = c.loop-byte in
    let bytes = c.args.bytes.now in
    let item = c.in_ok-item.item in
    let did = c.in_ok-obey_next.ensures in
    let next = control_next at.reader c.push.new.self bytes at.byte-index item c.loop-byte-test.true c.in_ok-item.ensures.item c.in_ok-item.ensures.behind in
    record {
      followed = followed_on next at.invariant.followed c.in_ok-obey_next.field-0 did.goes did.quit did.connections did.same c.if-branch.false;
      read =
          one_read c.text_laws.ensures.given c.args.reader.now at.reader c.push.new.self bytes at.byte-index item c.loop-byte-test.true c.in_ok-item.ensures.item
          c.in_ok-item.ensures.behind (sym did.quit ∙ c.if-branch.false) at.invariant.read;
    }

pub returns : goal.returns
returns g c =
    let at = c.loop-byte in
    let bytes = c.args.bytes.now in
    let end = c.loop-byte-test.false in
    let none = drop_all at.byte-index bytes (omega (arith, end)) in
    let ended =
    subst (λ (xs : List ℕ). Followed asks_of quits (given_by c.args.reader.now bytes) (asks_of (given_by at.reader xs)) (quits (given_by at.reader xs)) c.args.self.now at.self)
    none at.invariant.followed in
    record {
      gives = followed_all ended;
      reads = all_read at.byte-index bytes c.args.reader.now at.reader (omega (arith, end)) at.invariant.read;
      stopped = tt;
      connections = ended.connections;
      same = ended.same;
    }
