use Rattle.std.proofs.Common.{◌≡◌, [], ◌∷◌, refl, sym, ap, ◌∙◌, arith, subst}
use Rattle.std.specs.Option.{option_to_list}
use Rattle.std.specs.Prelude.{IfOk}
use Rattle.std.proofs.lemmas.List.{append-nil}
use Rattle.std.proofs.lemmas.Result.{on_ok_weaker}
use Rattle.board_lines.specs.Laws.{given_of}
use Rattle.board_lines.specs.Readings.{Reading}
use Rattle.machine_desk.proofs.Tended.{same_then}
use Rattle.serve_channels.specs.declared.scripting.ScriptEnd.{ScriptEnd}
use Rattle.serve_channels.proofs.Items.{list_end, script_does}
use Rattle.serve_channels.proofs.Texts.{followed_all, followed_by, followed_end, followed_none, followed_on, script_last, script_next}
use Rattle.serve_channels.proofs.server.Server.script.Goals as goal
use Rattle.serve_channels.specs.Servers.{home}

pub loop-byte-init : goal.loop-byte-init
loop-byte-init g c =
    let text = c.args.text.now in
    followed_none script_does list_end _ _ c.args.self.now
    (sym (c.control_laws.ensures.numbered c.args.first_line text) ∙ ap (λ (r : Reading). given_of r (text ∷ [])) (sym c.new_at-reader.ensures))

pub returns-in_err-end-clause-same : goal.returns-in_err-end-clause-same
returns-in_err-end-clause-same g c = same_then home c.loop-byte.invariant.same c.in_err-end.ensures.same

pub returns-in_default : goal.returns-in_default
returns-in_default g c =
    let at = c.loop-byte in
    let item = c.in_ok-item.item in
    let did = c.in_ok-end.ensures in
    let next = script_next at.reader c.push.new.self c.args.text.now at.byte-index item c.loop-byte-test.true c.in_ok-item.ensures.item c.in_ok-item.ensures.behind in
    let ended = followed_end next at.invariant c.in_ok-end.end did.goes did.end did.connections did.same c.in_default.not-Whole in
    record { goes = followed_all ended; end = sym ended.end_is; connections = ended.connections; same = ended.same }

pub loop-byte-preserved : goal.loop-byte-preserved
loop-byte-preserved g c =
    let at = c.loop-byte in
    let item = c.in_ok-item.item in
    let did = c.in_ok-end.ensures in
    let next = script_next at.reader c.push.new.self c.args.text.now at.byte-index item c.loop-byte-test.true c.in_ok-item.ensures.item c.in_ok-item.ensures.behind in
    followed_on next at.invariant c.in_ok-end.end did.goes did.end did.connections did.same c.in-Whole.is

pub returns : goal.returns
returns g c =
    let at = c.loop-byte in
    let first = option_to_list c.end-item.result in
    let result = c.carry_out_next-2.result in
    let did = c.carry_out_next-2.ensures in
    let end = c.loop-byte-test.false in
    let last = script_last at.reader c.args.text.now at.byte-index c.end-item.result (omega (arith, end)) c.end-item.ensures.item in
    record {
      goes = on_ok_weaker result
          (λ goes. followed_all (followed_by (script_does first) at.invariant goes did.connections did.same (ap script_does last ∙ sym (append-nil (script_does first))) refl)) did.goes;
      end = subst (λ (end : ScriptEnd). IfOk result (λ how. how ≡ end)) (sym (at.invariant.end_is ∙ ap list_end last)) did.end;
      connections = did.connections ∙ at.invariant.connections;
      same = same_then home at.invariant.same did.same;
    }
