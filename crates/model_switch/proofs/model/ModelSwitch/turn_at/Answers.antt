use Rattle.std.proofs.Common.{◌≤◌, ◌<◌, [], length, refl, sym, ap, arith}
use Rattle.std.proofs.lemmas.List.{append-nil}
use Rattle.model_switch.specs.States.{State}
use Rattle.model_switch.proofs.Lists.{none_next}
use Rattle.model_switch.proofs.Turned.{turned}
use Rattle.model_switch.proofs.model.ModelSwitch.turn_at.Goals as goal

pub returns-then-place-len : goal.returns-then-place-len
returns-then-place-len c =
    let pending = ap (λ (s : State). length s.pending) c.self.view_is in
    let past : length c.args.self.now.pending ≤ c.args.place = omega arith in
    ([], sym (append-nil c.args.out.now.items), (none_next c.args.self.now.pending c.args.place c.requires past, refl, refl))

pub returns : goal.returns
returns c =
    let a = c.self.inside in
    let s : State = record { dpid = a.dpid; ports = a.ports; table = a.table; pending = a.waiting } in
    let dealt = c.carry_out-answer.ensures in
    let within : c.args.place < length a.waiting = omega arith in
    let t = turned c.args.place s c.get-message.result.now c.carry_out-answer.result dealt.0 c.carry_out-answer.new.table within c.get-message.ensures.value dealt.2 c.in_default.not-NoMemory in
    (dealt.0, dealt.1, rw (← c.self.view_is, c.take_out.ensures) t)
