use Rattle.std.proofs.Common.{◌≡◌, ◌++◌, Some, sym, ap, ◌∙◌, length, ◌+◌, ◌≤◌, Result, Ok, Err, false, vec_len, vec_capacity, arith}
use Rattle.std.specs.Result.{is_err, OnOk}
use Rattle.std.proofs.lemmas.Bool.{false≢true}
use Rattle.maple_base.specs.declared.device.Seen.TheVariants.{NoMemory}
use Rattle.device_port.specs.Devices.Call.{Looking}
use Rattle.model_switch.specs.Logs.{calls_of}
use Rattle.model_switch.proofs.Meant.{packets_meant, short_look, told}
use Rattle.model_switch.proofs.Told.{told_more}
use Rattle.model_switch.proofs.logged.LoggedDevice.packet.Goals as goal

on_ok : {A E : Type 0} (P : Type 0) (r : Result A E) → is_err r ≡ false → OnOk r P → P
on_ok P (Ok x) fine on = on
on_ok P (Err e) fine on = absurd (false≢true (sym fine))

pub append-requires : goal.append-requires
append-requires c =
    let t = c.packet-seen.ensures.just in
    let same : c.packet-seen.new.out.items ≡ t.0 = t.1 ∙ ap (λ l. l ++ t.0) c.new-bytes.ensures.items in
    let short = short_look c.args.port c.args.frame.now c.args.self.now.inner.switch.table c.packet-seen.result t.0 t.2 in
    let fits : length c.deref.result.now ≤ 65535 = omega (arith, short, ap length same, ap length c.deref.ensures.value) in
    let roomy : vec_len c.reserve-else-is_err.new.self + 65535 ≤ vec_capacity c.reserve-else-is_err.new.self =
    on_ok _ c.reserve-else-is_err.result (sym c.is_err-else-is_err.ensures.value ∙ c.if-is_err-2.false) c.reserve-else-is_err.ensures.ok in
    omega arith

pub returns : goal.returns
returns c =
    let t = c.packet-seen.ensures.just in
    let seen = c.packet-seen.result in
    let port = c.args.port in
    let frame = c.args.frame.now in
    let call = Looking port frame seen t.0 in
    let list = c.args.self.now.calls.items in
    let s = c.args.self.now.inner.switch in
    let same : c.packet-seen.new.out.items ≡ t.0 = t.1 ∙ ap (λ l. l ++ t.0) c.new-bytes.ensures.items in
    let appended : c.append.new.out.items ≡ c.args.out.now.items ++ t.0 =
    c.append.ensures.items ∙ ap (λ l. l ++ c.deref.result.now) c.reserve-else-is_err.ensures.items ∙ ap (λ l. c.args.out.now.items ++ l) (c.deref.ensures.value ∙ same) in
    let more =
    told_more list c.reserve.new.self.items c.push_reserved.new.self.items c.looked.result call c.push_reserved.ensures.items c.reserve.ensures.items
    (c.looked.ensures ∙ ap (λ f. Looking port f seen c.packet-seen.new.out.items) c.in-Ok.ensures.items ∙ ap (λ b. Looking port frame seen b) same) in
    record {
      meets = (
        t.0,
        appended,
        packets_meant port frame seen t.0 s c.packet-seen.new.self.switch 0 (Some (calls_of list)) (Some (calls_of c.push_reserved.new.self.items)) c.packet-seen.ensures.kept t.2
            (told seen NoMemory call (calls_of list) (calls_of c.push_reserved.new.self.items) c.in_default-seen.not-NoMemory more),
      );
      just = (t.0, appended, t.2);
      kept = c.packet-seen.ensures.kept;
    }
