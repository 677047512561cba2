use Rattle.std.proofs.Common.{◌≡◌, ◌++◌, ◌∷◌, [], List, IfSome, ℕ, length, map, ap, ap₂, ◌∙◌, subst, arith}
use Rattle.std.specs.List.{slice_get}
use Rattle.switch_session.specs.declared.told.Heard.TheVariants as heard
use Rattle.report_text.specs.declared.line.Line.{Line}
use Rattle.report_text.specs.declared.line.Line.TheVariants as lines
use Rattle.machine_parts.specs.declared.connection.Connection.{Connection}
use Rattle.machine_steps.specs.Machine.{Session}
use Rattle.machine_parts.specs.Sessions.{session_of, due_all}
use Rattle.machine_steps.specs.Steps.{switch_of, error_lines}
use Rattle.core_machine.proofs.Hearing.{has_heard, back, on_err, within_after, same_after, lacks_there, room_there, passed_there, ready_room, ready_left, ready_there, quiet_there, listed_there, refused_there, no_room_there, ended_there, can_change, port_there, sound_there, small_there, packet_heard, packet_lacks, joins_there, few_there, joined_there}
use Rattle.core_machine.proofs.messages.hear_at.Goals as goal

pub invariant_of-parts : goal.invariant_of-parts
invariant_of-parts c =
    record { aims = c.hear_in.ensures.idle c.parts.invariant.aims; room = omega (arith, ap due_all (same_after c.in_err-heard.ensures.heard), c.parts.invariant.room) }

pub returns-in_err-heard-clause-lacks : goal.returns-in_err-heard-clause-lacks
returns-in_err-heard-clause-lacks c =
    on_err c.from_residual.result _ (lacks_there c.parts.view_is c.requires.at c.in_err-heard.ensures.heard)

pub switch_at-switch-requires : goal.switch_at-switch-requires
switch_at-switch-requires c =
    record { at = omega (arith, within_after c.hear_in.new.sessions.items c.hear_in.ensures.heard, ap length c.deref.ensures.value) }

pub invariant_of-parts-in-Passed : goal.invariant_of-parts-in-Passed
invariant_of-parts-in-Passed c =
    let f = has_heard c.parts.view_is c.requires.at c.requires.sound c.in-Passed.is c.in_ok-heard.ensures.heard in
    record { aims = c.hear_in.ensures.idle c.parts.invariant.aims; room = omega (arith, room_there f, c.parts.invariant.room) }

pub invariant_of-parts-in-Features : goal.invariant_of-parts-in-Features
invariant_of-parts-in-Features c =
    let f = has_heard c.parts.view_is c.requires.at c.requires.sound c.in-Features.is c.in_ok-heard.ensures.heard in
    record { aims = c.hear_in.ensures.idle c.parts.invariant.aims; room = omega (arith, room_there f, c.parts.invariant.room) }

pub invariant_of-parts-in-Port : goal.invariant_of-parts-in-Port
invariant_of-parts-in-Port c =
    let f = has_heard c.parts.view_is c.requires.at c.requires.sound c.in-Port.is c.in_ok-heard.ensures.heard in
    record { aims = c.hear_in.ensures.idle c.parts.invariant.aims; room = omega (arith, room_there f, c.parts.invariant.room) }

pub returns-in-Passed-clause-hears : goal.returns-in-Passed-clause-hears
returns-in-Passed-clause-hears c =
    let f = has_heard c.parts.view_is c.requires.at c.requires.sound c.in-Passed.is c.in_ok-heard.ensures.heard in
    back c.parts.view_is (passed_there f)

pub join-requires-clause-joins : goal.join-requires-clause-joins
join-requires-clause-joins c =
    let f = has_heard c.parts.view_is c.requires.at c.requires.sound c.in-Features.is c.in_ok-heard.ensures.heard in
    joins_there f

pub join-requires-clause-few : goal.join-requires-clause-few
join-requires-clause-few c =
    let f = has_heard c.parts.view_is c.requires.at c.requires.sound c.in-Features.is c.in_ok-heard.ensures.heard in
    few_there f c.requires.heard

pub returns-in-Features-clause-hears : goal.returns-in-Features-clause-hears
returns-in-Features-clause-hears c =
    let f = has_heard c.parts.view_is c.requires.at c.requires.sound c.in-Features.is c.in_ok-heard.ensures.heard in
    back c.parts.view_is (joined_there f c.join.ensures)

pub change-requires-clause-can : goal.change-requires-clause-can
change-requires-clause-can c =
    let f = has_heard c.parts.view_is c.requires.at c.requires.sound c.in-Port.is c.in_ok-heard.ensures.heard in
    can_change f

pub returns-in-Port-clause-hears : goal.returns-in-Port-clause-hears
returns-in-Port-clause-hears c =
    let f = has_heard c.parts.view_is c.requires.at c.requires.sound c.in-Port.is c.in_ok-heard.ensures.heard in
    let k = subst (λ (cs : List Connection). IfSome (slice_get (map session_of cs) c.args.at) (λ (s : Session). c.switch_at-switch.result ≡ switch_of s)) c.deref.ensures.value c.switch_at-switch.ensures in
    back c.parts.view_is (port_there f c.switch_at-switch.result k c.change.ensures)

pub invariant_of-parts-in-PacketIn : goal.invariant_of-parts-in-PacketIn
invariant_of-parts-in-PacketIn c =
    let f = has_heard c.parts.view_is c.requires.at c.requires.sound c.in-PacketIn.is c.in_ok-heard.ensures.heard in
    record { aims = c.hear_in.ensures.idle c.parts.invariant.aims; room = omega (arith, room_there f, c.parts.invariant.room) }

pub hear_packet-requires-clause-sound : goal.hear_packet-requires-clause-sound
hear_packet-requires-clause-sound c =
    let f = has_heard c.parts.view_is c.requires.at c.requires.sound c.in-PacketIn.is c.in_ok-heard.ensures.heard in
    sound_there f

pub hear_packet-requires-clause-small : goal.hear_packet-requires-clause-small
hear_packet-requires-clause-small c =
    let f = has_heard c.parts.view_is c.requires.at c.requires.sound c.in-PacketIn.is c.in_ok-heard.ensures.heard in
    small_there f c.requires.heard

pub returns-in-PacketIn-clause-hears : goal.returns-in-PacketIn-clause-hears
returns-in-PacketIn-clause-hears c =
    let f = has_heard c.parts.view_is c.requires.at c.requires.sound c.in-PacketIn.is c.in_ok-heard.ensures.heard in
    let k = subst (λ (cs : List Connection). IfSome (slice_get (map session_of cs) c.args.at) (λ (s : Session). c.switch_at-switch.result ≡ switch_of s)) c.deref.ensures.value c.switch_at-switch.ensures in
    packet_heard f c.switch_at-switch.result c.hear_packet.new.parts c.parts.view_is k c.hear_packet.result c.hear_packet.ensures.heard

pub returns-in-PacketIn-clause-lacks : goal.returns-in-PacketIn-clause-lacks
returns-in-PacketIn-clause-lacks c =
    let f = has_heard c.parts.view_is c.requires.at c.requires.sound c.in-PacketIn.is c.in_ok-heard.ensures.heard in
    packet_lacks f c.hear_packet.new.parts c.parts.view_is c.hear_packet.result c.hear_packet.ensures.kept

pub tell_ready-requires : goal.tell_ready-requires
tell_ready-requires c =
    let f = has_heard c.parts.view_is c.requires.at c.requires.sound c.in-Acknowledged.is c.in_ok-heard.ensures.heard in
    record { room = ready_room c.in-Acknowledged.ready f _ _ c.parts.invariant.room }

pub invariant_of-parts-in-Acknowledged : goal.invariant_of-parts-in-Acknowledged
invariant_of-parts-in-Acknowledged c =
    let f = has_heard c.parts.view_is c.requires.at c.requires.sound c.in-Acknowledged.is c.in_ok-heard.ensures.heard in
    record { aims = c.hear_in.ensures.idle c.parts.invariant.aims; room = ready_left c.in-Acknowledged.ready f _ _ _ _ c.parts.invariant.room c.tell_ready.ensures.len c.tell_ready.ensures.capacity }

pub returns-in-Acknowledged-clause-hears : goal.returns-in-Acknowledged-clause-hears
returns-in-Acknowledged-clause-hears c =
    let f = has_heard c.parts.view_is c.requires.at c.requires.sound c.in-Acknowledged.is c.in_ok-heard.ensures.heard in
    let k = subst (λ (cs : List Connection). IfSome (slice_get (map session_of cs) c.args.at) (λ (s : Session). c.switch_at-switch.result ≡ switch_of s)) c.deref.ensures.value c.switch_at-switch.ensures in
    back c.parts.view_is (ready_there c.in-Acknowledged.ready f c.switch_at-switch.result k c.tell_ready.ensures.lines)

pub retire-retired-requires : goal.retire-retired-requires
retire-retired-requires c =
    let f = has_heard c.parts.view_is c.requires.at c.requires.sound (c.in-Refused.is ∙ ap (heard.Refused c.in-Refused.kind c.in-Refused.code) c.if-quiet.true) c.in_ok-heard.ensures.heard in
    let k = subst (λ (cs : List Connection). IfSome (slice_get (map session_of cs) c.args.at) (λ (s : Session). c.switch_at-switch.result ≡ switch_of s)) c.deref.ensures.value c.switch_at-switch.ensures in
    record { listed = listed_there f c.switch_at-switch.result k }

pub tell_error-requires : goal.tell_error-requires
tell_error-requires c =
    let f = has_heard c.parts.view_is c.requires.at c.requires.sound (c.in-Refused.is ∙ ap (heard.Refused c.in-Refused.kind c.in-Refused.code) c.if-quiet.true) c.in_ok-heard.ensures.heard in
    omega (arith, room_there f, c.parts.invariant.room)

pub push_reserved-requires : goal.push_reserved-requires
push_reserved-requires c =
    let f = has_heard c.parts.view_is c.requires.at c.requires.sound (c.in-Refused.is ∙ ap (heard.Refused c.in-Refused.kind c.in-Refused.code) c.if-quiet.true) c.in_ok-heard.ensures.heard in
    omega (arith, room_there f, c.parts.invariant.room, c.tell_error.ensures.len, c.tell_error.ensures.capacity)

pub invariant_of-parts-then-quiet : goal.invariant_of-parts-then-quiet
invariant_of-parts-then-quiet c =
    let f = has_heard c.parts.view_is c.requires.at c.requires.sound (c.in-Refused.is ∙ ap (heard.Refused c.in-Refused.kind c.in-Refused.code) c.if-quiet.true) c.in_ok-heard.ensures.heard in
    record { aims = c.hear_in.ensures.idle c.parts.invariant.aims; room = omega (arith, room_there f, c.parts.invariant.room, c.tell_error.ensures.len, c.tell_error.ensures.capacity, c.push_reserved.ensures.len, c.push_reserved.ensures.capacity) }

pub returns-then-quiet-clause-hears : goal.returns-then-quiet-clause-hears
returns-then-quiet-clause-hears c =
    let f = has_heard c.parts.view_is c.requires.at c.requires.sound (c.in-Refused.is ∙ ap (heard.Refused c.in-Refused.kind c.in-Refused.code) c.if-quiet.true) c.in_ok-heard.ensures.heard in
    let k = subst (λ (cs : List Connection). IfSome (slice_get (map session_of cs) c.args.at) (λ (s : Session). c.switch_at-switch.result ≡ switch_of s)) c.deref.ensures.value c.switch_at-switch.ensures in
    let told = c.push_reserved.ensures.items ∙ ap₂ (λ (ls : List Line) (n : ℕ). ls ++ lines.Quiet c.switch_at-switch.result n ∷ []) c.tell_error.ensures.lines c.retire-retired.ensures.told in
    back c.parts.view_is (quiet_there f c.switch_at-switch.result k c.retire-retired.ensures.retired told)

pub invariant_of-parts-in_err-make_room-in-Refused : goal.invariant_of-parts-in_err-make_room-in-Refused
invariant_of-parts-in_err-make_room-in-Refused c =
    let f = has_heard c.parts.view_is c.requires.at c.requires.sound (c.in-Refused.is ∙ ap (heard.Refused c.in-Refused.kind c.in-Refused.code) c.if-quiet.false) c.in_ok-heard.ensures.heard in
    record { aims = c.hear_in.ensures.idle c.parts.invariant.aims; room = omega (arith, room_there f, c.parts.invariant.room, c.make_room.ensures.len, c.make_room.ensures.capacity) }

pub returns-in_err-make_room-in-Refused-clause-lacks : goal.returns-in_err-make_room-in-Refused-clause-lacks
returns-in_err-make_room-in-Refused-clause-lacks c =
    let f = has_heard c.parts.view_is c.requires.at c.requires.sound (c.in-Refused.is ∙ ap (heard.Refused c.in-Refused.kind c.in-Refused.code) c.if-quiet.false) c.in_ok-heard.ensures.heard in
    on_err c.from_residual-in_err-make_room-in-Refused.result _ (no_room_there f c.parts.view_is c.make_room.ensures.items)

pub returns-in_ok-make_room-in-Refused-clause-hears : goal.returns-in_ok-make_room-in-Refused-clause-hears
returns-in_ok-make_room-in-Refused-clause-hears c =
    let f = has_heard c.parts.view_is c.requires.at c.requires.sound (c.in-Refused.is ∙ ap (heard.Refused c.in-Refused.kind c.in-Refused.code) c.if-quiet.false) c.in_ok-heard.ensures.heard in
    let told = c.tell_error-in-Refused.ensures.lines ∙ ap (λ (ls : List Line). ls ++ lines.Error c.args.connection c.in-Refused.kind c.in-Refused.code ∷ []) c.make_room.ensures.items in
    back c.parts.view_is (refused_there f told)

pub close-requires : goal.close-requires
close-requires c =
    let f = has_heard c.parts.view_is c.requires.at c.requires.sound c.in-Ended.is c.in_ok-heard.ensures.heard in
    record { room = omega (arith, room_there f, c.parts.invariant.room) }

pub tell_last_error-requires : goal.tell_last_error-requires
tell_last_error-requires c =
    let f = has_heard c.parts.view_is c.requires.at c.requires.sound c.in-Ended.is c.in_ok-heard.ensures.heard in
    record { room = omega (arith, room_there f, c.parts.invariant.room, c.close.ensures.len, c.close.ensures.capacity) }

pub invariant_of-parts-in-Ended : goal.invariant_of-parts-in-Ended
invariant_of-parts-in-Ended c =
    let f = has_heard c.parts.view_is c.requires.at c.requires.sound c.in-Ended.is c.in_ok-heard.ensures.heard in
    record { aims = c.hear_in.ensures.idle c.parts.invariant.aims; room = omega (arith, room_there f, c.parts.invariant.room, c.close.ensures.len, c.close.ensures.capacity, c.tell_last_error.ensures.len, c.tell_last_error.ensures.capacity) }

pub returns-in-Ended-clause-hears : goal.returns-in-Ended-clause-hears
returns-in-Ended-clause-hears c =
    let f = has_heard c.parts.view_is c.requires.at c.requires.sound c.in-Ended.is c.in_ok-heard.ensures.heard in
    let told = c.tell_last_error.ensures.lines ∙ ap (λ (ls : List Line). ls ++ error_lines c.args.connection c.args.message.now.body) c.close.ensures.lines in
    back c.parts.view_is (ended_there f c.close.ensures.jobs told)
