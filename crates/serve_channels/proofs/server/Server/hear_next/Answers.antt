use Rattle.std.proofs.Common.{subst}
use Rattle.machine_desk.specs.Hearing.{Comes}
use Rattle.machine_desk.proofs.Tended.{same_then}
use Rattle.serve_channels.proofs.Coming.{crew_stays, has_crew, nothing_at, numbers_behind, room_there, source_numbers, source_same, told_at}
use Rattle.serve_channels.proofs.Numbered.{numbers_of, numbers_same, numbers_then}
use Rattle.serve_channels.proofs.server.Server.hear_next.Goals as goal
use Rattle.serve_channels.specs.Servers.{home}

pub returns-in_default-clause-hears : goal.returns-in_default-clause-hears
returns-in_default-clause-hears g c =
    nothing_at c.args.at c.args.self.now c.index_mut.result.now c.next.new.self c.requires.within c.index_mut.ensures.value
    (subst (λ o. Comes o c.index_mut.result.now.inbound c.next.new.self) c.in_default.is c.in_ok-input.ensures.comes)

pub make_room_for-requires : goal.make_room_for-requires
make_room_for-requires g c = record { crew = has_crew c.args.self.now c.requires.serving }

pub hear_input-requires-clause-room : goal.hear_input-requires-clause-room
hear_input-requires-clause-room g c =
    room_there c.args.at c.args.self.now c.index_mut.result.now c.next.new.self c.requires.within c.index_mut.ensures.value c.requires.serving
    c.make_room_for.new.self c.in-Some.input c.in_ok-make_room_for.ensures.room

pub returns-clause-hears : goal.returns-clause-hears
returns-clause-hears g c =
    told_at c.args.at c.args.self.now c.index_mut.result.now c.next.new.self c.requires.within c.index_mut.ensures.value
    c.serving_laws.ensures c.law.ensures c.requires.serving c.make_room_for.new.self c.hear_input.new.self c.follow.new.self
    c.in-Some.input c.in_ok-heard.heard (subst (λ o. Comes o c.index_mut.result.now.inbound c.next.new.self) c.in-Some.is c.in_ok-input.ensures.comes)
    c.in_ok-make_room_for.ensures.room c.in_ok-heard.ensures.hears c.hear_input.ensures.same c.of-came.result c.of-came.ensures c.in_ok-follow.ensures.follows

pub returns-in_err-input-clause-numbers : goal.returns-in_err-input-clause-numbers
returns-in_err-input-clause-numbers g c =
    source_numbers c.args.at c.args.self.now c.index_mut.result.now c.next.new.self c.requires.within c.index_mut.ensures.value c.in_err-input.ensures.memory.session

pub returns-in_default-clause-numbers : goal.returns-in_default-clause-numbers
returns-in_default-clause-numbers g c =
    source_numbers c.args.at c.args.self.now c.index_mut.result.now c.next.new.self c.requires.within c.index_mut.ensures.value c.in_ok-input.ensures.comes.1

pub returns-in_err-make_room_for-clause-numbers : goal.returns-in_err-make_room_for-clause-numbers
returns-in_err-make_room_for-clause-numbers g c =
    let room = c.make_room_for.new.self in
    numbers_behind c.args.at c.args.self.now c.index_mut.result.now c.next.new.self c.requires.within c.index_mut.ensures.value room room
    c.in_ok-input.ensures.comes.1 c.make_room_for.ensures.connections (numbers_same room)

pub returns-in_err-heard-clause-numbers : goal.returns-in_err-heard-clause-numbers
returns-in_err-heard-clause-numbers g c =
    numbers_behind c.args.at c.args.self.now c.index_mut.result.now c.next.new.self c.requires.within c.index_mut.ensures.value c.make_room_for.new.self
    c.hear_input.new.self c.in_ok-input.ensures.comes.1 c.make_room_for.ensures.connections c.hear_input.ensures.numbers

pub returns-in_err-follow-clause-numbers : goal.returns-in_err-follow-clause-numbers
returns-in_err-follow-clause-numbers g c =
    let room = c.make_room_for.new.self in
    let mid = c.hear_input.new.self in
    let new = c.follow.new.self in
    numbers_behind c.args.at c.args.self.now c.index_mut.result.now c.next.new.self c.requires.within c.index_mut.ensures.value room new
    c.in_ok-input.ensures.comes.1 c.make_room_for.ensures.connections (numbers_then room mid new c.hear_input.ensures.numbers (numbers_of mid new c.follow.ensures.connections))

pub returns-clause-numbers : goal.returns-clause-numbers
returns-clause-numbers g c =
    let room = c.make_room_for.new.self in
    let mid = c.hear_input.new.self in
    let new = c.follow.new.self in
    numbers_behind c.args.at c.args.self.now c.index_mut.result.now c.next.new.self c.requires.within c.index_mut.ensures.value room new
    c.in_ok-input.ensures.comes.1 c.make_room_for.ensures.connections (numbers_then room mid new c.hear_input.ensures.numbers (numbers_of mid new c.follow.ensures.connections))

pub returns-in_err-follow-clause-same : goal.returns-in_err-follow-clause-same
returns-in_err-follow-clause-same g c =
    let room = c.make_room_for.new.self in
    let mid = c.hear_input.new.self in
    let new = c.follow.new.self in
    same_then home (source_same c.args.at c.args.self.now c.index_mut.result.now c.next.new.self c.requires.within c.index_mut.ensures.value)
    (same_then home c.make_room_for.ensures.same (same_then home c.hear_input.ensures.same c.follow.ensures.same))

pub returns-clause-same : goal.returns-clause-same
returns-clause-same g c =
    let room = c.make_room_for.new.self in
    let mid = c.hear_input.new.self in
    let new = c.follow.new.self in
    same_then home (source_same c.args.at c.args.self.now c.index_mut.result.now c.next.new.self c.requires.within c.index_mut.ensures.value)
    (same_then home c.make_room_for.ensures.same (same_then home c.hear_input.ensures.same c.follow.ensures.same))

pub follow-requires : goal.follow-requires
follow-requires g c = record {
  crew =
      crew_stays c.make_room_for.new.self c.hear_input.new.self c.hear_input.ensures.same
      (crew_stays _ c.make_room_for.new.self c.make_room_for.ensures.same (has_crew c.args.self.now c.requires.serving));
}
