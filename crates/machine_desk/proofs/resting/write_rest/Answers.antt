use Rattle.std.proofs.Common.{◌≡◌, ℕ, List, subst}
use Rattle.history_lock.specs.Histories.{Calls}
use Rattle.history_lock.specs.Passes.{known}
use Rattle.maple_io.specs.Fronts.{IsFront}
use Rattle.maple_io.specs.Views.{Wrote}
use Rattle.machine_steps.specs.declared.entry.Entry.TheVariants.{TakeReport}
use Rattle.machine_steps.specs.declared.reply.Reply.{Reply}
use Rattle.machine_sharing.specs.Sharing.{Allows, Turns}
use Rattle.machine_desk.proofs.Rested.{rest_failed, rest_lacks, rest_short, rest_whole}
use Rattle.machine_desk.proofs.resting.write_rest.Goals as goal

pub returns-in-Ok-put_all-clause-rest : goal.returns-in-Ok-put_all-clause-rest
returns-in-Ok-put_all-clause-rest g c =
    let old = known c.args.pass.now in
    let new = known c.call.new.pass in
    let from = g.O.Sink.tells c.args.out.now in
    let to = g.O.Sink.tells c.put_all.new.output in
    let stays = c.call.ensures.stays in
    let text : c.items.result.now ≡ c.in-Ok-Lines.text = let a = c.items.ensures in let b = c.text.view_is in cc in
    rest_whole c.desk_laws.ensures old new c.requires.leads stays.1 stays.2 from to c.in-Ok-Lines.text
    (subst (λ (r : Reply). Calls Turns Allows old TakeReport r new) c.in-Ok-Lines.field-0-is c.in-Ok-Lines.ensures.ok)
    (subst (λ (bytes : List ℕ). Wrote from to bytes) text c.in-Ok-put_all.ensures.ok)

pub returns-in-Err-Failed-clause-rest : goal.returns-in-Err-Failed-clause-rest
returns-in-Err-Failed-clause-rest g c =
    let old = known c.args.pass.now in
    let new = known c.call.new.pass in
    let stays = c.call.ensures.stays in
    let front = c.in-Err-Failed.ensures.front in
    let text : c.items.result.now ≡ c.in-Ok-Lines.text = let a = c.items.ensures in let b = c.text.view_is in cc in
    rest_failed c.desk_laws.ensures old new c.requires.leads stays.1 stays.2 (g.O.Sink.tells c.args.out.now) (g.O.Sink.tells c.put_all.new.output)
    c.in-Ok-Lines.text front.0 (subst (λ (r : Reply). Calls Turns Allows old TakeReport r new) c.in-Ok-Lines.field-0-is c.in-Ok-Lines.ensures.ok)
    (subst (λ (bytes : List ℕ). IsFront front.0 bytes) text front.1) front.2 (c.put_all.ensures.cause cc)

pub returns-in-Ok-Lines-clause-rest : goal.returns-in-Ok-Lines-clause-rest
returns-in-Ok-Lines-clause-rest g c =
    let old = known c.args.pass.now in
    let new = known c.call.new.pass in
    let stays = c.call.ensures.stays in
    let front = c.in-Err-NoMemory.ensures.front in
    let text : c.items.result.now ≡ c.in-Ok-Lines.text = let a = c.items.ensures in let b = c.text.view_is in cc in
    rest_short c.desk_laws.ensures old new c.requires.leads stays.1 stays.2 (g.O.Sink.tells c.args.out.now) (g.O.Sink.tells c.put_all.new.output)
    c.in-Ok-Lines.text front.0 (subst (λ (r : Reply). Calls Turns Allows old TakeReport r new) c.in-Ok-Lines.field-0-is c.in-Ok-Lines.ensures.ok)
    (subst (λ (bytes : List ℕ). IsFront front.0 bytes) text front.1) front.2

pub returns-in-Ok-NoMemory-clause-rest : goal.returns-in-Ok-NoMemory-clause-rest
returns-in-Ok-NoMemory-clause-rest g c =
    let old = known c.args.pass.now in
    let new = known c.call.new.pass in
    let stays = c.call.ensures.stays in
    rest_lacks c.desk_laws.ensures old new c.requires.leads stays.1 stays.2 (g.O.Sink.tells c.args.out.now)
    (subst (λ (r : Reply). Calls Turns Allows old TakeReport r new) c.in-Ok-NoMemory.field-0-is c.in-Ok-NoMemory.ensures.ok)
