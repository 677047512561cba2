use Rattle.std.proofs.Common.{◌∷◌, [], List, refl, subst}
use Rattle.std.proofs.lemmas.Option.{slice_get_within}
use Rattle.std.proofs.lemmas.Result.{on_ok_weaker}
use Rattle.maple_io.specs.declared.act.Act.{Act}
use Rattle.machine_steps.specs.declared.entry.Entry.TheVariants as entries
use Rattle.machine_desk.proofs.Tended.{same_by}
use Rattle.serve_channels.specs.declared.server.Server.{Server}
use Rattle.serve_channels.specs.Delivering.{Leaves}
use Rattle.serve_channels.specs.Keeping.{Are, Goes}
use Rattle.serve_channels.proofs.Kept.{number_there}
use Rattle.serve_channels.proofs.Leaving.{leaves_goes, missing_goes}
use Rattle.serve_channels.proofs.Others.{lawful}
use Rattle.serve_channels.proofs.server.Server.end.Goals as goal
use Rattle.serve_channels.specs.Servers.{home}

pub returns-in_default-clause-goes : goal.returns-in_default-clause-goes
returns-in_default-clause-goes g c =
    let old = c.args.self.now in
    let new : Server = record old { desk = c.enter.new.self } in
    missing_goes c.serving_laws.ensures c.args.number c.args.fault c.in_ok-enter.field-0 old new (lawful c.law.ensures) (same_by home old new refl c.enter.ensures.footing)
    c.in_default.ensures refl c.in_ok-enter.ensures.ok

pub returns-in_default-clause-same : goal.returns-in_default-clause-same
returns-in_default-clause-same g c =
    let old = c.args.self.now in
    let new : Server = record old { desk = c.enter.new.self } in
    same_by home old new refl c.enter.ensures.footing

pub leave-requires : goal.leave-requires
leave-requires g c =
    let is = c.in-Some.ensures in
    record { within = slice_get_within c.args.self.now.connections.items c.in-Some.at is.connection is.there }

pub returns-clause-goes : goal.returns-clause-goes
returns-clause-goes g c =
    let old = c.args.self.now in
    let new = c.leave.new.self in
    on_ok_weaker c.leave.result
    (λ (h : Leaves c.in-Some.at c.args.fault old new). subst (λ n. (log : List Act) → Goes (Are (entries.Gone n c.args.fault ∷ [])) old log new log)
    (number_there c.in-Some.at c.args.number h.connection old.connections.items h.there c.in-Some.ensures)
    (leaves_goes h c.serving_laws.ensures (lawful c.law.ensures) c.leave.ensures.same)) c.leave.ensures.leaves
