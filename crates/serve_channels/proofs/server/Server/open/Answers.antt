use Rattle.std.proofs.Common.{◌≡◌, ◌∷◌, [], List, false, refl, subst, sym, ◌∙◌}
use Rattle.maple_io.specs.declared.act.Act.{Act}
use Rattle.machine_steps.specs.declared.entry.Entry.TheVariants as entries
use Rattle.machine_steps.specs.Machine.{was_opened as was_session}
use Rattle.serve_channels.specs.declared.server.Server.{Server}
use Rattle.serve_channels.specs.Keeping.{Are, GoesFrom, IsBegun}
use Rattle.serve_channels.specs.Servers.{IsGap}
use Rattle.serve_channels.proofs.Kept.{same_but}
use Rattle.serve_channels.proofs.Opening.{open_goes}
use Rattle.serve_channels.proofs.server.Server.open.Goals as goal

pub returns-clause-goes : goal.returns-clause-goes
returns-clause-goes g c =
    let old = c.args.self.now in
    let i = c.new-inbound.result in
    let number = c.new-inbound.ensures.connection in
    let new : Server = record old { desk = c.open.new.self; connections = c.insert.new.self } in
    subst
    (λ n. IsGap c.in-Err.at n old.connections.items → was_session n old.desk.now ≡ false → (log : List Act) → GoesFrom (IsBegun n) (Are (entries.Open n ∷ [])) old log new log)
    number
    (λ gap unused. open_goes c.serving_laws.ensures old new i c.open.new.inbound c.new.result c.law.ensures c.new-inbound.ensures.nothing (c.new.ensures.number ∙ sym number)
    c.new.ensures.rest c.new.ensures.failed unused c.in_ok-open.ensures.ok (c.in_ok-open.ensures.staged unused) (same_but old new refl c.open.ensures.footing)
    c.in-Err.at gap c.in-Ok.ensures.items) c.in-Err.ensures.absent c.requires.unused

pub returns-in_default-insert-clause-same : goal.returns-in_default-insert-clause-same
returns-in_default-insert-clause-same g c =
    let old = c.args.self.now in
    let new : Server = record old { desk = c.open.new.self; connections = c.insert.new.self } in
    same_but old new refl c.open.ensures.footing
