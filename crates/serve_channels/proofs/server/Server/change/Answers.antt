use Rattle.std.proofs.Common.{refl}
use Rattle.machine_steps.specs.declared.entry.Entry.TheVariants as entries
use Rattle.serve_steps.specs.Texts.Ask.{Changes}
use Rattle.serve_channels.proofs.AskedFor.{answered}
use Rattle.serve_channels.proofs.server.Server.change.Goals as goal

pub returns-clause-goes : goal.returns-clause-goes
returns-clause-goes g c =
    let done = c.in_ok-change.ensures.ok in
    answered c.serving_laws.ensures c.args.self.now c.change.new.self c.law.ensures (Changes c.args.update) (entries.Change c.args.update)
    (record { reply = done.reply; asks = done.asks }) (record { asked = refl; own = refl; unheard = refl; about = λ c. refl }) refl
