use Rattle.std.proofs.Common.{refl}
use Rattle.machine_steps.specs.declared.entry.Entry.TheVariants as entries
use Rattle.serve_steps.specs.Texts.Ask.{ReadsRules}
use Rattle.serve_channels.proofs.AskedFor.{answered}
use Rattle.serve_channels.proofs.server.Server.list_rules.Goals as goal

pub returns-clause-goes : goal.returns-clause-goes
returns-clause-goes g c =
    answered c.serving_laws.ensures c.args.self.now c.list_rules.new.self c.law.ensures (ReadsRules c.args.switch) (entries.ReadRules c.args.switch)
    c.in_ok-list_rules.ensures.ok (record { asked = refl; own = refl; unheard = refl; about = λ c. refl }) refl
