use Rattle.std.proofs.Common.{refl, ap}
use Rattle.machine_steps.specs.declared.entry.Entry.TheVariants as entries
use Rattle.machine_steps.specs.declared.note.Note.TheVariants as notes
use Rattle.serve_steps.specs.Texts.Ask.{Refuses}
use Rattle.serve_channels.proofs.AskedFor.{answered}
use Rattle.serve_channels.proofs.server.Server.refuse.Goals as goal

pub returns-clause-goes : goal.returns-clause-goes
returns-clause-goes g c =
    answered c.serving_laws.ensures c.args.self.now c.ask.new.self c.law.ensures (Refuses c.args.line c.args.kind) (entries.Note (notes.LineRefused c.args.line c.number-kind.result))
    (record { reply = c.in_ok-ask.field-0; asks = c.in_ok-ask.ensures.ok }) (record { asked = refl; own = refl; unheard = refl; about = λ c. refl })
    (ap (λ kind. entries.Note (notes.LineRefused c.args.line kind)) c.number-kind.ensures)
