use Rattle.switch_session.specs.Laws.{AimLaw}
use Rattle.switch_session.proofs.Settled.{settled_law}
use Rattle.switch_session.proofs.laws.session_laws.Goals as goal

aims : AimLaw
aims s update good = record {
  put_in = λ m. record { live = good.live; prepared = good.prepared };
  taken_out = record { live = good.live; prepared = good.prepared };
}

pub returns-clause-aims : goal.returns-clause-aims
returns-clause-aims c = aims

pub returns-clause-settled : goal.returns-clause-settled
returns-clause-settled c = settled_law c.shield_laws.ensures.shield
