-- What a message leaves of a session's connection, and of whether it is quiet.
use Rattle.std.proofs.Common.{◌≡◌, ℕ, true, false, refl, ap}
use Rattle.std.specs.Prelude.{not, Option, Some, None, Ok}
use Rattle.of10_codec.specs.declared.message.Body.{Body}
use Rattle.switch_session.specs.declared.part.UnderWay.{UnderWay}
use Rattle.switch_session.specs.declared.told.Heard.{Heard}
use Rattle.switch_session.specs.declared.told.Heard.TheVariants as heard
use Rattle.switch_session.specs.Calls.{is_live as is_live_phase, HearsBody}
use Rattle.switch_session.specs.Sessions.{breaks_off, clears_behind}
use Rattle.update_plan.specs.Batches.{no_rules}
use Rattle.machine_steps.specs.Machine.{Session, State, has_ended, is_live}
use Rattle.machine_steps.specs.Messages.{Makes}
use Rattle.machine_steps.specs.Messages.Makes.{PassesOver, RefusesVersion, Greets, Echoes, IsNamed, BringsPacket, BringsPort, ComesEarly, LacksNumbers, Acknowledges, RefusesClearing, BreaksOff, IsRefused}
use Rattle.machine_steps.specs.Sound.{IsInOrder}
use Rattle.machine_steps.proofs.Messages.{made_of, batch_live}
use Rattle.machine_steps.proofs.Sound.Moves.{acknowledged_now_onward}

-- the first error of a batch breaks a live session off; one that tells its switch isn't quiet; else it stays as it was
abbrev pub IsAsQuiet : Heard → Session → Session → Type 0
IsAsQuiet (heard.Refused kind code true) s t = (t ≡ breaks_off s) × (s.quiet ≡ false) × (is_live s ≡ true)
IsAsQuiet (heard.Features dpid ports) s t = (t.connection ≡ s.connection) × (t.quiet ≡ s.quiet) × (s.quiet ≡ false)
IsAsQuiet x s t = (t.connection ≡ s.connection) × (t.quiet ≡ s.quiet)

module _ (m : State) (s : Session) (o : IsInOrder m s) (xid : ℕ) (b : Body) where
  made : {x : Heard} {t : Session} → Makes xid b s x t → IsAsQuiet x s t
  made (PassesOver may) = (refl, refl)
  made (RefusesVersion is first) = (refl, refl)
  made (Greets is first) = (refl, refl)
  made (Echoes is other) = (refl, refl)
  made (IsNamed is second) = (let early = o.early (ap (λ q. not (has_ended q)) second) (ap is_live_phase second) in (refl, refl, early.quiet))
  made (BringsPacket is live) = (refl, refl)
  made (BringsPort is live) = (refl, refl)
  made (ComesEarly is awaited early) = (refl, refl)
  made (LacksNumbers is to over) = (refl, refl)
  made (Acknowledges is to within) = (let a = acknowledged_now_onward s o.idle in (a.connection, a.quiet))
  made (RefusesClearing is batch clearing) = (refl, refl)
  made (BreaksOff is change loud) = (refl, loud, batch_live xid s change.0)
  made (IsRefused is why) = (refl, refl)

  pub hears_so : (x : Heard) (t : Session) → HearsBody xid b s (Ok x) t → IsAsQuiet x s t
  hears_so x t h = made (made_of xid s x t b h)

-- a session that was broken off is quiet
pub broken_quiet : (s : Session) → (breaks_off s).quiet ≡ true
broken_quiet s = go s.under_way
  where
    go : (part : Option UnderWay) → (clears_behind part s.target (record s { quiet = true; target = no_rules; next = None; prepared = None })).quiet ≡ true
    go None = refl
    go (Some part) = refl
