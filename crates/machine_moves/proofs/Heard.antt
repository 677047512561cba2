-- What a session makes of a message: it stays of its connection, and open where the message doesn't end it.
use Rattle.std.proofs.Common.{◌≡◌, ℕ, Bool, true, false, List, [], ◌∷◌, refl, ap, ◌∙◌}
use Rattle.std.specs.Prelude.{not, Option, Some, None, Ok}
use Rattle.of10_codec.specs.declared.message.Body.{Body}
use Rattle.switch_session.specs.declared.part.Part.{Part}
use Rattle.switch_session.specs.declared.part.UnderWay.{UnderWay}
use Rattle.switch_session.specs.declared.told.Heard.{Heard}
use Rattle.switch_session.specs.declared.told.Heard.TheVariants as heard
use Rattle.switch_session.specs.Calls.{HearsBody, acknowledged_by, acknowledged_now}
use Rattle.switch_session.specs.Lists.{Lists}
use Rattle.switch_session.specs.Parts.{Update}
use Rattle.switch_session.specs.Sessions.{next_starts, onward}
use Rattle.machine_steps.specs.Machine.{Session, has_ended, is_open}
use Rattle.machine_steps.specs.Messages.{Makes}
use Rattle.machine_steps.specs.Messages.Makes.{PassesOver, RefusesVersion, Greets, Echoes, IsNamed, BringsPacket, BringsPort, ComesEarly, LacksNumbers, Acknowledges, RefusesClearing, BreaksOff, IsRefused}
use Rattle.machine_steps.proofs.Messages.{made_of}
use Rattle.machine_steps.proofs.Sound.Aims.{leaves_moved}
use Rattle.machine_steps.proofs.Sound.Moves.{breaks_so}

-- ---- the reply to a barrier

-- of the same connection, and as far as before
abbrev Alike : Session → Session → Type 0
Alike s t = (t.connection ≡ s.connection) × (t.phase ≡ s.phase)

starts_alike : (later : Option Update) (s : Session) → Alike s (next_starts later s)
starts_alike None s = (refl, refl)
starts_alike (Some update) s = let m = leaves_moved (record { from = s.target; to = update.rules }) update.parts (record s { target = update.rules; next = None }) in (m.connection, m.phase)

onward_alike : (lists : Lists) (parts : List Part) (s : Session) → Alike s (onward lists parts s)
onward_alike lists [] s = starts_alike s.next s
onward_alike lists (part ∷ parts) s = (refl, refl)

acknowledged_alike : (s : Session) → Alike s (acknowledged_now s)
acknowledged_alike s = go s.under_way
  where
    go : (part : Option UnderWay) → Alike s (acknowledged_by part s)
    go None = (refl, refl)
    go (Some part) = onward_alike part.lists s.to_come (record s { ready = true; under_way = None; prepared = None })

-- ---- any message

abbrev pub ends_session : Heard → Bool
ends_session (heard.Ended end) = true
ends_session v = false

pub record Becomes (s : Session) (v : Heard) (t : Session) : Type 0 where
  pub connection : t.connection ≡ s.connection
  pub open_now : is_open t ≡ not (ends_session v)

module _ (s : Session) (opened : is_open s ≡ true) (xid : ℕ) (b : Body) where
  made : {v : Heard} {t : Session} → Makes xid b s v t → Becomes s v t
  made (PassesOver may) = record { connection = refl; open_now = opened }
  made (RefusesVersion is first) = record { connection = refl; open_now = refl }
  made (Greets is first) = record { connection = refl; open_now = refl }
  made (Echoes is other) = record { connection = refl; open_now = opened }
  made (IsNamed is second) = record { connection = refl; open_now = opened }
  made (BringsPacket is live) = record { connection = refl; open_now = opened }
  made (BringsPort is live) = record { connection = refl; open_now = opened }
  made (ComesEarly is awaited early) = record { connection = refl; open_now = refl }
  made (LacksNumbers is to over) = record { connection = refl; open_now = refl }
  made (Acknowledges is to within) = (let a = acknowledged_alike s in record { connection = a.0; open_now = ap (λ q. not (has_ended q)) a.1 ∙ opened })
  made (RefusesClearing is batch clearing) = record { connection = refl; open_now = refl }
  made (BreaksOff is change loud) = (let a = breaks_so s in record { connection = a.connection; open_now = ap (λ q. not (has_ended q)) a.phase ∙ opened })
  made (IsRefused is why) = record { connection = refl; open_now = opened }

  pub becomes : (v : Heard) (t : Session) → HearsBody xid b s (Ok v) t → Becomes s v t
  becomes v t h = made (made_of xid s v t b h)
