-- What the reply to what a session heard tells: an end isn't one of its link.
use Rattle.std.proofs.Common.{◌≡◌, ℕ, Bool, true, false, refl, ap, ◌∙◌, ⊎_elim}
use Rattle.of10_codec.specs.declared.message.Body.{Body}
use Rattle.of10_codec.specs.declared.message.Message.{Message}
use Rattle.switch_session.specs.declared.told.End.{End}
use Rattle.switch_session.specs.declared.told.End.TheVariants.{LinkEnd, LinkFault}
use Rattle.switch_session.specs.declared.told.Heard.{Heard}
use Rattle.switch_session.specs.declared.told.Heard.TheVariants as heard
use Rattle.machine_steps.proofs.Messages.{made_of}
use Rattle.machine_steps.specs.declared.entry.Entry.TheVariants as entries
use Rattle.machine_steps.specs.declared.entry.Input.{Input}
use Rattle.machine_steps.specs.declared.entry.Input.TheVariants.{Message as Whole, Bad}
use Rattle.machine_steps.specs.declared.reply.Reply.{Reply}
use Rattle.machine_steps.specs.declared.reply.Reply.TheVariants.{Ended}
use Rattle.machine_steps.specs.Machine.{Session, State}
use Rattle.machine_steps.specs.Messages.{Makes}
use Rattle.machine_steps.specs.Messages.Makes.{PassesOver, RefusesVersion, Greets, Echoes, IsNamed, BringsPacket, BringsPort, ComesEarly, LacksNumbers, Acknowledges, RefusesClearing, BreaksOff, IsRefused}
use Rattle.machine_steps.specs.Steps.{HearsOf, Steps}
use Rattle.serve_steps.specs.Deeds.{tells_link_end}

-- ---- what a session makes of a message

abbrev is_link : End → Bool
is_link LinkEnd = true
is_link LinkFault = true
is_link end = false

abbrev ends_link : Heard → Bool
ends_link (heard.Ended end) = is_link end
ends_link h = false

module _ (xid : ℕ) (b : Body) (s : Session) where
  made : {h : Heard} {t : Session} → Makes xid b s h t → ends_link h ≡ false
  made (BringsPacket is live) = refl
  made (PassesOver may) = refl
  made (RefusesVersion is first) = refl
  made (Greets is first) = refl
  made (Echoes is other) = refl
  made (IsNamed is second) = refl
  made (BringsPort is live) = refl
  made (ComesEarly is awaited early) = refl
  made (LacksNumbers is to over) = refl
  made (Acknowledges is to within) = refl
  made (RefusesClearing is batch clearing) = refl
  made (BreaksOff is change loud) = refl
  made (IsRefused is why) = refl

-- ---- the reply

link_told : (end : End) → tells_link_end (Ended end) ≡ is_link end
link_told LinkEnd = refl
link_told LinkFault = refl
link_told end = refl

module _ (m : Message) (t : Session) (old : State) (reply : Reply) (new : State) where
  told_by : (h : Heard) → ends_link h ≡ false → HearsOf m t h old reply new → tells_link_end reply ≡ false
  told_by heard.Passed is (r, e) = ap tells_link_end r
  told_by (heard.Features dpid ports) is h =
      ⊎_elim (λ x. ap tells_link_end x.1) (λ more. ⊎_elim (λ x. ap tells_link_end x.2) (λ x. ap tells_link_end x.2) more) h
  told_by (heard.PacketIn buffer in_port frame) is h =
      ⊎_elim
      (λ x. ap tells_link_end x.2) (λ two. ⊎_elim (λ x. ap tells_link_end x.3) (λ three. ⊎_elim
      (λ x. ap tells_link_end x.6) (λ x. ap tells_link_end x.6)
      three)
      two)
      h
  told_by (heard.Port port up) is h =
      ⊎_elim (λ x. ap tells_link_end x.1) (λ more. ⊎_elim (λ x. ap tells_link_end x.2) (λ x. ap tells_link_end x.0) more) h
  told_by (heard.Acknowledged true) is (r, e) = ap tells_link_end r
  told_by (heard.Acknowledged false) is (r, e) = ap tells_link_end r
  told_by (heard.Refused kind code true) is (r, e) = ap tells_link_end r
  told_by (heard.Refused kind code false) is (r, e) = ap tells_link_end r
  told_by (heard.Ended end) is (r, e) = ap tells_link_end r ∙ link_told end ∙ is

pub unlinked : (c : ℕ) (input : Input) (old : State) (reply : Reply) (new : State) → Steps old (entries.Heard c input) reply new → tells_link_end reply ≡ false
unlinked c (Bad place bad) old reply new steps = ⊎_elim (λ x. ap tells_link_end x.1.0) (λ x. ap tells_link_end x.2) steps
unlinked c (Whole m) old reply new steps =
    ⊎_elim
    (λ x. ap tells_link_end x.1.0) (λ more. ⊎_elim (λ x. ⊎_elim
    (λ does. told_by m x.behind old reply new x.heard (made m.xid m.body x.session (made_of m.xid x.session x.heard x.behind m.body x.hears)) does)
    (λ lacks. ap tells_link_end lacks.1.0)
    x.does) (λ x. ap tells_link_end x.lacks.0)
    more)
    steps
