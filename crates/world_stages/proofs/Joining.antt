-- A switch greets, and tells its number: its session is accepted.
use Rattle.std.proofs.Common.{◌≡◌, ℕ, false, List, [], ◌∷◌, refl, sym, ap, subst, subst₂, inl, inr, arith}
use Rattle.std.specs.List.{AllByRecursion}
use Rattle.of10_codec.specs.declared.message.Message.{Message}
use Rattle.device_port.specs.Switches.{IsFreeBody}
use Rattle.update_plan.specs.Batches.{no_rules}
use Rattle.switch_session.specs.declared.told.Phase.TheVariants.{Second}
use Rattle.switch_session.specs.Lists.{Lists}
use Rattle.switch_session.specs.Parts.{Update, features_request}
use Rattle.switch_session.specs.Sessions.{accepted, put}
use Rattle.switch_session.specs.Calls.{is_live as is_live_phase}
use Rattle.machine_steps.specs.Machine.{Session, State, is_live, state_number}
use Rattle.machine_steps.specs.Sound.{IsEarly}
use Rattle.machine_moves.specs.Moves.{Greets, IsAccepted, named}
use Rattle.world_steps.specs.Worlds.{Link}
use Rattle.world_steps.specs.Since.{Marks}
use Rattle.world_stages.specs.Flights.{back_of, TellsNumber}
use Rattle.world_stages.specs.FlightLaws.{heard}
use Rattle.world_stages.specs.Backed.{IsBacked, IsBackedSince}
use Rattle.world_stages.specs.Stages.{AreSpanned, IsInStage, IsAimed}
use Rattle.world_stages.specs.Updates.{CanBeAccepted, HasAccepted}
use Rattle.world_stages.proofs.Premises.{LowerLaws}
use Rattle.world_stages.proofs.Backing.{none_backed}
use Rattle.world_stages.proofs.Arriving.{Comes, behind, base_early, aimed_early}
use Rattle.world_stages.proofs.Leading.{IsReady}
use Rattle.world_stages.proofs.TurnHearing.{IsHeardAt, sends, hears_other, silent_early}

module _ (laws : LowerLaws) (old new : State) (marks : Marks) (s : Session) (l : Link) (ready : IsReady old marks s l) (x : Message) where
  -- ahead of the live phase no signal comes
  hears_early : is_live s ≡ false → (later : List Message) → back_of l ≡ x ∷ later → IsReady old marks s (heard l)
  hears_early early later first = hears_other laws old marks s l ready x later first (silent_early laws old marks s l ready x later first early)

  -- ---- it greets

  abbrev greeted : Session
  greeted = record (put features_request s) { phase = Second }

  asks : (k : Link) → is_live s ≡ false → IsReady old marks s k → Comes old new marks s k greeted
  asks k early r headed =
      let h = (sends laws old marks s k r (features_request ∷ []) (record { no_change = refl; no_barrier = refl }, tt)).linked in
      let n = h.numbered in
      let g = h.early early in
      record {
        numbered = record { taken = n.taken; pending = n.pending; to = n.to; outbox = n.outbox; back = n.back };
        tells = h.tells;
        live = λ live. absurd (cc);
        early = λ e. record { way = record { line = g.way.line; back = g.way.back }; to_come = g.to_come };
      }

  pub greets : (t : Session) (k : Link) → Greets x s t → IsHeardAt x l k → Comes old new marks s k t
  greets t k g heard_so = subst (Comes old new marks s k) (sym g.now_is) (asks k early (at heard_so))
    where
      early : is_live s ≡ false
      early = ap is_live_phase g.early

      at : IsHeardAt x l k → IsReady old marks s k
      at (inl (later, first, is)) = subst (IsReady old marks s) (sym is) (hears_early early later first)
      at (inr (free, is)) = subst (IsReady old marks s) (sym is) ready

  -- ---- it is accepted

  module _ (known : IsEarly old s) (early : is_live s ≡ false) (dpid : ℕ) (at_switch : dpid ≡ l.switch.dpid) (r : IsReady old marks s (heard l)) (update : Update) (a : HasAccepted (named dpid s) update (heard l)) where
    abbrev joined : Session
    joined = accepted update (named dpid s)

    abbrev then : Marks
    then = behind old new marks s joined

    base_is : then.base ≡ state_number new
    base_is = base_early old new marks s joined known.under_way early

    aimed_is : then.aimed ≡ state_number new
    aimed_is = aimed_early old new marks s joined early

    since_now : IsBackedSince new then.base dpid no_rules
    since_now = let is = base_is in record { state = state_number new; since_then = omega arith; until_now = omega arith; backed = none_backed new dpid }

    spanned : AreSpanned new then.base dpid a.part
    spanned = record {
      from = subst (λ (ls : Lists). IsBackedSince new then.base dpid ls.from) (sym a.lists) since_now;
      to = subst (λ (ls : Lists). IsBackedSince new then.base dpid ls.to) (sym a.lists) since_now;
    }

    aimed_now : IsAimed new then joined
    aimed_now =
        let base = base_is in
        let aim = aimed_is in
        record {
          base = omega arith;
          until_now = omega arith;
          backed = subst (λ n. IsBacked new n dpid joined.target) (sym aim) (subst (IsBacked new (state_number new) dpid) (sym a.stage.target) (none_backed new dpid));
          fresh = λ f. aim;
        }

    joins : Comes old new marks s (heard l) joined
    joins headed = record {
      numbered = a.numbered;
      tells = r.linked.tells;
      live = λ live. record {
        dpid = sym at_switch;
        stage = subst (λ o. IsInStage o new then joined (heard l)) (sym a.under) (spanned, inl a.stage);
        next = a.next;
        hushed = λ q. (let noisy = a.stage.quiet in absurd (cc));
        aimed = λ q. aimed_now;
      };
      early = λ e. absurd (cc);
    }

  pub accepts : (is_live s ≡ false → IsEarly old s) → (t : Session) (k : Link) → IsAccepted x new s t → IsHeardAt x l k → Comes old new marks s k t
  accepts order t k a (inr (free, is)) = absurd (subst (IsFreeBody x.xid) a.told free)
  accepts order t k a (inl (later, first, is)) =
      let known = order early in
      let r = hears_early early later first in
      let n = r.linked.numbered in
      let g = r.linked.early early in
      let can : CanBeAccepted (named a.dpid s) (heard l) = record {
        ready = known.ready;
        quiet = known.quiet;
        target = known.target;
        clear = record { line = g.way.line; back = g.way.back };
        numbered = record { taken = n.taken; pending = n.pending; to = n.to; outbox = n.outbox; back = n.back };
      } in
      subst₂ (λ h u. Comes old new marks s h u) (sym is) (sym a.accepts.now_is)
      (joins known early a.dpid told r a.accepts.update (laws.accepted (named a.dpid s) (heard l) a.rules a.accepts.update can a.accepts.is_update))
    where
      early : is_live s ≡ false
      early = ap is_live_phase a.second

      told : a.dpid ≡ l.switch.dpid
      told = subst (TellsNumber l.switch.dpid) a.told (subst (AllByRecursion (λ (m : Message). TellsNumber l.switch.dpid m.body)) first ready.linked.tells).0
