-- A delivery at a place, put together, and one place after the other.
use Rattle.std.proofs.Common.{◌≡◌, ℕ, ◌+◌, ◌<◌, ◌==◌, Bool, true, List, [], length, get_or, sym, ap, ◌∙◌, subst, inl, inr, ⊎_elim, arith}
use Rattle.std.proofs.lemmas.Bool.{cases_eq, eqb-true}
use Rattle.std.proofs.lemmas.List.{nil_from_length}
use Rattle.std.proofs.lemmas.Option.{get_or_from_slice_get, slice_get_within}
use Rattle.of10_codec.specs.declared.message.Message.{Message}
use Rattle.device_port.specs.Devices.{Meaning}
use Rattle.sim_steps.specs.Parts.{IsHeardOut}
use Rattle.machine_steps.specs.Histories.{Turn}
use Rattle.sim_steps.specs.Stretches.{Beside, BreaksOff, Carried}
use Rattle.sim_steps.proofs.Broken.{broken_behind}
use Rattle.sim_steps.proofs.Joining.{carried_then}
use Rattle.sim_steps.proofs.Others.{carried_beside}
use Rattle.sim_channels.specs.declared.channel.Channel.{Channel}
use Rattle.sim_channels.specs.declared.driver.Driver.{Driver}
use Rattle.sim_channels.specs.Channels.{Fits, IsSame, WorksAlone, bench}
use Rattle.sim_channels.specs.Delivering.{Delivers, GoesOn, MayGoOn, OffersAt}
use Rattle.machine_desk.specs.Driving.{DrivingLaws}
use Rattle.sim_channels.specs.Passes.{AwaitsAll}
use Rattle.sim_channels.specs.Waiting.{IsAtRest, IsDone, IsHeard, IsHeardThrough, IsOffered, IsQuiet, IsTaken, NoneWaits, StaysBut, WhilePlugged}
use Rattle.sim_channels.proofs.Kept.{spares_then}
use Rattle.sim_channels.proofs.Others.{alone_back, quiet_on, same_then, tends_beside, tends_channel, tends_fits}
use Rattle.sim_channels.proofs.Places.{taken_still, while_still}

-- ---- one place

pub delivers_then : (at : ℕ) (a : Driver) (xs : List Meaning) (b : Driver) (ys : List Meaning) (c : Driver) (zs : List Meaning) → Delivers at a xs b ys → OffersAt at b ys c zs → Delivers at a xs c zs
delivers_then at a xs b ys c zs h k = record {
  fits = k.fits;
  carried = carried_then (bench a xs) (bench b ys) (bench c zs) h.carried k.carried;
  spares = spares_then at a b c h.spares k.spares;
  taken = λ quiet. k.taken (quiet_on a b h.spares.same h.spares.jobs quiet) (h.taken quiet);
}

no_messages : (ms : List Message) → (length ms == 0) ≡ true → ms ≡ []
no_messages ms e = nil_from_length ms (eqb-true (length ms) 0 e)

-- nothing is left to be offered, where that is read of the channel
pub offered_all : (at : ℕ) (driver : Driver) (r : Channel) → r ≡ get_or driver.channels.items at r → (length r.to == 0) ≡ true → IsOffered at driver
offered_all at driver r value none = λ k there stage.
    (let same : r ≡ k = value ∙ get_or_from_slice_get driver.channels.items at k r there in
    ap (λ (y : Channel). y.to) (sym same) ∙ no_messages r.to none)

-- it took the message in
pub went_on : (took : Bool) (at : ℕ) (old new : Driver) → took ≡ true → GoesOn took at old new → MayGoOn at old new
went_on took at old new is h = subst (λ b. GoesOn b at old new) is h

-- ---- other places

module _ (Where : Type 0) (here : ℕ) (old new : Driver) (h : StaysBut Where here old new) (n : ℕ) (other : n ≡ here → ⊥) where
  stays_so : (P : Channel → Type 0) → WhilePlugged P n old → WhilePlugged P n new
  stays_so P = while_still P n old new (h.channels n other)

  taken_stays : DrivingLaws → (ds es : List Meaning) → Fits old ds → Fits new es → Where → IsTaken n old → IsTaken n new
  taken_stays laws ds es f g holds = taken_still laws n old new f.kept g.kept (h.sessions holds (n + 1) (λ e. other (omega (arith, e))))

-- ---- one place after the other

-- at the places ahead of this one all was taken out
pub record DeliversTo (at : ℕ) (old : Driver) (before : List Meaning) (new : Driver) (after : List Meaning) : Type 0 where
  pub fits : Fits new after
  pub carried : Carried (bench old before) (bench new after)
  pub through : IsHeardThrough new
  pub jobs : NoneWaits old.desk → NoneWaits new.desk
  pub same : IsSame old new
  pub taken : IsQuiet old → (n : ℕ) → n < at → IsTaken n new

pub delivers_next : DrivingLaws → (at : ℕ) (old : Driver) (before : List Meaning) (mid : Driver) (ds : List Meaning) (new : Driver) (es : List Meaning) → DeliversTo at old before mid ds
    → Fits new es → Carried (bench mid ds) (bench new es) → (IsQuiet mid → IsTaken at new) → IsOffered at new → (IsHeard at mid → IsHeard at new) → StaysBut (IsQuiet mid) at mid new
    → (NoneWaits mid.desk → NoneWaits new.desk) → IsSame mid new → DeliversTo (at + 1) old before new es
delivers_next laws at old before mid ds new es h fits carried taken offered heard others jobs same = record {
  fits = fits;
  carried = carried_then (bench old before) (bench mid ds) (bench new es) h.carried carried;
  through = record {
    jobs = λ alone. jobs (h.through.jobs (alone_back mid new same alone));
    offered = λ n. ⊎_elim (λ e. subst (λ m. IsOffered m new) (sym e) offered) (λ o. stays_so (IsQuiet mid) at mid new others n o (λ k. k.to ≡ []) (h.through.offered n)) (cases_eq n at);
    heard = λ n. ⊎_elim (λ e. subst (λ m. IsHeard m new) (sym e) (heard (h.through.heard at)))
        (λ o. stays_so (IsQuiet mid) at mid new others n o (λ k. IsHeardOut k.inbound.from.stream) (h.through.heard n)) (cases_eq n at);
  };
  jobs = λ none. jobs (h.jobs none);
  same = same_then old mid new h.same same;
  taken = λ quiet n below.
      (let still = quiet_on old mid h.same h.jobs quiet in
      ⊎_elim (λ e. subst (λ m. IsTaken m new) (sym e) (taken still))
      (λ o. taken_stays (IsQuiet mid) at mid new others n o laws ds es h.fits fits still (h.taken quiet n (omega (arith, below, o)))) (cases_eq n at));
}

module _ (count : ℕ) (old : Driver) (before : List Meaning) (new : Driver) (after : List Meaning) (h : DeliversTo count old before new after) (all : count ≡ length after) where
  taken_all : IsQuiet old → (n : ℕ) → IsTaken n new
  taken_all quiet n k there plugged = h.taken quiet n (let within = slice_get_within new.channels.items n k there in omega (arith, within, all, h.fits.places)) k there plugged

  pub delivers_last : IsAtRest new
  delivers_last = record {
    done = λ alone. record { jobs = h.through.jobs alone; taken = taken_all (inl (alone_back old new h.same alone)) };
    offered = h.through.offered;
    heard = h.through.heard;
  }

  pub delivers_done : NoneWaits old.desk → IsDone new
  delivers_done none = record { jobs = h.jobs none; taken = taken_all (inr none) }

-- ---- behind a wait for who works beside

module _ (laws : DrivingLaws) (old mid : Driver) (ds : List Meaning) (fits : Fits old ds) (some : WorksAlone old → ⊥) (h : AwaitsAll old mid) where
  pub awaited_none : NoneWaits mid.desk
  awaited_none = ⊎_elim (λ alone. absurd (some (alone_back old mid h.tends.same alone))) (λ none. none) h.none

  pub awaited_fits : Fits mid ds
  awaited_fits = tends_fits laws old mid fits.kept h.tends ds fits

  pub awaited_through : IsAtRest old → IsHeardThrough mid
  awaited_through rest = record {
    jobs = λ alone. awaited_none;
    offered = λ n. tends_channel laws old mid fits.kept h.tends (λ k. k.to ≡ []) n (rest.offered n);
    heard = λ n. tends_channel laws old mid fits.kept h.tends (λ k. IsHeardOut k.inbound.from.stream) n (rest.heard n);
  }

  beside : Beside (bench old ds) (bench mid ds)
  beside = tends_beside laws old mid fits.kept h.tends (λ solo. some (fits.kept.crew.none solo)) ds

  pub awaited_broken : (past : List Turn) → BreaksOff (bench mid ds) past → BreaksOff (bench old ds) past
  awaited_broken past broken = broken_behind (bench old ds) beside.events (bench mid ds) past beside.runs broken

  pub awaited_then : (new : Driver) (es : List Meaning) → Carried (bench mid ds) (bench new es) → Carried (bench old ds) (bench new es)
  awaited_then new es carried =
      carried_then (bench old ds) (bench mid ds) (bench new es)
      (carried_beside (bench old ds) (bench mid ds) beside) carried
