-- What others do beside the driver, and what it does with them about packets that wait: entries that anybody may make.
use Rattle.sim_channels.proofs.Slots.{item_at}
use Rattle.std.proofs.lemmas.Option.{none-some, slice_get_within}
use Rattle.machine_desk.specs.Connections.{AreSessions, IsUnknown}
use Rattle.std.proofs.Common.{◌≡◌, arith, zero, suc, ℕ, ◌^◌, ◌<◌, ◌≤◌, Bool, true, false, List, [], ◌++◌, length, append-nil, refl, sym, ap, ◌∙◌, subst, inl, inr}
use Rattle.std.specs.Prelude.{◌+◌, ◌-◌, IfSome, Option, Some, None, is_some}
use Rattle.std.specs.FinSet as set
use Rattle.std.specs.Ordering.{nat_cmp}
use Rattle.std.specs.List.{slice_get}
use Rattle.machine_desk.proofs.Crewed.{crew_then, same_crew, some_crew}
use Rattle.device_port.specs.Devices.{Meaning}
use Rattle.maple_base.specs.declared.decision.Settings.{Settings}
use Rattle.policy_lang.specs.declared.Policy.{Policy}
use Rattle.world_steps.specs.Worlds.{messages_for}
use Rattle.machine_steps.specs.declared.entry.Entry.{Entry}
use Rattle.machine_steps.specs.declared.reply.Reply.{Reply}
use Rattle.machine_steps.specs.Histories.{Leads, Turn}
use Rattle.machine_steps.specs.Machine.{Session, State, session_at, was_opened}
use Rattle.machine_sharing.specs.Between.{Both, OnlyGrows, Stays}
use Rattle.machine_desk.specs.Desks.{DeskView, Enters, Footing, calls_of}
use Rattle.machine_desk.specs.Hearing.{IsStaged}
use Rattle.machine_desk.specs.declared.inbound.Stage.TheVariants.{Unopened}
use Rattle.sim_steps.specs.Benches.{Bench, IsSolo, is_plugged}
use Rattle.sim_steps.specs.Parts.{IsHeardOut}
use Rattle.sim_steps.specs.Stretches.{Beside}
use Rattle.sim_steps.proofs.Others.{beside_none, carried_beside}
use Rattle.sim_steps.proofs.Silent.{beside_along}
use Rattle.sim_channels.specs.declared.channel.Channel.{Channel}
use Rattle.machine_desk.specs.declared.crew.Crew.{Crew}
use Rattle.sim_channels.specs.declared.driver.Driver.{Driver}
use Rattle.machine_desk.specs.Crews.{IsCrew, MayHave, SameCrew}
use Rattle.sim_channels.specs.Channels.{CarriedOver, EntersNext, Fits, IsFresh, IsKept, IsReached, IsSame, OthersDid, Tends, WorksAlone, bench, slots_of, places}
use Rattle.machine_desk.specs.Driving.{DrivingLaws}
use Rattle.sim_channels.specs.Delivering.{Spares}
use Rattle.sim_channels.specs.Waiting.{IsAtRest, IsDone, IsQuiet, IsTaken, NoneWaits, WhilePlugged}
use Rattle.sim_channels.proofs.Keeping.{IsAside, reached_along, reached_sound}

-- ---- the same driver

pub same_driver : (a : Driver) → IsSame a a
same_driver a = record { footing = refl; crew = same_crew a.crew }

pub same_then : (a b c : Driver) → IsSame a b → IsSame b c → IsSame a c
same_then a b c h k = record { footing = k.footing ∙ h.footing; crew = crew_then a.crew b.crew c.crew h.crew k.crew }

-- where the crew stays as it is: at most the desk and the channels change, or the desk
pub same_by : (a b : Driver) → b.crew ≡ a.crew → b.desk.footing ≡ a.desk.footing → IsSame a b
same_by a b crew footing = record { footing = footing; crew = subst (SameCrew a.crew) (sym crew) (same_crew a.crew) }

pub same_but : (a b : Driver) → b ≡ record a { desk = b.desk; channels = b.channels } → b.desk.footing ≡ a.desk.footing → IsSame a b
same_but a b rest = same_by a b (ap (λ (x : Driver). x.crew) rest)

pub same_desk : (a b : Driver) → b ≡ record a { desk = b.desk } → b.desk.footing ≡ a.desk.footing → IsSame a b
same_desk a b rest = same_by a b (ap (λ (x : Driver). x.crew) rest)

pub alone_on : (a b : Driver) → IsSame a b → WorksAlone a → WorksAlone b
alone_on a b h alone = some_crew a.crew b.crew h.crew ∙ alone

pub alone_back : (a b : Driver) → IsSame a b → WorksAlone b → WorksAlone a
alone_back a b h alone = sym (some_crew a.crew b.crew h.crew) ∙ alone

pub quiet_on : (a b : Driver) → IsSame a b → (NoneWaits a.desk → NoneWaits b.desk) → IsQuiet a → IsQuiet b
quiet_on a b h jobs (inl alone) = inl (alone_on a b h alone)
quiet_on a b h jobs (inr none) = inr (jobs none)

-- it still may have its crew
pub crew_on : (a b : Driver) → IsSame a b → b.desk.now.settings ≡ a.desk.now.settings → MayHave a.crew a.desk.footing.parts a.desk.now
    → MayHave b.crew b.desk.footing.parts b.desk.now
crew_on a b h settings may = record {
  alone = λ none. ap (λ (f : Footing). f.parts) h.footing ∙ may.alone (sym some ∙ none);
  none = λ solo. some ∙ may.none (sym (ap (λ (s : Settings). s.workers) settings) ∙ solo);
  is = go a.crew b.crew h.crew may.is;
}
  where
    some : is_some b.crew ≡ is_some a.crew
    some = some_crew a.crew b.crew h.crew

    go : (c d : Option Crew) → SameCrew c d → IfSome c IsCrew → IfSome d IsCrew
    go None None s is = tt
    go (Some c) (Some d) s is = s.is is
    go None (Some d) s is = absurd s
    go (Some c) None s is = absurd s

-- ---- which sessions are open

-- those at places alone
pub places_alone : (ks : List Channel) (m : State) → AreSessions places ks m → (c : ℕ) → is_plugged c m ≡ true → (1 ≤ c) × (c ≤ length ks)
places_alone ks m h zero open_now =
    (let shut = h.others zero (λ k. (let is = k.1.number in omega (arith, is))) in let f : true ≡ false = sym open_now ∙ shut in absurd (cc))
places_alone ks m h (suc n) open_now = (omega arith, go (slice_get ks n) refl)
  where
    go : (o : Option Channel) → slice_get ks n ≡ o → suc n ≤ length ks
    go (Some k) e = (let within = slice_get_within ks n k e in omega (arith, within))
    go None e =
        (let shut = h.others (suc n) (λ k. none-some k.1.connection (sym e ∙ ap (slice_get ks) (let is = k.1.number in omega (arith, is)) ∙ k.1.there)) in
        let f : true ≡ false = sym open_now ∙ shut in
        absurd (cc))

-- and so no others
pub others_shut : (ks : List Channel) (m : State) → ((c : ℕ) → is_plugged c m ≡ true → (1 ≤ c) × (c ≤ length ks)) → (c : ℕ) → IsUnknown places c ks → is_plugged c m ≡ false
others_shut ks m alone c unknown = go (is_plugged c m) refl
  where
    go : (b : Bool) → is_plugged c m ≡ b → is_plugged c m ≡ false
    go false e = e
    go true e =
        let place = alone c e in
        let found = item_at ks (c - 1) (omega (arith, place.0, place.1)) in
        absurd (unknown (c - 1, record { connection = found.0; there = found.1; number = omega (arith, place.0) }))

-- ---- what is kept

-- a channel is as one at its place is kept
pub record IsPlaced (n : ℕ) (m : State) (k : Channel) : Type 0 where
  pub name : k.inbound.connection ≡ n + 1
  pub staged : IsStaged k.inbound m
  pub fresh : k.inbound.stage ≡ Unopened → IsFresh k

module _ (old new : Driver) (kept : IsKept old) (same : IsSame old new) (settings : new.desk.now.settings ≡ old.desk.now.settings) (reached : IsReached new.desk.now) where
  -- where all channels are so, and sessions at places alone are open
  pub kept_each : length new.channels.items ≡ length old.channels.items → ((n : ℕ) (x : Channel) → slice_get new.channels.items n ≡ Some x → IsPlaced n new.desk.now x)
      → ((c : ℕ) → is_plugged c new.desk.now ≡ true → (1 ≤ c) × (c ≤ length old.channels.items)) → IsKept new
  kept_each long each alone = record {
    crew = crew_on old new same settings kept.crew;
    reached = reached;
    numbers = subst (λ n. n < 2 ^ 32) (sym long) kept.numbers;
    names = λ n x there. (each n x there).name;
    sessions = record {
      staged = λ n x there. (each n x there).staged;
      others = others_shut new.channels.items new.desk.now (λ c open_now. (let place = alone c open_now in (place.0, subst (λ n. c ≤ n) (sym long) place.1)));
    };
    fresh = λ n x there. (each n x there).fresh;
  }

  -- a channel of the driver as it was, whose session is as it was
  pub still_placed : (n : ℕ) (x : Channel) → slice_get old.channels.items n ≡ Some x → IsAside (n + 1) old.desk.now new.desk.now → IsPlaced n new.desk.now x
  still_placed n x there aside =
      let name = kept.names n x there in
      let a = subst (λ c. IsAside c old.desk.now new.desk.now) (sym name) aside in
      let s = kept.sessions.staged n x there in
      record { name = name; staged = record { live = a.live ∙ s.live; opened = a.opened ∙ s.opened }; fresh = kept.fresh n x there }

  -- where no channel changed, and no session
  pub kept_all : new.channels.items ≡ old.channels.items → ((c : ℕ) → IsAside c old.desk.now new.desk.now) → IsKept new
  kept_all channels aside =
      kept_each (ap length channels) (λ n x there. still_placed n x (ap (λ ks. slice_get ks n) (sym channels) ∙ there) (aside (n + 1)))
      (λ c open_now. places_alone old.channels.items old.desk.now kept.sessions c (sym (aside c).live ∙ open_now))

-- ---- what others did, ahead of an entry

pub tends_of : (old mid : Driver) → OthersDid old mid → Tends old mid
tends_of old mid h = record {
  meanwhile = h.meanwhile;
  rest = h.rest ∙ ap (λ (c : Option Crew). record old { desk = mid.desk; crew = c }) (sym (ap (λ (x : Driver). x.crew) h.rest));
  same = same_desk old mid h.rest h.footing;
}

module _ (old : Driver) (entry : Entry) (reply : Reply) (b : DeskView) (kept : IsKept old) (h : Enters old.desk entry reply b) where
  -- the driver behind what others did
  abbrev pub ahead : Driver
  ahead = record old { desk = record old.desk { past = old.desk.past ++ h.others; now = h.between } }

  pub others_ahead : OthersDid old ahead
  others_ahead = record {
    meanwhile = record { turns = h.others; past = refl; leads = h.meanwhile; allowed = h.allowed };
    rest = refl;
    footing = refl;
    alone = λ alone.
        (let none = h.alone (kept.crew.alone alone) in
        let same : h.between ≡ old.desk.now = subst (λ (ts : List Turn). Leads old.desk.now ts h.between) none h.meanwhile in
        ap (λ (m : State). record old { desk = record old.desk { past = old.desk.past ++ h.others; now = m } }) same
        ∙ ap (λ (ts : List Turn). record old { desk = record old.desk { past = old.desk.past ++ ts } }) none
        ∙ ap (λ (ts : List Turn). record old { desk = record old.desk { past = ts } }) (append-nil old.desk.past));
  }

  pub enters_next : EntersNext entry reply ahead.desk b
  enters_next = record { made = h.made; past = h.past; footing = h.footing }

-- ---- what they leave

both_some : (R : Session → Session → Type 0) (o p : Option Session) → Both R o p → is_some p ≡ is_some o
both_some R None None h = refl
both_some R (Some s) (Some t) h = refl
both_some R None (Some t) h = absurd h
both_some R (Some s) None h = absurd h

module _ (laws : DrivingLaws) (old mid : Driver) (kept : IsKept old) (h : Tends old mid) where
  abbrev turns : List Turn
  turns = h.meanwhile.turns

  pub stay : Stays old.desk.now mid.desk.now
  stay =
      laws.stays (calls_of old.desk.past) (calls_of turns) old.desk.now mid.desk.now
      (laws.calls old.desk.now turns mid.desk.now (reached_sound laws old.desk.now kept.reached) h.meanwhile.leads).replays h.meanwhile.allowed

  pub items_stay : mid.channels.items ≡ old.channels.items
  items_stay = ap (λ (x : Driver). x.channels.items) h.rest

  pub channel_stays : (n : ℕ) → slice_get mid.channels.items n ≡ slice_get old.channels.items n
  channel_stays n = ap (λ (ks : List Channel). slice_get ks n) items_stay

  pub plugged_stays : (c : ℕ) → is_plugged c mid.desk.now ≡ is_plugged c old.desk.now
  plugged_stays c = both_some OnlyGrows (session_at c old.desk.now) (session_at c mid.desk.now) (stay.found c).0

  pub opened_stays : (c : ℕ) → was_opened c mid.desk.now ≡ was_opened c old.desk.now
  opened_stays c = ap (λ (s : set.FinSet nat_cmp). set.contains s c) stay.opened

  pub tends_kept : IsKept mid
  tends_kept =
      kept_all old mid kept h.same stay.settings (reached_along old.desk.now turns mid.desk.now kept.reached h.meanwhile.leads) items_stay
      (λ c. record { live = plugged_stays c; opened = opened_stays c })

  pub tends_fits : (ds : List Meaning) → Fits old ds → Fits mid ds
  tends_fits ds fits = record {
    kept = tends_kept;
    places = ap (λ (ks : List Channel). length ks) items_stay ∙ fits.places;
    waiting = λ n k d there is. fits.waiting n k d (sym (channel_stays n) ∙ there) is;
  }

  -- where no packet waits they change nothing
  pub tends_frozen : NoneWaits old.desk → mid.desk.now ≡ old.desk.now
  tends_frozen none =
      laws.nothing (calls_of old.desk.past) (calls_of turns) old.desk.now mid.desk.now none
      (laws.calls old.desk.now turns mid.desk.now (reached_sound laws old.desk.now kept.reached) h.meanwhile.leads).replays h.meanwhile.allowed

  pub tends_none : NoneWaits old.desk → NoneWaits mid.desk
  tends_none none = ap (λ (m : State). m.jobs) (tends_frozen none) ∙ none

  pub tends_learning : mid.desk.now.policy.learning ≡ old.desk.now.policy.learning
  tends_learning = ap (λ (p : Policy). p.learning) stay.policy

  -- what holds of a channel does so still
  pub tends_channel : (P : Channel → Type 0) (n : ℕ) → WhilePlugged P n old → WhilePlugged P n mid
  tends_channel P n was = λ k there plugged. was k (sym (channel_stays n) ∙ there) plugged

  -- what is left in the machine for a place where nothing was is nothing, if it stays as it is
  pub taken_on : mid.desk.now ≡ old.desk.now → (n : ℕ) → IsTaken n old → IsTaken n mid
  taken_on same n was = λ k there plugged. ap (messages_for (n + 1)) same ∙ was k (sym (channel_stays n) ∙ there) plugged

  pub tends_done : IsDone old → IsDone mid
  tends_done done = record { jobs = tends_none done.jobs; taken = λ n. taken_on (tends_frozen done.jobs) n (done.taken n) }

  pub tends_slots : (ds : List Meaning) → (bench mid ds).slots ≡ (bench old ds).slots
  tends_slots ds = ap (λ (ks : List Channel). slots_of ks ds) items_stay

  -- beside it
  pub tends_beside : (IsSolo old.desk.now → ⊥) → (ds : List Meaning) → Beside (bench old ds) (bench mid ds)
  tends_beside beside ds =
      subst (λ (b : Bench). Beside (bench old ds) b)
      (ap (λ (ts : List Turn). record { past = ts; machine = mid.desk.now; slots = slots_of old.channels.items ds }) (sym h.meanwhile.past)
      ∙ ap (λ (ks : List Channel). record { past = mid.desk.past; machine = mid.desk.now; slots = slots_of ks ds }) (sym items_stay))
      (beside_along (bench old ds) turns mid.desk.now beside h.meanwhile.leads h.meanwhile.allowed)

-- ---- the same of what others did ahead of an entry

module _ (laws : DrivingLaws) (old mid : Driver) (kept : IsKept old) (h : OthersDid old mid) where
  abbrev tends : Tends old mid
  tends = tends_of old mid h

  pub others_kept : IsKept mid
  others_kept = tends_kept laws old mid kept tends

  -- where nobody else changes the machine it is as it was
  pub others_quiet : IsQuiet old → mid.desk.now ≡ old.desk.now
  others_quiet (inl alone) = ap (λ (d : Driver). d.desk.now) (h.alone alone)
  others_quiet (inr none) = tends_frozen laws old mid kept tends none

  pub others_taken : IsQuiet old → (n : ℕ) → IsTaken n old → IsTaken n mid
  others_taken quiet n was = taken_on laws old mid kept tends (others_quiet quiet) n was

  pub others_rest : IsAtRest old → IsAtRest mid
  others_rest rest = record {
    done = λ alone. (let before = alone_back old mid tends.same alone in subst IsDone (sym (h.alone before)) (rest.done before));
    offered = λ n. tends_channel laws old mid kept tends (λ k. k.to ≡ []) n (rest.offered n);
    heard = λ n. tends_channel laws old mid kept tends (λ k. IsHeardOut k.inbound.from.stream) n (rest.heard n);
  }

  pub others_beside : (ds : List Meaning) → Beside (bench old ds) (bench mid ds)
  others_beside ds = by (is_some old.crew) refl
    where
      by : (b : Bool) → is_some old.crew ≡ b → Beside (bench old ds) (bench mid ds)
      by false none = subst (λ (d : Driver). Beside (bench old ds) (bench d ds)) (sym (h.alone none)) (beside_none (bench old ds))
      by true some = tends_beside laws old mid kept tends (λ solo. (let f : true ≡ false = sym some ∙ kept.crew.none solo in cc)) ds

  pub others_carried : CarriedOver old mid
  others_carried ds long = carried_beside (bench old ds) (bench mid ds) (others_beside ds)

  -- what an entry behind it spares was spared of what there was ahead of it
  pub spares_others : (at : ℕ) (new : Driver) → Spares at mid new → Spares at old new
  spares_others at new s = record {
    others = record {
      sessions = λ quiet c o.
          s.others.sessions (quiet_on old mid tends.same (tends_none laws old mid kept tends) quiet) c o
          ∙ ap (session_at c) (others_quiet quiet);
      channels = λ n o. s.others.channels n o ∙ channel_stays laws old mid kept tends n;
    };
    heard = λ was. s.heard (tends_channel laws old mid kept tends (λ k. IsHeardOut k.inbound.from.stream) at was);
    jobs = λ none. s.jobs (tends_none laws old mid kept tends none);
    same = same_then old mid new tends.same s.same;
  }

-- ---- an entry behind what they did

module _ (laws : DrivingLaws) (old : Driver) (entry : Entry) (reply : Reply) (b : DeskView) (kept : IsKept old) (h : Enters old.desk entry reply b) where
  pub kept_ahead : IsKept (ahead old entry reply b kept h)
  kept_ahead = others_kept laws old (ahead old entry reply b kept h) kept (others_ahead old entry reply b kept h)
