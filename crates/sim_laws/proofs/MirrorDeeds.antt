-- Each deed is events of the world.
use Rattle.std.proofs.Common.{◌≡◌, ◌≢◌, ℕ, Bool, true, false, drop, List, [], ◌∷◌, ◌++◌, Option, Some, None, refl, sym, ap, ◌∙◌, subst, inl, inr, ⊎_elim}
use Rattle.std.specs.Prelude.{◌==◌, if◌then◌else◌}
use Rattle.std.specs.List.{AllByRecursion}
use Rattle.std.specs.Option.{option_map}
use Rattle.std.proofs.lemmas.Bool.{cases_Bool, eq-eqb}
use Rattle.std.proofs.lemmas.List.{map-append}
use Rattle.of10_codec.specs.declared.message.Message.{Message}
use Rattle.of10_codec.specs.declared.fault.Bad.{Bad}
use Rattle.of10_codec.specs.Laws.{OneMessage}
use Rattle.of10_stream.specs.declared.reassembly.Next.TheVariants as next
use Rattle.of10_stream.specs.Steps.{AnswersBehind, Stream}
use Rattle.device_port.specs.Devices.{Call, switch_of}
use Rattle.machine_moves.specs.MoveLaws.{ConnectionsOpen}
use Rattle.machine_moves.proofs.Found.{its_connection}
use Rattle.machine_moves.specs.Sends.{CanBeOffered, OutboxesCanBeOffered}
use Rattle.machine_moves.proofs.Offers.{all_append}
use Rattle.machine_steps.specs.declared.entry.Entry.{Entry}
use Rattle.machine_steps.specs.declared.entry.Entry.TheVariants as entries
use Rattle.machine_steps.specs.declared.entry.Input.TheVariants.{Message as Whole, Bad as Faulty}
use Rattle.machine_steps.specs.declared.reply.Reply.{Reply}
use Rattle.machine_steps.specs.declared.reply.Reply.TheVariants.{NoMemory}
use Rattle.machine_steps.specs.Admitting.{Admits}
use Rattle.machine_steps.specs.Machine.{Session, State, is_of, session_at, was_opened}
use Rattle.machine_steps.specs.Sound.{IsInOrder, IsSound}
use Rattle.machine_steps.specs.Steps.{Steps, kept_at}
use Rattle.machine_steps.proofs.Sound.Zipped.{find_all, find_passes}
use Rattle.world_stages.specs.FlightLaws.{filled, heard}
use Rattle.world_steps.specs.Worlds.{IsFirstFrom, IsNew, Link, LinksBehind, OpensLink, heard_from, lacks_memory, link_at, messages_for, outbox_of, sent_to}
use Rattle.world_steps.specs.Worlds.WorldStep.{Enters}
use Rattle.world_steps.specs.Runs.{Event, Runs}
use Rattle.world_right.proofs.Links.{behind_others, behind_there, changed_there, others_there}
use Rattle.sim_steps.specs.Benches.{Bench, MovesAt, Slot, is_plugged, slot_at, slot_of}
use Rattle.sim_steps.specs.Deeds.{CallsAt, CallsSlot, Deed, Does, EntersAt, GetsMessages, HearsNext, NextIs, UnlessLacking, note_of}
use Rattle.sim_steps.specs.Deeds.Deed.{Enters as EntersDeed, Calls}
use Rattle.sim_steps.specs.Showing.{BeganWith, CallBy, DeedBy}
use Rattle.sim_laws.proofs.MirrorActs.{ActedAt, acted, runs_append, steps_of, world_of}
use Rattle.sim_laws.proofs.MirrorCalls.{Served, serves}
use Rattle.sim_laws.proofs.MirrorLinks.{Linked, link_by, link_of}
use Rattle.sim_laws.proofs.MirrorPlaces.{IsMirrored, IsShown, Mirrors, all_stay, one_changes, one_moves}
use Rattle.sim_laws.proofs.MirrorSlots.{moved_old, there_is}
use Rattle.sim_laws.proofs.MirrorSpelled.{IsFirst, faultless, first_is}

-- a device that keeps the specification ahead of its first call
pub record IsFresh (s : Slot) : Type 0 where
  pub is : s ≡ slot_of s.device
  pub keeps : s.device.keeps ≡ true
  pub idle : s.device.pending ≡ []

-- a deed is these events of the world, which lead to links that mirror the places behind it
pub record Led (a : Bench) (deed : Deed) (b b' : Bench) (ws : List Event) (links : List Link) : Type 0 where
  pub own : List Event
  pub behind : List Link
  pub runs : Runs (world_of b.machine links) own (world_of b'.machine behind)
  pub by : DeedBy deed (steps_of own)
  pub mirrors : Mirrors a b' (ws ++ own) behind

-- ---- the machine

-- an open session's connection was opened
plugged_opened : (m : State) → IsSound m → (c : ℕ) → is_plugged c m ≡ true → was_opened c m ≡ true
plugged_opened m sound c plugged =
    let (s, there) = there_is (session_at c m) plugged in
    let own = its_connection c s (find_passes (is_of c) m.sessions s there) in
    subst (λ n. was_opened n m ≡ true) own (find_all (IsInOrder m) (is_of c) m.sessions s sound.sessions there).opened

messages_offered : (m : State) → OutboxesCanBeOffered m → (c : ℕ) → AllByRecursion CanBeOffered (messages_for c m)
messages_offered m all c = go (kept_at c m) refl
  where
    go : (o : Option Session) → kept_at c m ≡ o → AllByRecursion CanBeOffered (outbox_of o)
    go None e = tt
    go (Some s) e = find_all (λ (x : Session). AllByRecursion CanBeOffered x.outbox) (λ (x : Session). x.connection == c) m.sessions s all e

-- any other entry opens no connection
opens_none : ConnectionsOpen → (old : State) (entry : Entry) (reply : Reply) (new : State) → Steps old entry reply new → (c : ℕ) → (entry ≡ entries.Open c → ⊥)
    → was_opened c new ≡ was_opened c old
opens_none connections old entry reply new steps c other =
    let only = connections old entry reply new steps in
    ⊎_elim (λ was. only.stay c was ∙ sym was) (λ was. ⊎_elim (λ is. absurd (other (only.others c was is))) (λ is. is ∙ sym was) (cases_Bool (was_opened c new))) (cases_Bool (was_opened c old))

links_open : (m : State) (c : ℕ) (reply : Reply) (ls ks : List Link) → reply ≢ NoMemory → OpensLink (was_opened c m) c ls ks → LinksBehind m (entries.Open c) reply ls ks
links_open m c NoMemory ls ks some h = absurd (some refl)
links_open m c reply ls ks some h = h

-- what is laid out by whether memory ran out
laid_out : (lacks known : Bool) (ls ks js : List Link) → lacks ≡ known → js ≡ (if known then ls else ks) → js ≡ (if lacks then ls else ks)
laid_out lacks known ls ks js e h = h ∙ sym (ap (λ o. if o then ls else ks) e)

module _ (one : OneMessage) (connections : ConnectionsOpen) (a : Bench) (fresh : (c : ℕ) (s : Slot) → slot_at c a.slots ≡ Some s → IsFresh s)
    (b b' : Bench) (ws : List Event) (links : List Link) (mirrors : Mirrors a b ws links) (sound : IsSound b.machine) (outboxes : OutboxesCanBeOffered b.machine) where
  -- the link of a place whose connection was opened
  linked_at : (c : ℕ) (s : Slot) → slot_at c b.slots ≡ Some s → was_opened c b.machine ≡ true → Linked c s links
  linked_at c s there was = let p = mirrors c s there in (subst (λ o. IsShown o c p.first s ws links) was p.shown).1

  -- ---- an entry

  abbrev event_of : Entry → Reply → List Link → Event
  event_of entry reply ks = record { before = world_of b.machine links; step = Enters entry reply; behind = world_of b'.machine ks }

  enters : (entry : Entry) (reply : Reply) (ks : List Link) → Admits b.machine entry → Steps b.machine entry reply b'.machine → LinksBehind b.machine entry reply links ks
      → Mirrors a b' (ws ++ event_of entry reply ks ∷ []) ks → Led a (EntersDeed entry reply) b b' ws links
  enters entry reply ks admitted steps laid mirrored = record {
    own = event_of entry reply ks ∷ [];
    behind = ks;
    runs = (refl, record { admitted = admitted; steps = steps; links = laid }, refl);
    by = refl;
    mirrors = mirrored;
  }

  -- an entry that changes no slot and no link
  rests : (entry : Entry) (reply : Reply) → Admits b.machine entry → Steps b.machine entry reply b'.machine → LinksBehind b.machine entry reply links links → b'.slots ≡ b.slots
      → ((c : ℕ) → was_opened c b'.machine ≡ was_opened c b.machine) → Led a (EntersDeed entry reply) b b' ws links
  rests entry reply admitted steps laid slots opened =
      enters entry reply links admitted steps laid (all_stay a b b' ws (event_of entry reply links ∷ []) links links mirrors slots opened (λ c. refl))

  -- ---- a connection is opened

  module _ (c : ℕ) (reply : Reply) (at : EntersAt (entries.Open c) reply b b') where
    abbrev s : Slot
    s = (there_is (slot_at c b.slots) at.may.0).0

    abbrev there : slot_at c b.slots ≡ Some s
    there = (there_is (slot_at c b.slots) at.may.0).1

    abbrev p : IsMirrored a c b.machine s ws links
    p = mirrors c s there

    none_yet : (link_at c links ≡ None) × (s ≡ p.first)
    none_yet = subst (λ o. IsShown o c p.first s ws links) at.may.1 p.shown

    as_first : s ≡ slot_of p.first.device
    as_first = none_yet.1 ∙ (fresh c p.first p.was).is

    abbrev l : Link
    l = link_of c s []

    abbrev ks : List Link
    ks = links ++ l ∷ []

    no_messages : s.to ≡ []
    no_messages = ap (λ (x : Slot). x.to) as_first

    is_new : IsNew c l
    is_new = record { connection = refl; to = no_messages; pending = ap (λ (x : Slot). x.device.pending) none_yet.1 ∙ (fresh c p.first p.was).idle; sent = refl }

    there_now : link_at c ks ≡ Some l
    there_now = behind_there links l none_yet.0

    new_linked : Linked c s ks
    new_linked = record {
      sent = [];
      there = there_now;
      holds = record {
        spell = ap (λ (x : Slot). x.from.rest) as_first;
        unbroken = ap (λ (x : Slot). x.from.broken) as_first;
        keeps = ap (λ (x : Slot). x.device.keeps) none_yet.1 ∙ (fresh c p.first p.was).keeps;
        offers = subst (AllByRecursion CanBeOffered) (sym no_messages) tt;
      };
    }

    abbrev opening_event : Event
    opening_event = event_of (entries.Open c) reply ks

    began : BeganWith c p.first.device (ws ++ opening_event ∷ [])
    began = record {
      before = ws;
      event = opening_event;
      later = [];
      parts = refl;
      reply = reply;
      opens = refl;
      link = l;
      there = there_now;
      switch = ap (λ (x : Slot). switch_of x.device) none_yet.1;
    }

    apart : (d : ℕ) → (c == d) ≡ false → entries.Open c ≡ entries.Open d → ⊥
    apart d other same = let e = eq-eqb c d (cc) in absurd (cc)

    new_mirrored : reply ≢ NoMemory → IsMirrored a c b'.machine s (ws ++ opening_event ∷ []) ks
    new_mirrored done = record {
      first = p.first;
      was = p.was;
      shown = subst (λ o. IsShown o c p.first s (ws ++ opening_event ∷ []) ks) (sym ((connections b.machine (entries.Open c) reply b'.machine at.steps).opens c refl done)) (began, new_linked);
    }

    opens_now : reply ≢ NoMemory → Led a (EntersDeed (entries.Open c) reply) b b' ws links
    opens_now done =
        enters (entries.Open c) reply ks at.admitted at.steps (links_open b.machine c reply links ks done (subst (λ o. OpensLink o c links ks) (sym at.may.1) (l, is_new, refl)))
        (one_changes a b b' ws (opening_event ∷ []) links ks mirrors c s (ap (slot_at c) at.slots ∙ there) (new_mirrored done) (λ d other. ap (slot_at d) at.slots)
        (λ d other. opens_none connections b.machine (entries.Open c) reply b'.machine at.steps d (apart d other)) (λ d other. behind_others links l d other))

    opens_by : Steps b.machine (entries.Open c) reply b'.machine → Led a (EntersDeed (entries.Open c) reply) b b' ws links
    opens_by (inl (was, passes)) = let fresh_one = at.may.1 in absurd (cc)
    opens_by (inr (inl (fresh_one, full, r, e))) = opens_now (λ lacks. (cc))
    opens_by (inr (inr (inl (fresh_one, few, r, e)))) = opens_now (λ lacks. (cc))
    opens_by (inr (inr (inr (r, e)))) =
        rests (entries.Open c) reply at.admitted at.steps (subst (λ q. LinksBehind b.machine (entries.Open c) q links links) (sym r) refl) at.slots (λ d. ap (was_opened d) e)

  -- ---- an input is heard

  module _ (c : ℕ) (was : was_opened c b.machine ≡ true) (reply : Reply) where
    -- the message that comes next is the first of those that the switch sent
    first_of_place : (x : Message) (s : Slot) (from : Stream) (there : slot_at c b.slots ≡ Some s) → NextIs (Whole x) s.from from
        → IsFirst x (linked_at c s there was).sent from.rest × (from.broken ≡ None)
    first_of_place x s from there is =
        let l = linked_at c s there was in
        let takes = subst (λ o. AnswersBehind o (next.Message x) s.from from) l.holds.unbroken is in
        (first_is one l.sent x s.from.rest takes.front from.rest l.holds.spell takes.parts takes.spelled, takes.unbroken)

    hears_first : (x : Message) (s : Slot) (from : Stream) → slot_at c b.slots ≡ Some s → NextIs (Whole x) s.from from → IsFirstFrom c x links
    hears_first x s from there is =
        let l = linked_at c s there was in
        let first = (first_of_place x s from there is).0 in
        record { link = link_of c s l.sent; there = l.there; later = first.later; first = first.parts }

    module _ (x : Message) (at : EntersAt (entries.Heard c (Whole x)) reply b b') where
      opened_behind : (d : ℕ) → was_opened d b'.machine ≡ was_opened d b.machine
      opened_behind d = opens_none connections b.machine (entries.Heard c (Whole x)) reply b'.machine at.steps d (λ e. cc)

      abbrev left : List Link
      left = heard_from c links

      module _ (moves : MovesAt c (HearsNext (Whole x)) b.slots b'.slots) where
        abbrev old : Slot
        old = moves.old

        abbrev from : Stream
        from = moves.moves.0

        abbrev was_there : slot_at c b.slots ≡ Some old
        was_there = moved_old c (HearsNext (Whole x)) b.slots b'.slots moves

        abbrev came : Linked c old links
        came = linked_at c old was_there was

        abbrev came_first : IsFirst x came.sent from.rest × (from.broken ≡ None)
        came_first = first_of_place x old from was_there moves.moves.1

        heard_linked : Linked c moves.new left
        heard_linked =
            subst (λ (u : Slot). Linked c u left) (sym moves.moves.2)
            (record {
              sent = came_first.0.later;
              there = changed_there c heard (λ k own. own) links ∙ ap (option_map heard) came.there
                  ∙ ap (λ xs. Some (link_by c old.to old.device.dpid old.device.table old.device.pending (drop 1 xs))) came_first.0.parts;
              holds = record { spell = came_first.0.spell; unbroken = came_first.1; keeps = came.holds.keeps; offers = came.holds.offers };
            })

        hears_now : lacks_memory reply ≡ false → Led a (EntersDeed (entries.Heard c (Whole x)) reply) b b' ws links
        hears_now e =
            enters (entries.Heard c (Whole x)) reply left at.admitted at.steps (inl (hears_first x old from was_there moves.moves.1, laid_out (lacks_memory reply) false links left left e refl))
            (one_moves a b b' ws (event_of (entries.Heard c (Whole x)) reply left ∷ []) links left mirrors c (HearsNext (Whole x)) moves was opened_behind heard_linked
            (λ d other. others_there c heard (λ k own. own) d other links))

      hears_by : (lacks : Bool) → lacks_memory reply ≡ lacks → UnlessLacking lacks b.slots b'.slots (MovesAt c (HearsNext (Whole x)) b.slots b'.slots)
          → Led a (EntersDeed (entries.Heard c (Whole x)) reply) b b' ws links
      hears_by true e slots =
          let (s, from, there, is) = at.may.1 in
          rests (entries.Heard c (Whole x)) reply at.admitted at.steps (inl (hears_first x s from there is, laid_out (lacks_memory reply) true links left links e refl)) slots opened_behind
      hears_by false e moves = hears_now moves e

    hears_fault : (place : ℕ) (bad : Bad) → EntersAt (entries.Heard c (Faulty place bad)) reply b b' → Led a (EntersDeed (entries.Heard c (Faulty place bad)) reply) b b' ws links
    hears_fault place bad at = go (lacks_memory reply) at.slots
      where
        go : (lacks : Bool) → UnlessLacking lacks b.slots b'.slots (MovesAt c (HearsNext (Faulty place bad)) b.slots b'.slots)
            → Led a (EntersDeed (entries.Heard c (Faulty place bad)) reply) b b' ws links
        go true slots =
            rests (entries.Heard c (Faulty place bad)) reply at.admitted at.steps refl slots
            (λ d. opens_none connections b.machine (entries.Heard c (Faulty place bad)) reply b'.machine at.steps d (λ e. cc))
        go false moves =
            let l = linked_at c moves.old (moved_old c (HearsNext (Faulty place bad)) b.slots b'.slots moves) was in
            let answers = subst (λ o. AnswersBehind o (next.Bad place bad) moves.old.from moves.moves.0) l.holds.unbroken moves.moves.1 in
            absurd (faultless l.sent bad moves.old.from.rest l.holds.spell answers.1)

    -- ---- messages are taken out

    module _ (at : EntersAt (entries.TakeOut c) reply b b') where
      abbrev ms : List Message
      ms = messages_for c b.machine

      abbrev now : List Link
      now = sent_to c ms links

      opened_still : (d : ℕ) → was_opened d b'.machine ≡ was_opened d b.machine
      opened_still d = opens_none connections b.machine (entries.TakeOut c) reply b'.machine at.steps d (λ e. cc)

      filled_linked : (moves : MovesAt c (GetsMessages ms) b.slots b'.slots) → Linked c moves.new now
      filled_linked moves =
          let l = linked_at c moves.old (moved_old c (GetsMessages ms) b.slots b'.slots moves) was in
          subst (λ (u : Slot). Linked c u now) (sym moves.moves)
          (record {
            sent = l.sent;
            there = changed_there c (filled ms) (λ k own. own) links ∙ ap (option_map (filled ms)) l.there;
            holds = record {
              spell = l.holds.spell;
              unbroken = l.holds.unbroken;
              keeps = l.holds.keeps;
              offers = all_append CanBeOffered moves.old.to ms l.holds.offers (messages_offered b.machine outboxes c);
            };
          })

      takes_by : (lacks : Bool) → lacks_memory reply ≡ lacks → UnlessLacking lacks b.slots b'.slots (MovesAt c (GetsMessages ms) b.slots b'.slots)
          → Led a (EntersDeed (entries.TakeOut c) reply) b b' ws links
      takes_by true e slots = rests (entries.TakeOut c) reply at.admitted at.steps (laid_out (lacks_memory reply) true links now links e refl) slots opened_still
      takes_by false e moves =
          enters (entries.TakeOut c) reply now at.admitted at.steps (laid_out (lacks_memory reply) false links now now e refl)
          (one_moves a b b' ws (event_of (entries.TakeOut c) reply now ∷ []) links now mirrors c (GetsMessages ms) moves was opened_still (filled_linked moves)
          (λ d other. others_there c (filled ms) (λ k own. own) d other links))

  -- ---- all entries

  plugged : (c : ℕ) → is_plugged c b.machine ≡ true → was_opened c b.machine ≡ true
  plugged c is = plugged_opened b.machine sound c is

  entry_led : (entry : Entry) (reply : Reply) → EntersAt entry reply b b' → Led a (EntersDeed entry reply) b b' ws links
  entry_led (entries.Open c) reply at = opens_by c reply at at.steps
  entry_led (entries.Heard c (Whole x)) reply at = hears_by c (plugged c at.may.0) reply x at (lacks_memory reply) refl at.slots
  entry_led (entries.Heard c (Faulty place bad)) reply at = hears_fault c (plugged c at.may.0) reply place bad at
  entry_led (entries.TakeOut c) reply at = takes_by c (plugged c at.may) reply at (lacks_memory reply) refl at.slots
  entry_led entry reply at =
      rests entry reply at.admitted at.steps refl at.slots (λ d. opens_none connections b.machine entry reply b'.machine at.steps d (λ e. cc))

  -- ---- a call

  module _ (c : ℕ) (call : Call) (reply : Reply) (at : CallsAt c call reply b b') where
    abbrev note : Entry
    note = entries.Note (note_of c call)

    was_plugged : was_opened c b.machine ≡ true
    was_plugged = plugged c at.plugged

    abbrev old_linked : Linked c at.slots.old links
    old_linked = linked_at c at.slots.old (moved_old c (CallsSlot call) b.slots b'.slots at.slots) was_plugged

    abbrev served : Served (CallBy call) c at.slots.old at.slots.new old_linked.sent
    served = serves one c at.slots.old old_linked.sent old_linked.holds call at.slots.new at.slots.moves

    abbrev done : ActedAt c served.own b.machine links (link_of c at.slots.new served.now)
    done = acted c b.machine served.own links (link_of c at.slots.old old_linked.sent) (link_of c at.slots.new served.now) old_linked.there served.run

    abbrev told : Event
    told = record { before = world_of b.machine done.behind; step = Enters note reply; behind = world_of b'.machine done.behind }

    call_led : Led a (Calls c call reply) b b' ws links
    call_led = record {
      own = done.events ++ told ∷ [];
      behind = done.behind;
      runs = runs_append (world_of b.machine links) done.events (told ∷ []) (world_of b.machine done.behind) (world_of b'.machine done.behind) done.runs
          (refl, record { admitted = tt; steps = at.noted; links = refl }, refl);
      by = (served.own, served.by, map-append (λ (e : Event). e.step) done.events (told ∷ []) ∙ ap (λ xs. xs ++ Enters note reply ∷ []) done.by);
      mirrors = one_moves a b b' ws (done.events ++ told ∷ []) links done.behind mirrors c (CallsSlot call) at.slots was_plugged
          (λ d. opens_none connections b.machine note reply b'.machine at.noted d (λ e. cc)) (record { sent = served.now; there = done.there; holds = served.holds }) done.others;
    }

  pub deed_led : (deed : Deed) → Does deed b b' → Led a deed b b' ws links
  deed_led (EntersDeed entry reply) at = entry_led entry reply at
  deed_led (Calls c call reply) at = call_led c call reply at
