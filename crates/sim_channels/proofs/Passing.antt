-- What is known behind one message.
use Rattle.std.proofs.Common.{◌≡◌, ◌≢◌, ℕ, ◌+◌, ◌<◌, true, false, List, [], ◌++◌, length, set, refl, sym, ap, ◌∙◌, subst, inl, inr, arith}
use Rattle.std.specs.Prelude.{Option, Some, None, Result, Ok, Err, OnOk, is_some}
use Rattle.std.specs.List.{AllByRecursion, slice_get}
use Rattle.std.specs.Vec.{with_item}
use Rattle.std.proofs.lemmas.List.{set-set}
use Rattle.std.proofs.lemmas.Option.{same_Some}
use Rattle.machine_desk.specs.Homes.{rest_of}
use Rattle.policy_lang.specs.declared.Policy.{Policy}
use Rattle.of10_codec.specs.declared.fault.Bad.{Bad as Fault}
use Rattle.of10_stream.specs.declared.reassembly.Next.TheVariants.{More}
use Rattle.of10_stream.specs.Steps.{AnswersBehind, Held, Stream, Tells}
use Rattle.device_port.specs.Devices.{Meaning}
use Rattle.machine_desk.specs.Desks.{DeskView, Enters as DeskEnters, calls_of}
use Rattle.machine_desk.specs.Laws.{Meanwhile}
use Rattle.machine_desk.specs.Orders.{Stops}
use Rattle.machine_desk.specs.declared.asking.DeskStop.{DeskStop}
use Rattle.machine_desk.specs.Hearing.{Comes, ComesAt as ComesBy, came_of, heard_by, stage_heard, told_as}
use Rattle.machine_desk.specs.declared.hearing.Heard.{Heard}
use Rattle.machine_desk.specs.declared.hearing.Heard.TheVariants as heards
use Rattle.machine_desk.specs.declared.inbound.Inbound.{Inbound}
use Rattle.machine_desk.specs.declared.inbound.Stage.{Stage}
use Rattle.machine_desk.specs.declared.inbound.Stage.TheVariants.{Live, Over, Unopened}
use Rattle.machine_moves.specs.Told.{WaitsAs, is_end, is_new_state}
use Rattle.machine_steps.specs.declared.entry.Entry.{Entry}
use Rattle.machine_steps.specs.declared.entry.Entry.TheVariants as entries
use Rattle.machine_steps.specs.declared.entry.Input.{Input}
use Rattle.machine_steps.specs.declared.entry.Input.TheVariants.{Message as Whole, Bad}
use Rattle.machine_steps.specs.declared.job.Job.{Job}
use Rattle.machine_steps.specs.declared.reply.Reply.{Reply}
use Rattle.machine_steps.specs.declared.reply.Reply.TheVariants.{NoMemory, Ended, NewState, Job as JobOpened, Overload}
use Rattle.machine_steps.specs.Admitting.{IsHeard as CanBeHeard}
use Rattle.machine_steps.specs.Machine.{State, session_at}
use Rattle.machine_steps.specs.Steps.{HearsInput as StepHears, Steps}
use Rattle.world_steps.specs.Worlds.{lacks_memory}
use Rattle.sim_steps.specs.Benches.{MovesAt, is_plugged, slot_at}
use Rattle.sim_steps.specs.Deeds.{EntersAt, HearsNext as HearsSlot, NextIs, UnlessLacking}
use Rattle.sim_steps.specs.Parts.{IsHeardOut}
use Rattle.sim_steps.specs.Stretches.{Carried}
use Rattle.sim_steps.proofs.Broken.{broken_carried}
use Rattle.sim_steps.proofs.Moments.{carried_heard}
use Rattle.sim_steps.proofs.Silent.{carried_along}
use Rattle.sim_channels.specs.declared.channel.Channel.{Channel}
use Rattle.sim_channels.specs.declared.driver.Driver.{Driver}
use Rattle.machine_desk.specs.declared.hearing.Came.{Came}
use Rattle.machine_desk.specs.declared.hearing.Came.TheVariants.{Nothing}
use Rattle.machine_desk.specs.declared.stopped.Stopped.{Stopped}
use Rattle.sim_channels.specs.Channels.{BreaksOffOver, CarriedOver, EntersNext, IsFresh, IsKept, IsSame, OthersDid, Tends, WorksAlone, bench, slot_by, slots_of, with_inbound}
use Rattle.machine_desk.specs.Driving.{DrivingLaws}
use Rattle.sim_channels.specs.Passes.{ComesAt, Follows, HasHeard, HearsAt, HearsInput, HearsNext, MakesRoom, MakesRoomFor, Passed, rest_at}
use Rattle.sim_channels.specs.Waiting.{IsOffered, NoneWaits}
use Rattle.sim_channels.proofs.Answering.{AllBy, Answers, answers_by, others_along}
use Rattle.sim_channels.proofs.Broken.{broken_meanwhile, broken_stop}
use Rattle.sim_channels.proofs.Bytes.{gets_shorter}
use Rattle.sim_channels.proofs.Keeping.{elsewhere, reached_sound}
use Rattle.sim_channels.proofs.Kept.{ChannelAt, is_as_long, is_beside, is_there, kept_but, plugged_at, staged_as, waits_as, while_there}
use Rattle.sim_channels.proofs.Making.{had_memory}
use Rattle.sim_channels.proofs.Others.{ahead, alone_back, alone_on, channel_stays, enters_next, items_stay, others_ahead, others_carried, same_but, same_then, tends_channel, tends_kept, tends_learning, tends_none, tends_of}
use Rattle.sim_channels.proofs.Places.{there_too}
use Rattle.sim_channels.proofs.Resting.{hears_in_order}
use Rattle.sim_channels.proofs.Slots.{set_there, slot_next, slots_alike, slots_channel, slots_get}
use Rattle.sim_channels.proofs.Tended.{as_long, by_crew, carried_tends, over_ahead, over_none, over_then, passed_ahead, tends_still}

-- ---- what is carried

-- a packet is answered
over_answers : (old new : Driver) → Answers old.desk new.desk → new.channels.items ≡ old.channels.items → CarriedOver old new
over_answers old new h channels_same = λ ds long. subst (Carried (bench old ds)) (bench_is ds) (carried_along (bench old ds) h.turns new.desk.now h.leads h.allowed h.easy)
  where
    bench_is : (ds : List Meaning) → record (bench old ds) { past = old.desk.past ++ h.turns; machine = new.desk.now } ≡ bench new ds
    bench_is ds = λ i. record { past = sym h.past i; machine = new.desk.now; slots = slots_of (sym channels_same i) ds }

-- ---- what comes of a stream

-- nothing
heard_out : (s t : Stream) → Tells More s t → (t ≡ s) × IsHeardOut s
heard_out s t h = go s.broken refl h
  where
    go : (broken : Option (ℕ × Fault)) → s.broken ≡ broken → AnswersBehind broken More s t → (t ≡ s) × IsHeardOut s
    go None whole a = (a.1, record { unbroken = whole; open_end = a.0 })
    go (Some fault) e a = (let f = a.0 in absurd (cc))

none_came : (i j : Inbound) → Comes None i j → (j.from.stream ≡ i.from.stream) × (i.stage ≡ Live → IsHeardOut i.from.stream)
none_came i j comes = go i.stage refl comes.0
  where
    go : (stage : Stage) → i.stage ≡ stage → ComesBy stage None i.from j.from → (j.from.stream ≡ i.from.stream) × (i.stage ≡ Live → IsHeardOut i.from.stream)
    go Live e tells = (let h = heard_out i.from.stream j.from.stream tells in (h.0, λ live. h.1))
    go Unopened e h = (ap (λ (x : Held). x.stream) h.1, λ live. (let f : Unopened ≡ Live = sym e ∙ live in absurd (cc)))
    go Over e h = (ap (λ (x : Held). x.stream) h.1, λ live. (let f : Over ≡ Live = sym e ∙ live in absurd (cc)))

next_is : (input : Input) (s t : Stream) → Tells (told_as (Some input)) s t → NextIs input s t
next_is (Whole x) s t h = h
next_is (Bad place bad) s t h = h

-- of what comes next: the session is open
some_came : (input : Input) (i j : Inbound) → Comes (Some input) i j → (i.stage ≡ Live) × NextIs input i.from.stream j.from.stream
some_came input i j comes = go i.stage refl comes.0
  where
    go : (stage : Stage) → i.stage ≡ stage → ComesBy stage (Some input) i.from j.from → (i.stage ≡ Live) × NextIs input i.from.stream j.from.stream
    go Live e tells = (e, next_is input i.from.stream j.from.stream tells)
    go Unopened e h = (let f = h.0 in absurd (cc))
    go Over e h = (let f = h.0 in absurd (cc))

-- ---- at a place

module _ (here : ℕ) (k : Channel) (j : Inbound) (old : Driver) (there : slice_get old.channels.items here ≡ Some k) (found : Option Input) (comes : Comes found k.inbound j) where
  abbrev taken : Driver
  taken = record old { channels = with_item old.channels here (with_inbound j k) }

  pub comes_at : ComesAt here found old taken
  comes_at = record { connection = k; there = there; behind = j; does = comes; rest = refl; all = refl }

  -- who never was plugged in has nothing
  still_fresh : IsKept old → j.stage ≡ Unopened → IsFresh (with_inbound j k)
  still_fresh kept unopened =
      let was : k.inbound.stage ≡ Unopened = sym comes.1.1 ∙ unopened in
      let stays = subst (λ stage. ComesBy stage found k.inbound.from j.from) was comes.0 in
      let f = kept.fresh here k there was in
      record { to = f.to; from = ap (λ (x : Held). x.stream) stays.1 ∙ f.from }

  pub kept_taken : IsKept old → IsKept taken
  kept_taken kept =
      kept_but here k (with_inbound j k) old taken (record { there = there; channels = refl; same = same_but old taken refl refl }) kept refl kept.reached
      (record { name = comes.1.0 ∙ kept.names here k there; staged = staged_as k.inbound j old.desk.now comes.1 (kept.sessions.staged here k there); fresh = still_fresh kept })
      (λ c o. record { live = refl; opened = refl })

pub passed_nothing : (here : ℕ) (old new : Driver) → ComesAt here None old new → IsSame old new → IsKept new → (WorksAlone old → NoneWaits old.desk) → IsOffered here old → Passed here old new Nothing
passed_nothing here old new h same kept none offered = (
  record {
    kept = kept;
    carried = over_none old new bench_same;
    jobs = λ alone. ap (λ (d : DeskView). d.now.jobs) desk ∙ none alone;
    offered = while_there here h.connection l old new at (λ x. x.to ≡ []) (λ live. offered h.connection h.there (sym session ∙ live));
    channels = record { count = is_as_long here h.connection l old new at; others = is_beside here h.connection l old new at; waiting = waits_as here h.connection l old new at refl };
    others = λ untold no_hosts. record { sessions = λ alone c o. ap (λ (d : DeskView). session_at c d.now) desk; channels = is_beside here h.connection l old new at };
    same = same;
    learning = ap (λ (d : DeskView). d.now.policy.learning) desk;
  },
  (while_there here h.connection l old new at (λ x. IsHeardOut x.inbound.from.stream) (λ live. subst IsHeardOut (sym came.0) (came.1 (sym session ∙ live))), desk),
)
  where
    l : Channel
    l = with_inbound h.behind h.connection

    at : ChannelAt here h.connection l old new
    at = record { there = h.there; channels = h.all; same = same }

    desk : new.desk ≡ old.desk
    desk = ap (λ (x : Driver). x.desk) h.rest

    session : h.behind.stage ≡ h.connection.inbound.stage
    session = h.does.1.1

    came : (h.behind.from.stream ≡ h.connection.inbound.from.stream) × (h.connection.inbound.stage ≡ Live → IsHeardOut h.connection.inbound.from.stream)
    came = none_came h.connection.inbound h.behind h.does

    bench_same : (ds : List Meaning) → bench new ds ≡ bench old ds
    bench_same ds =
        let slots = ap (λ ks. slots_of ks ds) h.all ∙ slots_alike old.channels.items ds here h.connection l h.there refl came.0 in
        λ i. record { past = (desk i).past; machine = (desk i).now; slots = slots i }

-- ---- a message, or the fault that ends the session

-- fewer bytes are left where the session goes on
shorter : (c : ℕ) (input : Input) (s t : Stream) (m : State) (reply : Reply) (n : State) → NextIs input s t → StepHears c input m reply n → is_plugged c m ≡ true → is_end reply ≡ false
    → length t.rest < length s.rest
shorter c (Whole x) s t m reply n next h plugged goes_on = gets_shorter x s t next
shorter c (Bad place bad) s t m reply n next (inl (none, passes)) plugged goes_on = (let f : true ≡ false = sym plugged ∙ ap is_some none in absurd (cc))
shorter c (Bad place bad) s t m reply n next (inr (session, found, r, e)) plugged goes_on = (let f : false ≡ true = sym goes_on ∙ ap is_end r in absurd (cc))

-- what is known behind its reply
pub record Replied (here : ℕ) (old mid : Driver) (reply : Reply) : Type 0 where
  pub laws : DrivingLaws
  pub kept : IsKept old
  pub now_kept : IsKept mid
  pub none : WorksAlone old → NoneWaits old.desk
  pub offered : IsOffered here old
  pub input : Input
  pub k : Channel
  pub i : Inbound
  pub live : k.inbound.stage ≡ Live
  pub stage : i.stage ≡ stage_heard (heard_by reply) Live
  pub next : NextIs input k.inbound.from.stream i.from.stream
  pub can : CanBeHeard input
  pub at : ChannelAt here k (with_inbound i k) old mid
  pub entered : EntersNext (entries.Heard (here + 1) input) reply old.desk mid.desk
  pub few : reply ≢ Overload
  pub memory : lacks_memory reply ≡ false

module _ (here : ℕ) (old mid : Driver) (reply : Reply) (h : Replied here old mid reply) where
  open h use {laws, kept, now_kept, none, offered, input, k, i, live, next, can, at, entered, memory}

  abbrev l : Channel
  l = with_inbound i k

  abbrev Hearing : Entry
  Hearing = entries.Heard (here + 1) input

  steps : Steps old.desk.now Hearing reply mid.desk.now
  steps = entered.made.steps

  waits : WorksAlone old → WaitsAs (here + 1) reply mid.desk.now.jobs
  waits alone = laws.jobs old.desk.now (here + 1) input reply mid.desk.now (none alone) steps

  is_open : is_plugged (here + 1) old.desk.now ≡ true
  is_open = plugged_at old here k kept at.there live

  module _ (ds : List Meaning) (d : Meaning) (its : slice_get ds here ≡ Some d) where
    found : slot_at (here + 1) (slots_of old.channels.items ds) ≡ Some (slot_by k d)
    found = slot_next here (slots_of old.channels.items ds) ∙ slots_get old.channels.items ds here k d at.there its

    moves : MovesAt (here + 1) (HearsSlot input) (slots_of old.channels.items ds) (slots_of mid.channels.items ds)
    moves =
        subst (λ ks. MovesAt (here + 1) (HearsSlot input) (slots_of old.channels.items ds) (slots_of ks ds)) (sym at.channels)
        (slots_channel old.channels.items ds here k l d (HearsSlot input) at.there its (i.from.stream, next, refl))

    enters : EntersAt Hearing reply (bench old ds) (bench mid ds)
    enters = record {
      may = (is_open, (slot_by k d, i.from.stream, found, next));
      admitted = can;
      steps = steps;
      slots =
          subst (λ b. UnlessLacking b (slots_of old.channels.items ds) (slots_of mid.channels.items ds) (MovesAt (here + 1) (HearsSlot input) (slots_of old.channels.items ds) (slots_of mid.channels.items ds)))
          (sym memory) moves;
      past = entered.past;
    }

  over : CarriedOver old mid
  over = λ ds long.
      (let d = there_too ds old.channels.items here k long at.there in
      carried_heard (here + 1) input reply (bench old ds) (bench mid ds) (hears_in_order old ds here input reply kept none offered) memory (enters ds d.0 d.1))

  sessions : is_new_state reply ≡ false → old.desk.now.policy.learning ≡ false → (c : ℕ) → (c ≡ here + 1 → ⊥) → session_at c mid.desk.now ≡ session_at c old.desk.now
  sessions untold no_hosts c other =
      laws.others old.desk.now Hearing reply mid.desk.now (reached_sound laws old.desk.now kept.reached) steps
      (laws.states old.desk.now Hearing reply mid.desk.now steps no_hosts untold) c (elsewhere here c other)

  -- what is known behind what is done about it
  module _ (new : Driver) (tends : Tends mid new) where
    stays : (n : ℕ) → slice_get new.channels.items n ≡ slice_get mid.channels.items n
    stays = channel_stays laws mid new now_kept tends

    others_stay : (n : ℕ) → (n ≡ here → ⊥) → slice_get new.channels.items n ≡ slice_get old.channels.items n
    others_stay n other = stays n ∙ is_beside here k l old mid at n other

    heard_so : CarriedOver mid new → (WorksAlone old → NoneWaits new.desk) → (WorksAlone old → (c : ℕ) → (c ≡ here + 1 → ⊥) → session_at c new.desk.now ≡ session_at c mid.desk.now)
        → HasHeard here (is_new_state reply) old new
    heard_so carried jobs still = record {
      kept = tends_kept laws mid new now_kept tends;
      carried = over_then old mid new (is_as_long here k l old mid at) over carried;
      jobs = jobs;
      offered = tends_channel laws mid new now_kept tends (λ x. x.to ≡ []) here (while_there here k l old mid at (λ x. x.to ≡ []) (λ open_now. offered k at.there live));
      channels = record {
        count = ap length (items_stay laws mid new now_kept tends) ∙ is_as_long here k l old mid at;
        others = others_stay;
        waiting = λ x y was there. waits_as here k l old mid at refl x y was (sym (stays here) ∙ there);
      };
      others = λ untold no_hosts. record { sessions = λ alone c other. still alone c other ∙ sessions untold no_hosts c other; channels = others_stay };
      same = same_then old mid new at.same tends.same;
      learning = tends_learning laws mid new now_kept tends ∙ ap (λ (p : Policy). p.learning) (laws.policy old.desk.now Hearing reply mid.desk.now steps);
    }

    fewer : is_end reply ≡ false → rest_at here new < rest_at here old
    fewer goes_on =
        let less = shorter (here + 1) input k.inbound.from.stream i.from.stream old.desk.now reply mid.desk.now next steps is_open goes_on in
        let before : rest_at here old ≡ length k.inbound.from.stream.rest = ap (rest_of (λ (c : Channel). c.inbound)) at.there in
        let behind : rest_at here new ≡ length i.from.stream.rest = ap (rest_of (λ (c : Channel). c.inbound)) (stays here ∙ is_there here k l old mid at) in
        omega (arith, less, before, behind)

  -- nothing else
  plain : (WorksAlone old → NoneWaits mid.desk) → HasHeard here (is_new_state reply) old mid
  plain jobs = heard_so mid (tends_still mid) (over_none mid mid (λ ds. refl)) jobs (λ alone c other. refl)

-- by what the machine made of the input
follows : (here : ℕ) (old mid : Driver) (reply : Reply) → Replied here old mid reply → (new : Driver) → Follows (heard_by reply) mid new
    → Passed here old new (came_of (heard_by reply))
follows here old mid NoMemory h new f = (let e : true ≡ false = h.memory in absurd (cc))
follows here old mid (JobOpened item) h new f = (heard, fewer here old mid reply h new f.tends refl)
  where
    reply : Reply
    reply = JobOpened item

    heard : HasHeard here false old new
    heard =
        by_crew mid
        (λ alone.
        (let done = f.alone alone in
        let (one, waits_now, is, its) = waits here old mid reply h (alone_back old mid h.at.same alone) in
        let answers = answers_by h.laws item done.worked mid.desk new.desk (h.now_kept.crew.alone alone) one waits_now is done.works done.whole in
        let by : AllBy (here + 1) mid.desk.now = subst (AllByRecursion (λ (j : Job). j.connection ≡ here + 1)) (sym waits_now) (its, tt) in
        heard_so here old mid reply h new f.tends (over_answers mid new answers (items_stay h.laws mid new h.now_kept f.tends)) (λ none. answers.none)
        (λ none. others_along h.laws (here + 1) (calls_of mid.desk.past) mid.desk.now answers.turns new.desk.now h.now_kept.reached by answers.leads answers.allowed)))
        (λ beside.
        (let some : WorksAlone old → ⊥ = λ none. beside (alone_on old mid h.at.same none) in
        heard_so here old mid reply h new f.tends (carried_tends h.laws mid new h.now_kept f.tends beside) (λ none. absurd (some none)) (λ none. absurd (some none))))
follows here old mid (Ended end) h new e =
    let reply = Ended end in
    subst (λ x. Passed here old x (came_of (heard_by reply))) (sym e) (
      plain here old mid reply h (waits here old mid reply h),
      while_there here h.k (with_inbound h.i h.k) old mid h.at (λ x. IsHeardOut x.inbound.from.stream) (λ live. (let f : Over ≡ Live = sym h.stage ∙ live in absurd (cc))),
    )
follows here old mid (NewState state pruned) h new e =
    let reply = NewState state pruned in
    subst (λ x. Passed here old x (came_of (heard_by reply))) (sym e) (plain here old mid reply h (waits here old mid reply h), fewer here old mid reply h mid (tends_still mid) refl)
follows here old mid Overload h new e = absurd (h.few refl)
follows here old mid other h new e =
    subst (λ x. Passed here old x (came_of (heard_by other))) (sym e) (plain here old mid other h (waits here old mid other h), fewer here old mid other h mid (tends_still mid) refl)

-- ---- one behind the other

pub room_for : (input : Input) (old new : Driver) (result : Result (Unit {0}) Stopped) → OnOk result (MakesRoom old new) → OnOk result (MakesRoomFor input old new)
room_for input old new (Ok done) h = record { tends = h.tends; alone = h.alone; room = λ packet. h.room; asked = λ packet. h.asked }
room_for input old new (Err stopped) h = tt

pub hears_next : (here : ℕ) (came : Came) (old new : Driver) → HearsInput here came old new → HearsNext here came old new
hears_next here came old new h = subst (λ x. HearsInput here x old new → HearsNext here x old new) (sym h.told) (told h.heard) h
  where
    told : (heard : Heard) → HearsInput here (came_of heard) old new → HearsNext here (came_of heard) old new
    told heards.Ended so = so
    told heards.State so = so
    told heard so = so

-- what came next, and that room was made for it
module _ (laws : DrivingLaws) (here : ℕ) (old : Driver) (input : Input) (next : Driver) (comes : ComesAt here (Some input) old next) (place : Driver) (makes : MakesRoomFor input next place)
    (kept : IsKept old) where
  abbrev k : Channel
  k = comes.connection

  abbrev took : Channel
  took = with_inbound comes.behind k

  -- room was made, as if the channel was as before
  abbrev first : Driver
  first = record old { channels = next.channels }

  abbrev roomy : Driver
  roomy = record old { desk = place.desk; crew = place.crew }

  room : MakesRoomFor input first place
  room = subst (λ x. MakesRoomFor input x place) comes.rest makes

  made : Tends old roomy
  made = record { meanwhile = room.tends.meanwhile; rest = refl; same = record { footing = room.tends.same.footing; crew = room.tends.same.crew } }

  kept_roomy : IsKept roomy
  kept_roomy = tends_kept laws old roomy kept made

  still_alone : WorksAlone old → roomy ≡ old
  still_alone alone = ap (λ (d : Driver). record old { desk = d.desk; crew = d.crew }) (room.alone alone)

  over_roomy : CarriedOver old roomy
  over_roomy = over_ahead laws old roomy kept made still_alone here old

  items : place.channels.items ≡ set old.channels.items here took
  items = ap (λ (x : Driver). x.channels.items) room.tends.rest ∙ comes.all

  live : (k.inbound.stage ≡ Live) × NextIs input k.inbound.from.stream comes.behind.from.stream
  live = some_came input k.inbound comes.behind comes.does

  -- memory didn't suffice for it, or the hall is worn
  pub broken_hearing : (new : Driver) (stop : DeskStop) → Stops stop (entries.Heard (here + 1) input) place.desk new.desk → BreaksOffOver old new
  broken_hearing new stop stops ds long =
      let d = there_too ds old.channels.items here k long comes.there in
      broken_carried (bench old ds) (bench roomy ds) new.desk.past (over_roomy ds long)
      (broken_stop laws roomy kept_roomy ds (entries.Heard (here + 1) input) new.desk stop stops (λ mid did kept_mid same.
      (let there = ap (λ (ks : List Channel). slice_get ks here) same ∙ comes.there in (
        plugged_at mid here k kept_mid there live.0,
        (slot_by k d.0, comes.behind.from.stream, slot_next here (slots_of mid.channels.items ds) ∙ slots_get mid.channels.items ds here k d.0 there d.1, live.1),
      ))))

  -- and it was heard
  module _ (heard : Heard) (hearing : Driver) (hears : HearsAt here input heard place hearing) (can : CanBeHeard input) (now_kept : IsKept hearing) (same : IsSame place hearing)
      (jobs : WorksAlone old → NoneWaits old.desk) (offered : IsOffered here old) where
    abbrev reply : Reply
    reply = hears.does.reply

    was : hears.connection ≡ took
    was = same_Some hears.connection took (sym hears.there ∙ ap (λ ks. slice_get ks here) items ∙ set_there old.channels.items here k took comes.there)

    -- it was heard behind what others did
    entered : DeskEnters place.desk (entries.Heard (here + 1) input) reply hearing.desk
    entered =
        subst (λ n. DeskEnters place.desk (entries.Heard n input) reply hearing.desk)
        (ap (λ (x : Channel). x.inbound.connection) was ∙ comes.does.1.0 ∙ kept.names here k comes.there) hears.does.asks.enters

    abbrev before : Driver
    before = ahead roomy (entries.Heard (here + 1) input) reply hearing.desk kept_roomy entered

    others : OthersDid roomy before
    others = others_ahead roomy (entries.Heard (here + 1) input) reply hearing.desk kept_roomy entered

    abbrev did : Tends roomy before
    did = tends_of roomy before others

    replied : Replied here before hearing reply
    replied = record {
      laws = laws;
      kept = tends_kept laws roomy before kept_roomy did;
      now_kept = now_kept;
      none = λ alone. tends_none laws roomy before kept_roomy did (tends_none laws old roomy kept made (jobs (alone_back old roomy made.same alone)));
      offered = offered;
      input = input;
      k = k;
      i = hears.behind;
      live = live.0;
      stage = ap (λ (i : Inbound). i.stage) hears.does.stage ∙ ap (λ (x : Channel). stage_heard heard x.inbound.stage) was ∙ ap (stage_heard heard) (comes.does.1.1 ∙ live.0)
          ∙ ap (λ x. stage_heard x Live) hears.does.heard_is;
      next = subst (NextIs input k.inbound.from.stream) (sym (ap (λ (i : Inbound). i.from.stream) hears.does.stage ∙ ap (λ (x : Channel). x.inbound.from.stream) was)) live.1;
      can = can;
      at = record {
        there = comes.there;
        channels = hears.all ∙ ap (λ xs. set xs here (with_inbound hears.behind hears.connection)) items
            ∙ set-set old.channels.items here took (with_inbound hears.behind hears.connection) ∙ ap (λ x. set old.channels.items here (with_inbound hears.behind x)) was;
        same = record { footing = same.footing; crew = same.crew };
      };
      entered = enters_next roomy (entries.Heard (here + 1) input) reply hearing.desk kept_roomy entered;
      few = hears.does.asks.enters.room;
      memory = had_memory reply hears.does.asks.memory;
    }

    over_hearing : CarriedOver old hearing
    over_hearing =
        over_then old roomy hearing (as_long laws old roomy kept made) over_roomy
        (over_then roomy before hearing (as_long laws roomy before kept_roomy did) (others_carried laws roomy before kept_roomy others) (over here before hearing reply replied))

    -- what was to be done about it was broken off
    pub broken_behind_it : (new : Driver) → Meanwhile hearing.desk new.desk → BreaksOffOver old new
    broken_behind_it new meanwhile ds long =
        broken_carried (bench old ds) (bench hearing ds) new.desk.past (over_hearing ds long) (broken_meanwhile hearing new.desk meanwhile ds)

    pub passed_by : (new : Driver) (came : Came) → came ≡ came_of heard → Follows heard hearing new → Passed here old new came
    passed_by new came told follows_so =
        subst (Passed here old new) (sym (told ∙ ap came_of hears.does.heard_is))
        (passed_ahead laws old roomy kept made still_alone here new (heard_by reply)
        (passed_ahead laws roomy before kept_roomy did others.alone here new (heard_by reply)
        (follows here before hearing reply replied new (subst (λ x. Follows x hearing new) hears.does.heard_is follows_so))))
