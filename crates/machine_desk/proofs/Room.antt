-- Too many packets wait only where a further one came.
use Rattle.std.proofs.Common.{◌≡◌, ◌≢◌, arith, ℕ, ◌<◌, ◌≤◌, Bool, true, false, List, [], ◌∷◌, ◌++◌, suc, length, sym, ap, subst, ◌∙◌, refl}
use Rattle.std.specs.Prelude.{cond, filter}
use Rattle.of10_codec.specs.declared.message.Body.{Body}
use Rattle.switch_session.specs.declared.told.Heard.{Heard}
use Rattle.switch_session.specs.declared.told.Heard.TheVariants as heard
use Rattle.history_lock.specs.Histories.{AreAllowed, Replays}
use Rattle.machine_steps.proofs.Effects.{effect_of}
use Rattle.machine_steps.proofs.Messages.{made_of}
use Rattle.machine_steps.specs.declared.entry.Entry.{Entry}
use Rattle.machine_steps.specs.declared.entry.Entry.TheVariants as entries
use Rattle.machine_steps.specs.declared.entry.Input.TheVariants.{Message as Whole}
use Rattle.machine_steps.specs.declared.job.Job.{Job}
use Rattle.machine_steps.specs.declared.reply.Reply.{Reply}
use Rattle.machine_steps.specs.declared.reply.Reply.TheVariants.{Overload}
use Rattle.machine_steps.specs.Effects.{Effect, Hearing, IsPlain, tells_packet}
use Rattle.machine_steps.specs.Effects.Effect.{Advances, Accepts, AnswersJob, Empties, Ends, Misses, Moves, OpensSession, Outdates, Overflows, Quiets, Renews, Reports, Rests, RunsOut, Spends, Tells, TurnsAway, Waits}
use Rattle.machine_steps.specs.Machine.{Session, State, most_jobs}
use Rattle.machine_steps.specs.Messages.{Makes}
use Rattle.machine_steps.specs.Messages.Makes.{PassesOver, RefusesVersion, Greets, Echoes, IsNamed, BringsPacket, BringsPort, ComesEarly, LacksNumbers, Acknowledges, RefusesClearing, BreaksOff, IsRefused}
use Rattle.machine_steps.specs.Steps.{Steps}
use Rattle.machine_sharing.specs.Between.{Stays}
use Rattle.machine_sharing.specs.Legal.{turns_of}
use Rattle.machine_sharing.specs.Sharing.{Allows, Call, Turns}
use Rattle.machine_desk.specs.Arriving.{HasRoomFor, OthersFindRoom, TakesIn, brings_packet}
use Rattle.machine_desk.specs.Desks.{NoneOverflowed, NoneOverflows}

-- ---- where there is room

abbrev is_packet_in : Heard → Bool
is_packet_in (heard.PacketIn buffer in_port frame) = true
is_packet_in h = false

module _ (xid : ℕ) (b : Body) (s : Session) where
  brings : {h : Heard} {t : Session} → Makes xid b s h t → is_packet_in h ≡ true → brings_packet b ≡ true
  brings (BringsPacket is live) e = ap brings_packet is
  brings (PassesOver may) e = absurd (cc)
  brings (RefusesVersion is first) e = absurd (cc)
  brings (Greets is first) e = absurd (cc)
  brings (Echoes is other) e = absurd (cc)
  brings (IsNamed is second) e = absurd (cc)
  brings (BringsPort is live) e = absurd (cc)
  brings (ComesEarly is awaited early) e = absurd (cc)
  brings (LacksNumbers is to over) e = absurd (cc)
  brings (Acknowledges is to within) e = absurd (cc)
  brings (RefusesClearing is batch clearing) e = absurd (cc)
  brings (BreaksOff is change loud) e = absurd (cc)
  brings (IsRefused is why) e = absurd (cc)

abbrev is_crowded : Reply → Bool
is_crowded Overload = true
is_crowded reply = false

module _ (old : State) (entry : Entry) (reply : Reply) (new : State) (room : HasRoomFor entry old) (is : reply ≡ Overload) where
  other : (r : Reply) → reply ≡ r → is_crowded r ≡ false → ⊥
  other r e none = (let f : false ≡ true = sym none ∙ ap is_crowded (sym e ∙ is) in absurd (cc))

  plain : IsPlain reply → ⊥
  plain p = (let f : false ≡ true = sym (ap (λ x. x.1) p.0) ∙ ap tells_packet is in absurd (cc))

  packet : (h : Heard) (t : Session) → Hearing old entry h t → is_packet_in h ≡ true → length old.jobs < most_jobs
  packet h t from e =
      let P : Entry → Type 0 = λ x. HasRoomFor x old in
      let takes : TakesIn (Whole from.message) old = subst P from.is room in
      takes (brings from.message.xid from.message.body from.session (made_of from.message.xid from.session h t from.message.body from.hears) e)

  crowded : length old.jobs < most_jobs → most_jobs ≤ length old.jobs → ⊥
  crowded few many = omega (arith, few, many)

  by : Effect old entry reply new → ⊥
  by (RunsOut lacks) = other _ lacks.0 refl
  by (Rests p e) = plain p
  by (Misses number job r e) = other _ r refl
  by (Outdates number job differs r more e) = other _ r refl
  by (Tells p more e) = plain p
  by (Reports takes r e) = other _ r refl
  by (OpensSession d opens was few r e) = other _ r refl
  by (TurnsAway d opens was many r e) = other _ r refl
  by (Empties d s t bytes takes kept out r e) = other _ r refl
  by (Moves h t from moves p more e) = plain p
  by (Quiets kind code t from p e) = plain p
  by (Ends t end from r more e) = other _ r refl
  by (Advances u may can r e) = other _ r refl
  by (Renews p renews r e) = other _ r refl
  by (Accepts t dpid ports from r e) = other _ r refl
  by (Overflows t buffer frame k taught p many r e) = crowded (packet (heard.PacketIn buffer p.in_port frame) t p.hearing refl) many
  by (Waits t buffer frame k taught p few r e) = other _ r refl
  by (Spends j run r e) = other _ r refl
  by (AnswersJob j items cells d run a) = other _ a.replies refl

pub finds_room : (old : State) (entry : Entry) (reply : Reply) (new : State) → HasRoomFor entry old → Steps old entry reply new → reply ≢ Overload
finds_room old entry reply new room steps is = by old entry reply new room is (effect_of old reply new entry steps)

-- ---- it stays, whatever others do

fewer : (p : Job → Bool) (jobs : List Job) → length (filter p jobs) ≤ length jobs
fewer p [] = omega arith
fewer p (j ∷ js) = step (p j) (fewer p js)
  where
    step : (b : Bool) → length (filter p js) ≤ length js → length (cond b (j ∷ filter p js) (filter p js)) ≤ suc (length js)
    step true h = omega (arith, h)
    step false h = omega (arith, h)

left : (m n : State) → Stays m n → length m.jobs < most_jobs → length n.jobs < most_jobs
left m n s few =
    let is : length n.jobs ≡ length (filter s.jobs.0 m.jobs) = ap length s.jobs.1 in
    let less = fewer s.jobs.0 m.jobs in
    omega (arith, is, less, few)

pub room_stays : (entry : Entry) (m n : State) → Stays m n → HasRoomFor entry m → HasRoomFor entry n
room_stays (entries.Heard c input) m n s room = λ packet. left m n s (room packet)
room_stays (entries.Open c) m n s room = tt
room_stays (entries.Gone c fault) m n s room = tt
room_stays (entries.Change update) m n s room = tt
room_stays (entries.NewPolicy policy) m n s room = tt
room_stays (entries.ReadCell cell) m n s room = tt
room_stays entries.ReadPolicy m n s room = tt
room_stays (entries.ReadRules switch) m n s room = tt
room_stays entries.OpenJobs m n s room = tt
room_stays (entries.Commit job run) m n s room = tt
room_stays (entries.Decide job) m n s room = tt
room_stays (entries.TakeOut c) m n s room = tt
room_stays entries.TakeReport m n s room = tt
room_stays (entries.Note note) m n s room = tt

-- ---- what others do needs none

allowed_room : (log : List Call) (entry : Entry) (m : State) → Allows log entry → HasRoomFor entry m
allowed_room log entries.ReadPolicy m is = tt
allowed_room log (entries.ReadCell cell) m is = tt
allowed_room log entries.OpenJobs m is = tt
allowed_room log (entries.Commit job run) m is = tt
allowed_room log (entries.Decide job) m is = tt
allowed_room log entry m is = absurd is

pub calls_find_room : (log calls : List Call) (m n : State) → AreAllowed Allows log calls → Replays Turns m calls n → NoneOverflowed calls
calls_find_room log [] m n all e = tt
calls_find_room log (e ∷ es) m n (is, all) (made, rest) =
    (finds_room m e.entry e.reply e.behind (allowed_room log e.entry m is) made.steps, calls_find_room (log ++ e ∷ []) es e.behind n all rest)

-- ---- in more calls, and of turns

pub none_append : (xs ys : List Call) → NoneOverflowed xs → NoneOverflowed ys → NoneOverflowed (xs ++ ys)
none_append [] ys h k = k
none_append (x ∷ xs) ys (one, h) k = (one, none_append xs ys h k)

pub turns_found : (m : State) (calls : List Call) → NoneOverflowed calls → NoneOverflows (turns_of m calls)
turns_found m [] none = tt
turns_found m (e ∷ es) (one, none) = (one, turns_found e.behind es none)

pub others_find_room : OthersFindRoom
others_find_room log others m n all replays = turns_found m others (calls_find_room log others m n all replays)
