-- What is kept of a connection agrees behind one more input that was heard of it.
use Rattle.std.proofs.Common.{◌≡◌, ℕ, ◌+◌, ◌<◌, Bool, true, false, ◌&&◌, ◌||◌, not, [], ◌∷◌, ◌++◌, length, length-append, append-nil, refl, sym, ap, ◌∙◌, subst, inl, inr, arith, List}
use Rattle.std.specs.Prelude.{Option, Some, None, is_some}
use Rattle.std.specs.List.{list_all}
use Rattle.std.proofs.lemmas.Bool.{eq-eqb}
use Rattle.std.proofs.lemmas.List.Folds.{list_all-append}
use Rattle.maple_io.specs.Boards.{sent, was_closed, was_opened}
use Rattle.of10_codec.specs.declared.message.Message.{Message}
use Rattle.of10_codec.specs.declared.fault.Bad.{Bad as Fault}
use Rattle.of10_codec.specs.Messages.{Spelled}
use Rattle.of10_stream.specs.declared.reassembly.Next.{Next}
use Rattle.of10_stream.specs.Cut.{IsBad}
use Rattle.of10_stream.specs.Steps.{Answers, AnswersBehind, Stream, Takes, Tells}
use Rattle.machine_steps.specs.declared.entry.Entry.TheVariants as entries
use Rattle.machine_steps.specs.declared.entry.Input.{Input}
use Rattle.machine_steps.specs.declared.entry.Input.TheVariants.{Message as Whole, Bad}
use Rattle.machine_steps.specs.declared.reply.Reply.{Reply}
use Rattle.machine_steps.specs.declared.reply.Reply.TheVariants.{Ended}
use Rattle.machine_steps.specs.Machine.{State, session_at}
use Rattle.machine_steps.specs.Steps.{Steps}
use Rattle.machine_desk.specs.Desks.{turn}
use Rattle.machine_desk.specs.Hearing.{Comes, heard_by, is_live, stage_heard, told_as, was_begun}
use Rattle.machine_desk.specs.declared.inbound.Inbound.{Inbound}
use Rattle.machine_desk.specs.declared.inbound.Stage.{Stage}
use Rattle.machine_desk.specs.declared.inbound.Stage.TheVariants.{Live}
use Rattle.machine_desk.proofs.Arrived.{some_came}
use Rattle.world_steps.specs.Worlds.{lacks_memory}
use Rattle.sim_steps.specs.Agreeing.{AreCut}
use Rattle.serve_steps.specs.Deeds.{Past, acts_of, bytes_of, inputs_of, is_open, is_over, taken_of, tells_end, tells_link_end, was_accepted, was_cut}
use Rattle.serve_steps.specs.Deeds.Deed.{Enters}
use Rattle.serve_channels.specs.declared.connection.Connection.{Connection}
use Rattle.serve_channels.specs.Keeping.{Agrees, IsHeardTo, is_message}
use Rattle.serve_channels.specs.Servers.{number_of, with_inbound}
use Rattle.serve_channels.proofs.Alike.{or_first}

-- ---- bytes are cut on: further inputs stand behind messages

-- what is left is cut into these, from its place on
abbrev GoOn : ℕ → List Input → List ℕ → List ℕ → List ℕ → Type 0
GoOn p more bytes rest last = (q : ℕ) → q + length rest ≡ p + length bytes → AreCut q more rest last

further : (p : ℕ) (front behind bytes rest : List ℕ) (q : ℕ) → bytes ≡ front ++ behind → q + length rest ≡ (p + length front) + length behind
    → q + length rest ≡ p + length bytes
further p front behind bytes rest q parts e =
    let long : length bytes ≡ length front + length behind = ap length parts ∙ length-append front behind in omega (arith, long, e)

-- behind messages the cut goes on in what they leave
pub cut_then : (p : ℕ) (inputs more : List Input) (bytes rest last : List ℕ) → list_all is_message inputs ≡ true → AreCut p inputs bytes rest → GoOn p more bytes rest last
    → AreCut p (inputs ++ more) bytes last
cut_then p [] more bytes rest last all cut on = subst (λ bs. AreCut p more bs last) cut (on p (ap (λ bs. p + length bs) cut))
cut_then p (Whole x ∷ inputs) more bytes rest last all cut on =
    let (front, behind, parts, spelled, later) = cut in
    (front, behind, parts, spelled, cut_then (p + length front) inputs more behind rest last all later (λ q e. on q (further p front behind bytes rest q parts e)))
cut_then p (Bad place bad ∷ inputs) more bytes rest last all cut on = absurd (cc)

same_place : (at place : ℕ) (bytes rest : List ℕ) → place + length rest ≡ length bytes → at + length rest ≡ 0 + length bytes → at ≡ place
same_place at place bytes rest e f = omega (arith, e, f)

-- one more message
pub cut_message : (inputs : List Input) (x : Message) (bytes rest front behind : List ℕ) → list_all is_message inputs ≡ true → AreCut 0 inputs bytes rest
    → rest ≡ front ++ behind → Spelled x front → AreCut 0 (inputs ++ Whole x ∷ []) bytes behind
cut_message inputs x bytes rest front behind all cut parts spelled =
    cut_then 0 inputs (Whole x ∷ []) bytes rest behind all cut (λ q e. (front, behind, parts, spelled, refl))

-- a fault, with its place
pub cut_fault : (inputs : List Input) (place : ℕ) (bad : Fault) (bytes rest : List ℕ) → list_all is_message inputs ≡ true → AreCut 0 inputs bytes rest
    → place + length rest ≡ length bytes → IsBad bad rest → AreCut 0 (inputs ++ Bad place bad ∷ []) bytes rest
cut_fault inputs place bad bytes rest all cut at is =
    cut_then 0 inputs (Bad place bad ∷ []) bytes rest rest all cut (λ q e. (sym (same_place q place bytes rest at e), is, refl, refl))

-- ---- what comes next

-- where no fault was met
answers_so : (s t : Stream) (n : Next) → s.broken ≡ None → Tells n s t → Answers n s t
answers_so s t n whole h = subst (λ (b : Option (ℕ × Fault)). AnswersBehind b n s t) whole h

-- ---- the stage behind a reply

abbrev stage_by : Reply → Stage
stage_by reply = stage_heard (heard_by reply) Live

live_by : (reply : Reply) → is_live (stage_by reply) ≡ not (tells_end reply)
live_by (Ended end) = refl
live_by reply = refl

begun_by : (reply : Reply) → was_begun (stage_by reply) ≡ true
begun_by (Ended end) = refl
begun_by reply = refl

-- a fault ends an open session
ends_by_fault : (c place : ℕ) (bad : Fault) (old : State) (reply : Reply) (new : State) → Steps old (entries.Heard c (Bad place bad)) reply new
    → is_some (session_at c old) ≡ true → tells_end reply ≡ true
ends_by_fault c place bad old reply new (inl (none, passes)) there = (let f : true ≡ false = sym there ∙ ap is_some none in absurd (cc))
ends_by_fault c place bad old reply new (inr (session, found, r, e)) there = ap tells_end r

-- ---- tests

open_parts : (a o e : Bool) → (a && not o) ≡ true → (a && not (e || o)) ≡ not e
open_parts true false true h = refl
open_parts true false false h = refl
open_parts true true e h = absurd (cc)
open_parts false o e h = absurd (cc)

over_parts : (o e : Bool) → o ≡ false → (e || o) ≡ not (not e)
over_parts false true h = refl
over_parts false false h = refl
over_parts true e h = absurd (cc)

-- ---- the deed

module _ (c : ℕ) (input : Input) (m : State) (reply : Reply) (n : State) (past : Past) where
  abbrev Now : Past
  Now = Enters (turn m (entries.Heard c input) reply n) ∷ past

  over_is : is_over c Now ≡ (tells_end reply || is_over c past)
  over_is = rw (eq-eqb c c refl) refl

  pub inputs_are : lacks_memory reply ≡ false → inputs_of c Now ≡ inputs_of c past ++ input ∷ []
  inputs_are memory = rw (eq-eqb c c refl, memory) refl

  cut_same : tells_link_end reply ≡ false → was_cut c Now ≡ was_cut c past
  cut_same unlinked = rw (eq-eqb c c refl) (or_first (tells_link_end reply) (was_cut c past) unlinked)

-- ---- the connection

-- what was heard goes on by a message
heard_on : (c : ℕ) (x : Message) (past now : Past) (s t : Stream) → IsHeardTo c past s → Takes x s t → inputs_of c now ≡ inputs_of c past ++ Whole x ∷ []
    → bytes_of c now ≡ bytes_of c past → IsHeardTo c now t
heard_on c x past now s t h takes inputs bytes = record {
  cut = subst (λ is. AreCut 0 is (bytes_of c now) t.rest) (sym inputs)
      (subst (λ bs. AreCut 0 (inputs_of c past ++ Whole x ∷ []) bs t.rest) (sym bytes)
      (cut_message (inputs_of c past) x (bytes_of c past) s.rest takes.front t.rest h.messages h.cut takes.parts takes.spelled));
  place =
      (let long : length s.rest ≡ length takes.front + length t.rest = ap length takes.parts ∙ length-append takes.front t.rest in
      let same : length (bytes_of c now) ≡ length (bytes_of c past) = ap length bytes in
      let at = takes.place_after in
      let was = h.place in omega (arith, long, same, at, was));
  unbroken = takes.unbroken;
  messages = ap (list_all is_message) inputs ∙ list_all-append is_message (inputs_of c past) (Whole x ∷ []) ∙ ap (λ b. b && true) h.messages;
}

-- an input of a connection was heard, at which the machine replied so
pub record HeardBy (k : Connection) (j : Inbound) (input : Input) (m : State) (reply : Reply) (n : State) (past : Past) : Type 0 where
  pub agrees : Agrees past k
  pub comes : Comes (Some input) k.inbound j
  pub steps : Steps m (entries.Heard (number_of k) input) reply n
  pub session : is_some (session_at (number_of k) m) ≡ true
  pub memory : lacks_memory reply ≡ false
  pub unlinked : tells_link_end reply ≡ false

module _ {k : Connection} {j : Inbound} {input : Input} {m : State} {reply : Reply} {n : State} {past : Past} (h : HeardBy k j input m reply n past) where
  open h use {agrees, comes, steps, session, memory, unlinked}

  abbrev its : ℕ
  its = number_of k

  abbrev now : Past
  now = Now its input m reply n past

  -- the connection behind it
  abbrev behind : Connection
  behind = with_inbound (record j { stage = stage_heard (heard_by reply) j.stage }) k

  live : is_live k.inbound.stage ≡ true
  live = ap is_live (some_came input k.inbound j comes).0

  pub was_open : is_open its past ≡ true
  was_open = agrees.live ∙ live

  not_over : is_over its past ≡ false
  not_over = agrees.over ∙ ap not live

  stage_is : behind.inbound.stage ≡ stage_by reply
  stage_is = ap (λ (s : Stage). stage_heard (heard_by reply) s) (comes.1.1 ∙ (some_came input k.inbound j comes).0)

  live_is : is_live behind.inbound.stage ≡ not (tells_end reply)
  live_is = ap is_live stage_is ∙ live_by reply

  number_is : number_of behind ≡ its
  number_is = comes.1.0

  heard_to : IsHeardTo its past k.inbound.from.stream
  heard_to = agrees.heard live

  answers : Answers (told_as (Some input)) k.inbound.from.stream j.from.stream
  answers = answers_so k.inbound.from.stream j.from.stream (told_as (Some input)) heard_to.unbroken (some_came input k.inbound j comes).1

  goes_on : (i : Input) → input ≡ i → tells_end reply ≡ false → IsHeardTo its now j.from.stream
  goes_on (Whole x) is open_still =
      heard_on its x past now k.inbound.from.stream j.from.stream heard_to (subst (λ i. Answers (told_as (Some i)) k.inbound.from.stream j.from.stream) is answers)
      (inputs_are its input m reply n past memory ∙ ap (λ i. inputs_of its past ++ i ∷ []) is) refl
  goes_on (Bad place bad) is open_still =
      (let f : true ≡ false = sym (ends_by_fault its place bad m reply n (subst (λ i. Steps m (entries.Heard its i) reply n) is steps) session) ∙ open_still in absurd (cc))

  not_ended : is_live behind.inbound.stage ≡ true → tells_end reply ≡ false
  not_ended e = go (tells_end reply) (sym live_is ∙ e)
    where
      go : (b : Bool) → not b ≡ true → b ≡ false
      go true f = absurd (cc)
      go false f = refl

  -- its number is the same
  its_agrees : Agrees now (with_inbound (record behind.inbound { connection = its }) k)
  its_agrees = record {
    queue = agrees.queue;
    begun = ap was_begun stage_is ∙ begun_by reply;
    live = ap (λ b. was_accepted its past && not b) (over_is its input m reply n past) ∙ open_parts (was_accepted its past) (is_over its past) (tells_end reply) was_open ∙ sym live_is;
    over = over_is its input m reply n past ∙ over_parts (is_over its past) (tells_end reply) not_over ∙ ap not (sym live_is);
    cut = agrees.cut ∙ sym (cut_same its input m reply n past unlinked);
    step = append-nil (taken_of its past) ∙ agrees.step ∙ ap (λ acts. sent its acts ++ k.queue.rest) (sym (append-nil (acts_of past)));
    failed = agrees.failed;
    heard = λ e. goes_on input refl (not_ended e);
    opened = ap (was_opened its) (append-nil (acts_of past)) ∙ agrees.opened;
    closed = ap (was_closed its) (append-nil (acts_of past)) ∙ agrees.closed;
  }

  pub one_agrees : Agrees now behind
  one_agrees = subst (λ c. Agrees now (with_inbound (record behind.inbound { connection = c }) k)) (sym number_is) its_agrees

  -- ---- what it is cut into

  pub cut_now : AreCut 0 (inputs_of its past ++ input ∷ []) (bytes_of its past) j.from.stream.rest
  cut_now = go input refl
    where
      go : (i : Input) → input ≡ i → AreCut 0 (inputs_of its past ++ input ∷ []) (bytes_of its past) j.from.stream.rest
      go (Whole x) is =
          (let takes = subst (λ i. Answers (told_as (Some i)) k.inbound.from.stream j.from.stream) is answers in
          subst (λ i. AreCut 0 (inputs_of its past ++ i ∷ []) (bytes_of its past) j.from.stream.rest) (sym is)
          (cut_message (inputs_of its past) x (bytes_of its past) k.inbound.from.stream.rest takes.front j.from.stream.rest heard_to.messages heard_to.cut takes.parts takes.spelled))
      go (Bad place bad) is =
          (let a = subst (λ i. Answers (told_as (Some i)) k.inbound.from.stream j.from.stream) is answers in
          let same : j.from.stream.rest ≡ k.inbound.from.stream.rest = ap (λ (s : Stream). s.rest) a.2 in
          subst (λ i. AreCut 0 (inputs_of its past ++ i ∷ []) (bytes_of its past) j.from.stream.rest) (sym is)
          (subst (λ bs. AreCut 0 (inputs_of its past ++ Bad place bad ∷ []) (bytes_of its past) bs) (sym same)
          (cut_fault (inputs_of its past) place bad (bytes_of its past) k.inbound.from.stream.rest heard_to.messages heard_to.cut
          (ap (λ p. p + length k.inbound.from.stream.rest) a.0 ∙ heard_to.place) a.1)))

  -- the session ended, where that was told
  pub over_now : tells_end reply ≡ true → is_over its now ≡ true
  over_now e = over_is its input m reply n past ∙ ap (λ b. b || is_over its past) e

  -- else a message was heard, and fewer bytes are left
  pub fewer_now : tells_end reply ≡ false → length j.from.stream.rest < length k.inbound.from.stream.rest
  fewer_now open_still = go input refl
    where
      go : (i : Input) → input ≡ i → length j.from.stream.rest < length k.inbound.from.stream.rest
      go (Whole x) is =
          (let takes = subst (λ i. Answers (told_as (Some i)) k.inbound.from.stream j.from.stream) is answers in
          let long = takes.spelled.header.long in
          let sum : length k.inbound.from.stream.rest ≡ length takes.front + length j.from.stream.rest = ap length takes.parts ∙ length-append takes.front j.from.stream.rest in
          omega (arith, long, sum))
      go (Bad place bad) is =
          (let f : true ≡ false = sym (ends_by_fault its place bad m reply n (subst (λ i. Steps m (entries.Heard its i) reply n) is steps) session) ∙ open_still in absurd (cc))
