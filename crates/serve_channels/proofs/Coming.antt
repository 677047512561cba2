-- What came next of a connection: nothing, and what is known behind an input.
use Rattle.std.proofs.Common.{◌≡◌, ℕ, ◌<◌, get_or, length, refl, sym, subst, true, List, [], append-nil, set, ap, ◌∙◌, inr}
use Rattle.std.specs.Vec.{with_item}
use Rattle.std.specs.Prelude.{None, Some, is_some}
use Rattle.std.specs.List.{slice_get}
use Rattle.maple_io.specs.declared.act.Act.{Act}
use Rattle.of10_stream.specs.Cut.{IsOpen}
use Rattle.machine_steps.specs.declared.entry.Input.{Input}
use Rattle.machine_desk.specs.Arriving.{TakesIn}
use Rattle.machine_desk.specs.Desks.{DeskLaw, DeskView}
use Rattle.machine_desk.specs.Hearing.{Comes, IsSameSession, IsStaged, came_of, is_live}
use Rattle.machine_desk.specs.declared.hearing.Heard.{Heard}
use Rattle.machine_desk.specs.declared.inbound.Inbound.{Inbound}
use Rattle.machine_desk.proofs.Smooth.{takes_in}
use Rattle.sim_steps.specs.Agreeing.{AreCut}
use Rattle.serve_steps.specs.Deeds.{Past, bytes_of, inputs_of}
use Rattle.serve_steps.specs.Parts.{Given}
use Rattle.serve_channels.specs.declared.connection.Connection.{Connection}
use Rattle.machine_desk.specs.declared.hearing.Came.{Came}
use Rattle.machine_desk.specs.declared.hearing.Came.TheVariants as came
use Rattle.machine_desk.proofs.Tended.{alone_back}
use Rattle.machine_desk.proofs.Crewed.{still_crew}
use Rattle.machine_desk.proofs.Arrived.{none_came}
use Rattle.serve_channels.specs.declared.server.Server.{Server}
use Rattle.serve_channels.specs.Keeping.{ServesSome, Went, Agrees, IsHeardTo, IsKept}
use Rattle.serve_channels.specs.Passing.{Follows, HasCrew, HearsAt, HearsInput, HearsSome, MakesRoomFor}
use Rattle.serve_channels.specs.Servers.{IsSame, SameNumbers, home, number_of, with_inbound}
use Rattle.serve_channels.specs.Serving.{ServingLaws}
use Rattle.serve_channels.proofs.Alike.{alike_same}
use Rattle.serve_channels.proofs.Kept.{number_there, same_connections, IsLeft, IsSessionStill, IsTold, kept_at, kept_but, kept_whole}
use Rattle.serve_channels.proofs.Numbered.{numbers_at, numbers_then, there_at, numbers_of}
use Rattle.serve_channels.proofs.Others.{lawful}
use Rattle.serve_channels.proofs.Passing.{HasCome, fewer_left, went_on}
use Rattle.serve_channels.proofs.Stretching.{went_nowhere}

-- ---- nothing came

module _ (g : Given) (before : List Act) (past : Past) (log : List Act) (here : ℕ) (old new : Server) (k : Connection) (j : Inbound) (kept : IsKept g before past log old)
    (there : slice_get old.connections.items here ≡ Some k) (comes : Comes None k.inbound j) (rest : new ≡ record old { connections = new.connections })
    (set_is : new.connections.items ≡ set old.connections.items here (with_inbound j k)) (same : IsSame old new) where
  abbrev c : ℕ
  c = number_of k

  agrees : Agrees past k
  agrees = kept.agree here k there

  -- the stream is the same, and its session
  none_yet : (j.from.stream ≡ k.inbound.from.stream) × (is_live k.inbound.stage ≡ true → IsOpen k.inbound.from.stream.rest)
  none_yet = (let none = none_came k.inbound j comes in (none.0, λ live. (none.1 live).1))

  abbrev l : Connection
  l = with_inbound (record k.inbound { from = j.from }) k

  l_is : l ≡ with_inbound j k
  l_is = λ i. with_inbound (record { connection = sym comes.1.0 i; stage = sym comes.1.1 i; from = j.from }) k

  l_agrees : Agrees past l
  l_agrees = record {
    queue = agrees.queue;
    begun = agrees.begun;
    live = agrees.live;
    over = agrees.over;
    cut = agrees.cut;
    step = agrees.step;
    failed = agrees.failed;
    heard = λ live. subst (IsHeardTo c past) (sym none_yet.0) (agrees.heard live);
    opened = agrees.opened;
    closed = agrees.closed;
  }

  desk_is : new.desk ≡ old.desk
  desk_is = ap (λ (s : Server). s.desk) rest

  l_staged : IsStaged l.inbound new.desk.now
  l_staged = subst (λ (d : DeskView). IsStaged l.inbound d.now) (sym desk_is) (let its = kept.sessions.staged here k there in record { live = its.live; opened = its.opened })

  told : IsTold before past log old new
  told = record { same = same; turns = ap (λ (d : DeskView). d.past) desk_is ∙ kept.turns; acts = kept.acts; settings = ap (λ (d : DeskView). d.now.settings) desk_is }

  left : (d : ℕ) → IsLeft past past old new d
  left d = record { alike = alike_same d past; bytes = λ known. refl; session = subst (λ (m : DeskView). IsSessionStill d old.desk.now m.now) (sym desk_is) (record { live = refl; opened = refl }) }

  kept_new : IsKept g before past log new
  kept_new =
      kept_whole (kept_at (kept_but kept) told here k l there (set_is ∙ ap (set old.connections.items here) (sym l_is)) refl l_agrees l_staged (λ d other. left d))
      (λ alone. ap (λ (d : DeskView). d.now.jobs) desk_is ∙ kept.jobs (ap (λ (s : Server). is_some s.crew) (sym rest) ∙ alone))

  pub went_nothing : Went g before (HearsSome c came.Nothing past) past log new
  went_nothing =
      went_nowhere g before (HearsSome c came.Nothing past) past log new (record {
        inputs = [];
        rest = k.inbound.from.stream.rest;
        entries_are = refl;
        heard = sym (append-nil (inputs_of c past));
        bytes = refl;
        accepted = refl;
        silent = λ shut. refl;
        cut = λ open_now. subst (λ is. AreCut 0 is (bytes_of c past) k.inbound.from.stream.rest) (sym (append-nil (inputs_of c past))) (agrees.heard (sym agrees.live ∙ open_now)).cut;
        up_to = λ open_now. inr (none_yet.1 (sym agrees.live ∙ open_now));
      })
      kept_new

-- ---- behind it

-- who works beside a server that serves
pub has_crew : (s : Server) → ServesSome s → HasCrew s
has_crew s (log, h) = h.kept.crew.is

pub crew_stays : (a b : Server) → IsSame a b → HasCrew a → HasCrew b
crew_stays a b same has = still_crew a.crew b.crew same.crew has

module _ (here : ℕ) (old : Server) (k : Connection) (j : Inbound) (within : here < length old.connections.items) (is : k ≡ get_or old.connections.items here k) where
  -- what came is out of its stream
  abbrev pub source : Server
  source = record old { connections = with_item old.connections here (with_inbound j k) }

  there : slice_get old.connections.items here ≡ Some k
  there = there_at old.connections.items here k within is

  pub source_same : IsSame old source
  source_same = same_connections old source refl

  pub source_numbers : IsSameSession k.inbound j → SameNumbers old source
  source_numbers session = numbers_at old.connections.items old.connections.items here k (with_inbound j k) refl within is session.0

  pub numbers_behind : (room new : Server) → IsSameSession k.inbound j → room.connections.items ≡ source.connections.items → SameNumbers room new → SameNumbers old new
  numbers_behind room new session kept then = numbers_then old source new (source_numbers session) (numbers_then source room new (numbers_of source room kept) then)

  -- nothing came
  pub nothing_at : Comes None k.inbound j → HearsAt here came.Nothing old source
  nothing_at comes = record {
    goes = λ c at log g before past kept pre.
        subst (λ n. Went g before (HearsSome n came.Nothing past) past log source) (number_there here c k old.connections.items there at)
        (went_nothing g before past log here old source k j kept there comes refl refl source_same);
    fewer = λ told. absurd (cc);
  }

  -- there is room for the packet in it: with nobody beside the server none waits
  pub room_there : ServesSome old → (room : Server) (input : Input) → MakesRoomFor input source room → TakesIn input room.desk.now
  room_there serves room input makes =
      takes_in home input room makes.room (λ alone.
      (let alone_then = alone_back home makes.tends.same alone in
      ap (λ (s : Server). s.desk.now.jobs) (makes.alone alone_then) ∙ serves.1.kept.jobs alone_then))

  module _ (laws : ServingLaws) (law : DeskLaw old.desk) (serves : ServesSome old) (room mid new : Server) (input : Input) (heard : Heard)
      (comes : Comes (Some input) k.inbound j) (makes : MakesRoomFor input source room) (hears : HearsInput here input heard room mid) (same : IsSame room mid) where
    has_come : Follows heard mid new → HasCome here old source room mid new k j input heard
    has_come follows = record { there = there; comes = comes; taken = refl; makes = makes; hears = hears; same = same; follows = follows }

    hears_at : Follows heard mid new → HearsAt here (came_of heard) old new
    hears_at follows = record {
      goes = λ c at log g before past kept pre.
          subst (λ n. Went g before (HearsSome n (came_of heard) past) past log new) (number_there here c k old.connections.items there at)
          (went_on laws (has_come follows) (lawful law) kept);
      fewer = λ told.
          fewer_left laws (has_come follows) (lawful law) serves.1.kept told;
    }

    -- by what is told of it
    pub told_at : (k : Came) → k ≡ came_of heard → Follows heard mid new → HearsAt here k old new
    told_at k is follows = subst (λ x. HearsAt here x old new) (sym is) (hears_at follows)
