-- What comes next of a connection is heard: the deeds of that, and what is kept behind them.
use Rattle.std.proofs.Common.{◌≡◌, ℕ, ◌<◌, true, false, List, [], ◌∷◌, ◌++◌, length, set, refl, sym, ap, ◌∙◌, subst, arith}
use Rattle.std.specs.Prelude.{Some, None}
use Rattle.std.specs.List.{slice_get}
use Rattle.std.proofs.lemmas.Bool.{ne_eqb}
use Rattle.std.proofs.lemmas.List.{set-set}
use Rattle.std.proofs.lemmas.Option.{same_Some}
use Rattle.machine_desk.specs.Homes.{rest_of}
use Rattle.maple_io.specs.declared.act.Act.{Act}
use Rattle.machine_steps.specs.declared.entry.Entry.{Entry}
use Rattle.machine_steps.specs.declared.entry.Entry.TheVariants as entries
use Rattle.machine_steps.specs.declared.entry.Input.{Input}
use Rattle.machine_steps.specs.declared.reply.Reply.{Reply}
use Rattle.machine_steps.specs.declared.reply.Reply.TheVariants.{Ended, Job as JobOpened, Overload}
use Rattle.machine_steps.specs.Histories.{Turn}
use Rattle.machine_moves.specs.Told.{WaitsAs}
use Rattle.machine_desk.specs.Desks.{DeskView, Enters as EntersDesk}
use Rattle.machine_desk.specs.Hearing.{Comes, IsStaged, came_of, goes_on, heard_by, is_live, stage_heard}
use Rattle.machine_desk.specs.declared.hearing.Heard.{Heard}
use Rattle.machine_desk.specs.declared.inbound.Inbound.{Inbound}
use Rattle.machine_desk.proofs.Tended.{alone_back}
use Rattle.machine_desk.proofs.NoneLeft.{answered}
use Rattle.machine_desk.proofs.Replies.{had_memory}
use Rattle.machine_desk.proofs.Arrived.{some_came}
use Rattle.world_steps.specs.Worlds.{lacks_memory}
use Rattle.sim_steps.specs.Agreeing.{AreCut}
use Rattle.core_machine.proofs.Hearing.{set_there}
use Rattle.serve_steps.specs.Deeds.{Past, bytes_of, inputs_of, is_open, is_over, tells_end}
use Rattle.serve_steps.specs.Deeds.Deed.{Enters}
use Rattle.serve_steps.specs.Laws.{entered}
use Rattle.serve_steps.specs.Parts.{Given}
use Rattle.serve_channels.specs.declared.connection.Connection.{Connection}
use Rattle.serve_channels.specs.declared.server.Server.{Server}
use Rattle.serve_channels.specs.Hearing.{UpTo}
use Rattle.serve_channels.specs.Keeping.{IsKept, Went}
use Rattle.serve_channels.specs.Passing.{Follows, HearsInput, HearsSome, MakesRoomFor, rest_at}
use Rattle.serve_channels.specs.Servers.{IsSame, WorksAlone, number_of, with_inbound, home}
use Rattle.serve_channels.specs.Serving.{ServingLaws}
use Rattle.serve_channels.proofs.Alike.{IsAlike, alike_open, alike_then}
use Rattle.serve_channels.proofs.Attended.{alike_beside, beside_none, beside_of, bytes_beside}
use Rattle.serve_channels.proofs.Entering.{IsUnderWay, begins, goes_beside, is_over_now}
use Rattle.serve_channels.proofs.Entries.{ahead_now, between, goes_with_one, others_ahead, own_turn}
use Rattle.serve_channels.proofs.HeardReply.{unlinked}
use Rattle.serve_channels.proofs.OneHeard.{HeardBy, cut_now, fewer_now, inputs_are, one_agrees, over_now, was_open}
use Rattle.serve_channels.proofs.Others.{DidBeside, IsLawful, meanwhile_others, others_jobs}

-- ---- by the reply

-- the session is over, or goes on
up_to_by : (reply : Reply) (c : ℕ) (past : Past) (rest : List ℕ) → (tells_end reply ≡ true → is_over c past ≡ true) → UpTo (came_of (heard_by reply)) c past rest
up_to_by (Ended end) c past rest over = over refl
up_to_by reply c past rest over = tt

pub goes_on_by : (reply : Reply) → goes_on (came_of (heard_by reply)) ≡ true → tells_end reply ≡ false
goes_on_by (Ended end) e = absurd (cc)
goes_on_by reply e = refl

-- ---- an input that came

-- it came next of a connection, there was made room for the packet in it, it was heard, and the reply was followed
pub record HasCome (here : ℕ) (old source room mid new : Server) (k : Connection) (j : Inbound) (input : Input) (heard : Heard) : Type 0 where
  pub there : slice_get old.connections.items here ≡ Some k
  pub comes : Comes (Some input) k.inbound j
  pub taken : source.connections.items ≡ set old.connections.items here (with_inbound j k)
  pub makes : MakesRoomFor input (record old { connections = source.connections }) room
  pub hears : HearsInput here input heard room mid
  pub same : IsSame room mid
  pub follows : Follows heard mid new

module _ (laws : ServingLaws) {here : ℕ} {old source room mid new : Server} {k : Connection} {j : Inbound} {input : Input} {heard : Heard}
    (h : HasCome here old source room mid new k j input heard) (law : IsLawful old.desk) where
  open h use {there, comes, taken, makes, hears, same, follows}

  abbrev c : ℕ
  c = number_of k

  abbrev entry : Entry
  entry = entries.Heard c input

  abbrev reply : Reply
  reply = hears.does.0.reply

  -- the server there, as if the connection were as it was
  abbrev roomy : Server
  roomy = record old { desk = room.desk; crew = room.crew }

  room_beside : DidBeside old roomy
  room_beside = record { meanwhile = makes.tends.meanwhile; connections = refl; same = record { footing = makes.tends.same.footing; crew = makes.tends.same.crew } }

  -- ---- the connection

  items : room.connections.items ≡ set old.connections.items here (with_inbound j k)
  items = ap (λ (s : Server). s.connections.items) makes.tends.rest ∙ taken

  was : hears.connection ≡ with_inbound j k
  was = same_Some hears.connection (with_inbound j k) (sym hears.there ∙ ap (λ ks. slice_get ks here) items ∙ set_there old.connections.items here k (with_inbound j k) there)

  abbrev l : Connection
  l = with_inbound (record j { stage = stage_heard (heard_by reply) j.stage }) k

  l_is : with_inbound hears.behind hears.connection ≡ l
  l_is =
      ap (λ i. with_inbound i hears.connection) hears.does.0.stage
      ∙ ap (λ x. with_inbound (record hears.connection.inbound { stage = stage_heard x hears.connection.inbound.stage }) hears.connection) hears.does.0.heard_is
      ∙ ap (λ (x : Connection). with_inbound (record x.inbound { stage = stage_heard (heard_by reply) x.inbound.stage }) x) was

  set_is : mid.connections.items ≡ set old.connections.items here l
  set_is = hears.all ∙ ap (set room.connections.items here) l_is ∙ ap (λ ks. set ks here l) items ∙ set-set old.connections.items here (with_inbound j k) l

  -- ---- the entry

  entered_so : EntersDesk room.desk entry reply mid.desk
  entered_so =
      subst (λ n. EntersDesk room.desk (entries.Heard n input) reply mid.desk) (ap (λ (x : Connection). x.inbound.connection) was ∙ comes.1.0) hears.does.0.asks.enters

  -- behind what others did ahead of it
  abbrev ready : Server
  ready = between roomy mid entered_so

  abbrev ready_beside : DidBeside roomy ready
  ready_beside = others_ahead roomy mid entered_so

  abbrev before_it : DeskView
  before_it = ready.desk

  abbrev this : Turn
  this = own_turn roomy mid entered_so

  roomy_same : IsSame roomy mid
  roomy_same = record { footing = same.footing; crew = same.crew }

  memory : lacks_memory reply ≡ false
  memory = had_memory reply hears.does.0.asks.memory

  module _ {g : Given} {before : List Act} {past : Past} {log : List Act} (kept : IsKept g before past log old) where
    -- ---- ahead of it

    start : IsUnderWay g before past None [] [] log old
    start = begins kept law

    abbrev done1 : Past
    done1 = entered room_beside.meanwhile.turns []

    first : IsUnderWay g before past None [] done1 log roomy
    first = goes_beside laws start roomy room_beside

    abbrev done2 : Past
    done2 = entered entered_so.others done1

    second : IsUnderWay g before past None [] done2 log ready
    second = ahead_now laws first mid entered_so

    none_ahead : WorksAlone roomy → ready.desk.now.jobs ≡ []
    none_ahead = others_jobs laws first.kept first.law ready_beside (others_jobs laws start.kept law room_beside kept.jobs)

    abbrev past2 : Past
    past2 = done2 ++ past

    alike2 : IsAlike c past past2
    alike2 =
        alike_then c past (done1 ++ past) past2 (alike_beside c room_beside.meanwhile.turns [] past (meanwhile_others laws law room_beside.meanwhile))
        (alike_beside c ready_beside.meanwhile.turns done1 past (meanwhile_others laws first.law ready_beside.meanwhile))

    bytes2 : bytes_of c past2 ≡ bytes_of c past
    bytes2 = bytes_beside c ready_beside.meanwhile.turns done1 past ∙ bytes_beside c room_beside.meanwhile.turns [] past

    by : HeardBy k j input before_it.now reply mid.desk.now past2
    by = record {
      agrees = second.kept.agree here k there;
      comes = comes;
      steps = entered_so.made.steps;
      session = (second.kept.sessions.staged here k there).live ∙ ap is_live (some_came input k.inbound j comes).0;
      memory = memory;
      unlinked = unlinked c input before_it.now reply mid.desk.now entered_so.made.steps;
    }

    open_ahead : is_open c past2 ≡ true
    open_ahead = was_open by

    waits : WorksAlone roomy → WaitsAs c reply mid.desk.now.jobs
    waits alone = laws.driving.jobs before_it.now c input reply mid.desk.now (none_ahead alone) entered_so.made.steps

    -- ---- behind it

    session_is : record k.inbound { from = j.from } ≡ j
    session_is = λ i. record { connection = sym comes.1.0 i; stage = sym comes.1.1 i; from = j.from }

    staged_now : IsStaged (record k.inbound { from = j.from }) room.desk.now
    staged_now = (let its = first.kept.sessions.staged here k there in record { live = its.live; opened = its.opened })

    staged_room : IsStaged hears.connection.inbound room.desk.now
    staged_room = subst (λ (x : Connection). IsStaged x.inbound room.desk.now) (sym was) (subst (λ (i : Inbound). IsStaged i room.desk.now) session_is staged_now)

    staged_mid : IsStaged l.inbound mid.desk.now
    staged_mid = subst (λ (x : Connection). IsStaged x.inbound mid.desk.now) l_is (hears.does.1 staged_room)

    abbrev done3 : Past
    done3 = Enters this ∷ done2

    third : IsUnderWay g before past None (entry ∷ []) done3 log mid
    third =
        goes_with_one laws first mid entered_so roomy_same (record { own = refl; keeps = refl; memory = memory; opened = open_ahead })
        refl here k l there set_is comes.1.0 (λ d other. ne_eqb c d (λ e. other (sym e))) (λ agrees. one_agrees by) staged_mid

    -- ---- what is done about it

    abbrev Followed : Type 0
    Followed = DidBeside mid new × (WorksAlone new → new.desk.now.jobs ≡ [])

    nothing_more : new ≡ mid → (WorksAlone roomy → mid.desk.now.jobs ≡ []) → Followed
    nothing_more e jobs = (beside_none mid new e, λ alone. ap (λ (s : Server). s.desk.now.jobs) e ∙ jobs (alone_back home roomy_same (subst WorksAlone e alone)))

    follow_by : (r : Reply) → reply ≡ r → Follows (heard_by r) mid new → (WorksAlone roomy → WaitsAs c r mid.desk.now.jobs) → Followed
    follow_by (JobOpened item) is f waiting = (beside_of mid new f.tends, none_left)
      where
        none_left : WorksAlone new → new.desk.now.jobs ≡ []
        none_left alone =
            let alone_then = alone_back home f.tends.same alone in
            let (one, waits_now, item_is, its) = waiting (alone_back home roomy_same alone_then) in
            answered laws.driving item one mid.desk new.desk third.law.sound (third.kept.crew.alone alone_then) waits_now item_is (f.alone alone_then)
    follow_by Overload is f waiting = absurd (entered_so.room is)
    follow_by other is f waiting = nothing_more f waiting

    followed : Followed
    followed = follow_by reply refl (subst (λ x. Follows x mid new) hears.does.0.heard_is follows) waits

    abbrev done4 : Past
    done4 = entered followed.0.meanwhile.turns done3

    fourth : IsUnderWay g before past None (entry ∷ []) done4 log new
    fourth = goes_beside laws third new followed.0

    alike4 : IsAlike c (done3 ++ past) (done4 ++ past)
    alike4 = alike_beside c followed.0.meanwhile.turns done3 past (meanwhile_others laws third.law followed.0.meanwhile)

    hears_some : HearsSome c (came_of (heard_by reply)) past (entry ∷ []) done4
    hears_some = record {
      inputs = input ∷ [];
      rest = j.from.stream.rest;
      entries_are = refl;
      heard = alike4.inputs ∙ inputs_are c input before_it.now reply mid.desk.now past2 memory ∙ ap (λ is. is ++ input ∷ []) alike2.inputs;
      bytes = bytes_beside c followed.0.meanwhile.turns done3 past ∙ bytes2;
      accepted = alike4.accepted ∙ alike2.accepted;
      silent = λ shut. (let f : true ≡ false = sym open_ahead ∙ alike_open c past past2 alike2 ∙ shut in absurd (cc));
      cut = λ open_now. subst (λ is. AreCut 0 (is ++ input ∷ []) (bytes_of c past) j.from.stream.rest) alike2.inputs
          (subst (λ bs. AreCut 0 (inputs_of c past2 ++ input ∷ []) bs j.from.stream.rest) bytes2 (cut_now by));
      up_to = λ open_now. up_to_by reply c (done4 ++ past) j.from.stream.rest (λ ended. alike4.over ∙ over_now by ended);
    }

    pub went_on : Went g before (HearsSome c (came_of heard) past) past log new
    went_on =
        is_over_now (HearsSome c (came_of heard) past) fourth
        (subst (λ x. HearsSome c (came_of x) past (entry ∷ []) done4) (sym hears.does.0.heard_is) hears_some) followed.1

    -- fewer bytes are left where more may be to be heard
    pub fewer_left : goes_on (came_of heard) ≡ true → rest_at here new < rest_at here old
    fewer_left told =
        let fewer = fewer_now by (goes_on_by reply (ap (λ x. goes_on (came_of x)) (sym hears.does.0.heard_is) ∙ told)) in
        let was_left : rest_at here old ≡ length k.inbound.from.stream.rest = ap (rest_of (λ (x : Connection). x.inbound)) there in
        let left : rest_at here new ≡ length j.from.stream.rest = ap (rest_of (λ (x : Connection). x.inbound)) (ap (λ ks. slice_get ks here) (followed.0.connections ∙ set_is) ∙ set_there old.connections.items here k l there) in
        omega (arith, fewer, was_left, left)
