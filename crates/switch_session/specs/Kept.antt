-- What each session keeps true: the room for what may leave without memory, and the numbers for it.
use Rattle.std.specs.Prelude.{◌≡◌, ℕ, ◌+◌, ◌^◌, ◌<◌, ◌≤◌, Bool, true, false, Option, Some, IfSome, is_some, option_map, vec_len, vec_capacity}
use Rattle.switch_session.specs.declared.session.Session.TheInside.{Inside}
use Rattle.switch_session.specs.declared.part.UnderWay.{UnderWay}
use Rattle.switch_session.specs.declared.told.Phase.{Phase}
use Rattle.switch_session.specs.declared.told.Phase.TheVariants.{Live, Ended}
use Rattle.switch_session.specs.Parts.{Update, IsList, last_start}
use Rattle.switch_session.specs.Room.{parts_room, owed, start_room, last_number}
use Rattle.switch_session.specs.Sessions.{State}

-- no part is to leave: the session has ended, or one is under way
abbrev pub is_busy : Phase → Option UnderWay → Bool
is_busy Ended under_way = true
is_busy Live (Some part) = true
is_busy phase under_way = false

-- an update that was prepared, with the room that is kept for it
pub record IsReady (capacity room : ℕ) (phase : Phase) (update : Update) : Type 0 where
  pub list : IsList capacity update.rules
  pub fits : parts_room update.parts + start_room phase ≤ room

abbrev pub seen : Inside → State
seen a = record {
  connection = a.connection;
  capacity = a.capacity;
  phase = a.phase;
  dpid = a.dpid;
  ready = a.ready;
  quiet = a.quiet;
  under_way = a.under_way;
  to_come = a.to_come;
  target = a.target;
  next = a.next;
  prepared = option_map (λ s. s.value) a.prepared;
  used = a.used;
  taken = a.taken;
  outbox = a.outbox.log.value;
}

pub record IsSound (a : Inside) : Type 0 where
  pub capacity : a.capacity ≤ 65535
  pub target : IsList a.capacity a.target
  pub next : IfSome a.next (λ u. IsList a.capacity u.rules)
  pub prepared : IfSome (option_map (λ s. s.value) a.prepared) (IsReady a.capacity a.prepared_room a.phase)
  -- at rest numbers are left for one more part
  pub rest : is_busy a.phase a.under_way ≡ false → a.used < last_start
  pub live : is_some a.under_way ≡ true → a.phase ≡ Live
  pub numbers : a.used < last_number
  pub small : a.prepared_room < 2 ^ 30
  pub room : vec_len a.outbox.bytes + owed a.to_come a.next a.prepared_room a.quiet ≤ vec_capacity a.outbox.bytes
