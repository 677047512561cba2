-- What a world keeps: a run led to it, and in that run its links came one for each connection that was opened.
use Rattle.std.specs.Prelude.{◌≡◌, ℕ, true, List, MatchOption, Option, Some}
use Rattle.std.specs.List.{slice_get}
use Rattle.maple_base.specs.declared.decision.Settings.{Settings}
use Rattle.policy_lang.specs.declared.Policy.{Policy}
use Rattle.of10_codec.specs.declared.message.Message.{Message}
use Rattle.machine_steps.specs.Machine.{Session, State, opening, session_at, was_opened}
use Rattle.world_steps.specs.Right.{IsRight}
use Rattle.world_steps.specs.Runs.{Event, IsWorldRun, turns_of}
use Rattle.world_steps.specs.Worlds.{IsFirstFrom, Link, World, link_at}
use Rattle.world_places.specs.Places.{BeginsWith}
use Rattle.world_right.specs.Laws.{HasPlace}
use Rattle.world_model.specs.Places.{AreOthers}

-- a machine ahead of its first entry
pub record IsOpening (machine : State) : Type 0 where
  pub policy : Policy
  pub settings : Settings
  pub now_is : machine ≡ opening policy settings

-- a run leads to the world; it is right, and each open session of the machine has a link, and is in a stage with it, by the marks that this run left
pub record IsRightRun (w : World) : Type 0 where
  pub policy : Policy
  pub settings : Settings
  pub events : List Event
  pub run : IsWorldRun policy settings events w
  pub right : IsRight events
  pub placed : (c : ℕ) (s : Session) → session_at c w.machine ≡ Some s → HasPlace c (turns_of events) w s

-- a run leads to the world
pub record IsReached (w : World) : Type 0 where
  pub policy : Policy
  pub settings : Settings
  pub events : List Event
  pub run : IsWorldRun policy settings events w

-- the link of a connection that was opened
pub record HasLink (c : ℕ) (w : World) : Type 0 where
  pub link : Link
  pub there : link_at c w.links ≡ Some link

pub record IsKept (w : World) : Type 0 where
  pub reached : IsReached w
  pub others : AreOthers w.links
  pub linked : (c : ℕ) → was_opened c w.machine ≡ true → HasLink c w
  pub opened : (c : ℕ) (l : Link) → link_at c w.links ≡ Some l → was_opened c w.machine ≡ true

-- the first link of a connection stands at a place
pub record IsAt (c at : ℕ) (ls : List Link) (l : Link) : Type 0 where
  pub there : slice_get ls at ≡ Some l
  pub found : link_at c ls ≡ Some l

-- and the message is the first that its switch sent
pub record IsFirstAt (c at : ℕ) (m : Message) (ls : List Link) : Type 0 where
  pub link : Link
  pub is : IsAt c at ls link
  pub first : BeginsWith m link.switch.sent

-- where the message is the first of its connection its place is found, and else none
abbrev pub FindsFirst : ℕ → Message → List Link → Option ℕ → Type 0
FindsFirst c m ls found = MatchOption found (IsFirstFrom c m ls → ⊥) (λ at. IsFirstAt c at m ls)
