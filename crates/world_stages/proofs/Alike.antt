-- A session and its link stay in their stage while nothing changes but messages that are no part of an update.
use Rattle.std.proofs.Common.{◌≡◌, ℕ, Bool, true, false, List, ◌∙◌, inl, inr}
use Rattle.std.specs.Prelude.{Option, Some, None}
use Rattle.maple_base.specs.declared.decision.Rule.{Rule}
use Rattle.maple_base.specs.declared.decision.TableMod.{TableMod}
use Rattle.of10_codec.specs.declared.message.Message.{Message}
use Rattle.switch_session.specs.declared.part.Part.{Part}
use Rattle.switch_session.specs.declared.part.UnderWay.{UnderWay}
use Rattle.switch_session.specs.Parts.{Update}
use Rattle.machine_steps.specs.Machine.{Session, State}
use Rattle.world_steps.specs.Worlds.{Link}
use Rattle.world_steps.specs.Since.{Marks}
use Rattle.world_stages.specs.Flights.{line_of, back_of, controls, signals, AreNumbered, TellsItself, IsClear, IsInFlight}
use Rattle.world_stages.specs.FlightLaws.{FlightsAgree}
use Rattle.world_stages.specs.Stages.{IsClearing, GoesOn, IsFirstClearing, IsAtRest, IsInPart, IsWiping, IsInStage, IsAimed, IsLinked}
use Rattle.world_stages.specs.Updates.{IsUnderWay}

-- another outbox, other messages on their way
abbrev pub resent : List Message → ℕ → Option Update → Session → Session
resent outbox taken prepared s = record s { outbox = outbox; taken = taken; prepared = prepared }

abbrev pub rerouted : List Message → List Message → Link → Link
rerouted to sent l = record l { to = to; switch = record l.switch { sent = sent } }

module _ (agree : FlightsAgree) (s : Session) (l : Link) (outbox : List Message) (taken : ℕ) (prepared : Option Update) (to sent : List Message) where
  abbrev t : Session
  t = resent outbox taken prepared s

  abbrev k : Link
  k = rerouted to sent l

  module _ (line : controls (line_of t k) ≡ controls (line_of s l)) (back : signals (back_of k) ≡ signals (back_of l)) where
    flies : (first barrier : ℕ) (changes : List TableMod) (quiet : Bool) (done : List TableMod)
        → IsInFlight first barrier changes quiet done (line_of s l) (back_of l) → IsInFlight first barrier changes quiet done (line_of t k) (back_of k)
    flies first barrier changes quiet done f = agree first barrier changes quiet done (line_of s l) (back_of l) (line_of t k) (back_of k) line back f

    clear_alike : IsClear s l → IsClear t k
    clear_alike c = record { line = line ∙ c.line; back = back ∙ c.back }

    clearing_alike : (Before : List Rule → Type 0) (part : UnderWay) → IsClearing Before part s l → IsClearing Before part t k
    clearing_alike Before part c = record {
      clears = c.clears;
      first = c.first;
      numbers = c.numbers;
      done = c.done;
      flight = flies c.first part.barrier _ false c.done c.flight;
      table = c.table;
      before = c.before;
      cleared = c.cleared;
    }

    first_clearing_alike : (part : UnderWay) → IsFirstClearing part s l → IsFirstClearing part t k
    first_clearing_alike part h =
        record { ready = h.ready; quiet = h.quiet; target = h.target; to_come = h.to_come; clearing = clearing_alike _ part h.clearing }

    goes_alike : (part : UnderWay) (parts : List Part) (quiet : Bool) → GoesOn quiet parts part s → GoesOn quiet parts part t
    goes_alike part parts false g = g
    goes_alike part parts true g = g

    in_part_alike : (part : UnderWay) → IsInPart part s l → IsInPart part t k
    in_part_alike part (inl h) = inl record {
      ready = h.ready;
      quiet = h.quiet;
      over = h.over;
      first = h.first;
      second = h.second;
      is_first = h.is_first;
      is_second = h.is_second;
      goes_on = h.goes_on;
      clearing = clearing_alike _ part h.clearing;
    }
    in_part_alike part (inr (inl h)) = inr (inl record {
      ready = h.ready;
      clears = h.clears;
      changes = h.changes;
      second = h.second;
      is_first = h.is_first;
      is_second = h.is_second;
      goes_on = goes_alike part _ s.quiet h.goes_on;
      first = h.first;
      done = h.done;
      flight = flies h.first part.barrier h.changes s.quiet h.done h.flight;
      table = h.table;
    })
    in_part_alike part (inr (inr h)) = inr (inr record {
      ready = h.ready;
      clears = h.clears;
      changes = h.changes;
      is_second = h.is_second;
      goes_on = goes_alike part _ s.quiet h.goes_on;
      first = h.first;
      done = h.done;
      flight = flies h.first part.barrier h.changes s.quiet h.done h.flight;
      table = h.table;
    })

    wiping_alike : (part : UnderWay) → IsWiping part s l → IsWiping part t k
    wiping_alike part h =
        record { ready = h.ready; quiet = h.quiet; target = h.target; to_come = h.to_come; clearing = clearing_alike _ part h.clearing }

    pub way_alike : (part : UnderWay) → IsUnderWay part s l → IsUnderWay part t k
    way_alike part (inl h) = inl (first_clearing_alike part h)
    way_alike part (inr (inl h)) = inr (inl (in_part_alike part h))
    way_alike part (inr (inr h)) = inr (inr (wiping_alike part h))

    pub rest_alike : IsAtRest s l → IsAtRest t k
    rest_alike h = record { ready = h.ready; way = clear_alike h.way; to_come = h.to_come; next = h.next; hushed = h.hushed; table = h.table }

    module _ (m : State) (marks : Marks) where
      stage_alike : (under : Option UnderWay) → IsInStage under m marks s l → IsInStage under m marks t k
      stage_alike None h = rest_alike h
      stage_alike (Some part) h = (h.0, way_alike part h.1)

      aimed_alike : IsAimed m marks s → IsAimed m marks t
      aimed_alike h = record { base = h.base; until_now = h.until_now; backed = h.backed; fresh = h.fresh }

      pub linked_alike : IsLinked m marks s l → AreNumbered t k → TellsItself k → IsLinked m marks t k
      linked_alike h numbered tells = record {
        numbered = numbered;
        tells = tells;
        live = λ live. (let r = h.live live in record {
          dpid = r.dpid;
          stage = stage_alike s.under_way r.stage;
          next = r.next;
          hushed = r.hushed;
          aimed = λ q. aimed_alike (r.aimed q);
        });
        early = λ early. (let g = h.early early in record { way = clear_alike g.way; to_come = g.to_come });
      }
