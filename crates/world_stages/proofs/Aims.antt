-- A session is aimed at other rules, at rest or behind a part, and is accepted.
use Rattle.std.proofs.Common.{◌≡◌, Bool, true, false, List, [], ◌∷◌, Some, None, refl, sym, ap, ◌∙◌, subst, inl, inr}
use Rattle.std.specs.Prelude.{IfSome, if◌then◌else◌}
use Rattle.maple_base.specs.RuleLists.{Rules}
use Rattle.maple_base.specs.declared.decision.Rule.{Rule}
use Rattle.switch_session.specs.declared.part.Part.{Part}
use Rattle.switch_session.specs.declared.part.Part.TheVariants.{Clearing}
use Rattle.switch_session.specs.declared.part.UnderWay.{UnderWay}
use Rattle.switch_session.specs.Parts.{Update, AreParts, batch_part, set_config}
use Rattle.switch_session.specs.Sessions.{aimed_by, aimed, accepted, goes_live, next_rules}
use Rattle.switch_session.specs.Lists.{Lists}
use Rattle.machine_steps.specs.Machine.{Session}
use Rattle.world_steps.specs.Worlds.{Link}
use Rattle.world_stages.specs.Flights.{AreNumbered, IsClear}
use Rattle.world_stages.specs.FlightLaws.{OthersAreSent, SendsOthers, with_messages}
use Rattle.world_stages.specs.Stages.{Anything, IsGuarded, IsGuardedByEither, GoesOn, IsAtRest, IsClearing, IsPlanned}
use Rattle.world_stages.specs.Updates.{IsSteady, IsUnderWay, IsRunning, HasStarted, CanStart, CanAim, unprepared, Waits, AimsAtRest, AimsBehind, AimsLead, AimsAreKept, AcceptedAreCleared}
use Rattle.world_stages.proofs.Leaving.{AreKnown, under, clearing_departs, updates_start}
use Rattle.world_stages.proofs.Moved.{clear_moved, numbered_moved}

-- ---- aims

-- an update waits, and what was prepared is none
abbrev pub waiting : Update → Session → Session
waiting u s = record s { prepared = None; next = Some u }

-- no stage goes by the update that waits
module _ (part : UnderWay) (s : Session) (l : Link) (u : Update) where
  clearing_waits : (Before : List Rule → Type 0) → IsClearing Before part s l → IsClearing Before part (waiting u s) l
  clearing_waits Before h = record { clears = h.clears; first = h.first; numbers = h.numbers; done = h.done; flight = h.flight; table = h.table; before = h.before; cleared = h.cleared }

  goes_waiting : (quiet : Bool) (parts : List Part) → GoesOn quiet parts part s → GoesOn quiet parts part (waiting u s)
  goes_waiting false parts g = g
  goes_waiting true parts g = g

  stage_waits : IsUnderWay part s l → IsUnderWay part (waiting u s) l
  stage_waits (inl h) = inl (record { ready = h.ready; quiet = h.quiet; target = h.target; to_come = h.to_come; clearing = clearing_waits Anything h.clearing })
  stage_waits (inr (inl (inl h))) = inr (inl (inl (record {
    ready = h.ready;
    quiet = h.quiet;
    over = h.over;
    first = h.first;
    second = h.second;
    is_first = h.is_first;
    is_second = h.is_second;
    goes_on = h.goes_on;
    clearing = clearing_waits (IsGuarded s.capacity part.lists.from) h.clearing;
  })))
  stage_waits (inr (inl (inr (inl h)))) = inr (inl (inr (inl (record {
    ready = h.ready;
    clears = h.clears;
    changes = h.changes;
    second = h.second;
    is_first = h.is_first;
    is_second = h.is_second;
    goes_on = goes_waiting s.quiet (batch_part h.second) h.goes_on;
    first = h.first;
    done = h.done;
    flight = h.flight;
    table = h.table;
  }))))
  stage_waits (inr (inl (inr (inr h)))) = inr (inl (inr (inr (record {
    ready = h.ready;
    clears = h.clears;
    changes = h.changes;
    is_second = h.is_second;
    goes_on = goes_waiting s.quiet [] h.goes_on;
    first = h.first;
    done = h.done;
    flight = h.flight;
    table = h.table;
  }))))
  stage_waits (inr (inr h)) = inr (inr (record {
    ready = h.ready;
    quiet = h.quiet;
    target = h.target;
    to_come = h.to_come;
    clearing = clearing_waits (IsGuardedByEither s.capacity part) h.clearing;
  }))

module _ (known : AreKnown) (s : Session) (l : Link) (X : Rules) (u : Update) (can : CanAim s l X u) where
  planned : AreParts s.capacity s.target u.rules u.parts
  planned = subst (λ Y. AreParts s.capacity s.target Y u.parts) (sym can.update.rules) can.update.parts

  at_rest : s.under_way ≡ None → IsAtRest s l → AreNumbered s l → AimsAtRest s l X (aimed u s)
  at_rest none rest numbered = go u.settled
    where
      starting : CanStart (unprepared s) l u
      starting = record {
        ready = rest.ready;
        noisy = can.noisy;
        clear = clear_moved s (unprepared s) l refl rest.way;
        numbered = numbered_moved s (unprepared s) l refl refl refl numbered;
        table = rest.table;
        planned = planned;
        from = subst (λ next. IsSteady s.capacity (next_rules next s.target)) rest.next can.heads;
        to = subst (IsSteady s.capacity) (sym can.update.rules) can.to;
      }

      go : (settled : Bool) → AimsAtRest s l X (aimed_by settled s.under_way u (unprepared s))
      go true = inl refl
      go false =
          inr (subst (λ Y. HasStarted s.target Y (aimed_by false s.under_way u (unprepared s)) l) can.update.rules
          (subst (λ under_way. HasStarted s.target u.rules (aimed_by false under_way u (unprepared s)) l) (sym none) (updates_start known (unprepared s) l u starting)))

  behind : (part : UnderWay) → IsRunning part s l → AimsBehind part s l u (aimed u s)
  behind part running = go u.settled
    where
      waits_now : Waits part s l u (waiting u s)
      waits_now = record { now_is = refl; planned = planned; stage = stage_waits part s l u running.stage; numbered = numbered_moved s (waiting u s) l refl refl refl running.numbered }

      go : (settled : Bool) → AimsBehind part s l u (aimed_by settled s.under_way u (unprepared s))
      go true = inl refl
      go false = inr (subst (λ under_way. Waits part s l u (aimed_by false under_way u (unprepared s))) (sym running.part_is) waits_now)

  aims_lead : AimsLead s l X u
  aims_lead = record { at_rest = at_rest; behind = behind }

pub aims_kept : AreKnown → AimsAreKept
aims_kept known s l X u can = aims_lead known s l X u can

-- ---- the first clearing

pub accepted_cleared : AreKnown → OthersAreSent → AcceptedAreCleared
accepted_cleared known others s l X u can is = record {
  part = under lists Clearing (goes_live u s);
  under = refl;
  lists = ap (λ Y. record { from = Y; to = Y }) can.target;
  stage = record {
    ready = can.ready;
    quiet = can.quiet;
    target = can.target;
    to_come = refl;
    clearing = clearing_departs known.departs Anything lists [] (goes_live u s) l clear tt;
  };
  numbered = (known.departs lists Clearing [] false (goes_live u s) l clear).numbered numbered;
  next = next u.settled;
}
  where
    lists : Lists
    lists = record { from = s.target; to = s.target }

    sends : SendsOthers s l (set_config ∷ [])
    sends = others s l (set_config ∷ []) (refl, tt)

    clear : IsClear (goes_live u s) l
    clear = clear_moved (with_messages (set_config ∷ []) s) (goes_live u s) l refl (record { line = sends.line ∙ can.clear.line; back = can.clear.back })

    numbered : AreNumbered (goes_live u s) l
    numbered = numbered_moved (with_messages (set_config ∷ []) s) (goes_live u s) l refl refl refl (sends.numbered can.numbered)

    next : (settled : Bool) → IfSome (if settled then None else Some u) (IsPlanned (accepted u s))
    next true = tt
    next false = subst (λ Y. AreParts s.capacity s.target Y u.parts) (sym is.rules) is.parts
