-- What a signal that is heard while a part is under way is: the reply to its barrier, or an ERROR of it, behind which the session is in a stage again.
use Rattle.std.proofs.Common.{◌≡◌, ◌⊎◌, ℕ, ◌+◌, Bool, true, false, List, [], ◌∷◌, Option, Some, None, refl, sym, ap, ◌∙◌, subst, inl, inr, eq-eqb, arith}
use Rattle.std.specs.Prelude.{◌==◌, ◌||◌}
use Rattle.std.proofs.lemmas.Bool.{and_from}
use Rattle.maple_base.specs.declared.decision.Rule.{Rule}
use Rattle.maple_base.specs.declared.decision.TableMod.TheVariants.{DeleteAll}
use Rattle.of10_codec.specs.declared.message.Message.{Message}
use Rattle.of10_codec.specs.declared.message.Body.TheVariants.{BarrierReply}
use Rattle.update_plan.specs.Batches.{no_rules}
use Rattle.switch_session.specs.declared.part.UnderWay.{UnderWay}
use Rattle.switch_session.specs.Sessions.{clears_behind, breaks_off}
use Rattle.switch_session.specs.Calls.{of_clearing_part, of_clearing}
use Rattle.machine_steps.specs.Machine.{Session}
use Rattle.world_steps.specs.Worlds.{Link}
use Rattle.world_stages.specs.Flights.{line_of, back_of, is_signal, IsRefusalIn, IsInFlight}
use Rattle.world_stages.specs.FlightLaws.{SignalsAreHeard, HearsRefusal, HearsReplyOf, heard}
use Rattle.world_stages.specs.Stages.{Anything, IsGuarded, IsGuardedByEither, IsClearing, IsInFirst, IsInSecond}
use Rattle.world_stages.specs.Updates.{IsUnderWay, IsRunning, IsReplyTo, IsErrorHeard, SignalsAreKnown}

-- an ERROR is no reply
no_reply : (first barrier : ℕ) (m : Message) → IsRefusalIn first barrier m → m.body ≡ BarrierReply → ⊥
no_reply first barrier m h e = let f = ap (λ (x : Message). x.body) h.is in absurd (cc)

or_right : (x y : Bool) → y ≡ true → (x || y) ≡ true
or_right true y h = refl
or_right false y h = h

-- behind the first error of a batch, where this is under way
abbrev hushed : Option UnderWay → Session → Session
hushed under_way s = clears_behind under_way s.target (record s { quiet = true; target = no_rules; next = None; prepared = None })

module _ (signals : SignalsAreHeard) (part : UnderWay) (s : Session) (l : Link) (m : Message) (later : List Message) (running : IsRunning part s l) (back : back_of l ≡ m ∷ later)
    (signal : is_signal m ≡ true) where
  -- a clearing: its one change has the number ahead of its barrier's
  in_clearing : (Before : List Rule → Type 0) → IsClearing Before part s l → IsReplyTo part m ⊎ IsErrorHeard part s l m
  in_clearing Before c = go (signals c.first part.barrier (DeleteAll ∷ []) false c.done s l m later c.flight back signal)
    where
      own : IsRefusalIn c.first part.barrier m → of_clearing m.xid s ≡ true
      own h =
          let numbers = c.numbers in
          let from = h.from in
          let below = h.below in
          ap (of_clearing_part m.xid) running.part_is
          ∙ and_from part.clears (part.barrier == m.xid || part.barrier == m.xid + 1) c.clears
          (or_right (part.barrier == m.xid) (part.barrier == m.xid + 1) (eq-eqb part.barrier (m.xid + 1) (omega (arith, numbers, from, below))))

      go : HearsRefusal c.first part.barrier (DeleteAll ∷ []) c.done s l m ⊎ HearsReplyOf part.barrier (DeleteAll ∷ []) false c.done s l m → IsReplyTo part m ⊎ IsErrorHeard part s l m
      go (inr h) = inl h.reply
      go (inl h) = inr (record {
        no_reply = no_reply c.first part.barrier m h.refusal;
        clearing = λ e. own h.refusal;
        batch = λ e q. let clears = c.clears in absurd (cc);
        again = λ e q. let clears = c.clears in absurd (cc);
      })

  -- the session that breaks off, by the part that is under way
  broken : IsUnderWay part (hushed (Some part) s) (heard l) → IsUnderWay part (breaks_off s) (heard l)
  broken h = subst (λ under_way. IsUnderWay part (hushed under_way s) (heard l)) (sym running.part_is) h

  in_first : IsInFirst part s l → IsReplyTo part m ⊎ IsErrorHeard part s l m
  in_first h = go (signals h.first part.barrier h.changes s.quiet h.done s l m later h.flight back signal)
    where
      go : HearsRefusal h.first part.barrier h.changes h.done s l m ⊎ HearsReplyOf part.barrier h.changes s.quiet h.done s l m → IsReplyTo part m ⊎ IsErrorHeard part s l m
      go (inr r) = inl r.reply
      go (inl r) = inr (record {
        no_reply = no_reply h.first part.barrier m r.refusal;
        clearing = λ e. let clears = h.clears in absurd (cc);
        batch = λ e q. broken (inr (inl (inr (inl (record {
          ready = h.ready;
          clears = h.clears;
          changes = h.changes;
          second = h.second;
          is_first = h.is_first;
          is_second = h.is_second;
          goes_on = (refl, refl);
          first = h.first;
          done = h.done;
          flight = r.flight;
          table = h.table;
        })))));
        again = λ e q. inr (inl (inr (inl (record {
          ready = h.ready;
          clears = h.clears;
          changes = h.changes;
          second = h.second;
          is_first = h.is_first;
          is_second = h.is_second;
          goes_on = h.goes_on;
          first = h.first;
          done = h.done;
          flight = subst (λ quiet. IsInFlight h.first part.barrier h.changes quiet h.done (line_of s (heard l)) (back_of (heard l))) (sym q) r.flight;
          table = h.table;
        }))));
      })

  in_second : IsInSecond part s l → IsReplyTo part m ⊎ IsErrorHeard part s l m
  in_second h = go (signals h.first part.barrier h.changes s.quiet h.done s l m later h.flight back signal)
    where
      go : HearsRefusal h.first part.barrier h.changes h.done s l m ⊎ HearsReplyOf part.barrier h.changes s.quiet h.done s l m → IsReplyTo part m ⊎ IsErrorHeard part s l m
      go (inr r) = inl r.reply
      go (inl r) = inr (record {
        no_reply = no_reply h.first part.barrier m r.refusal;
        clearing = λ e. let clears = h.clears in absurd (cc);
        batch = λ e q. broken (inr (inl (inr (inr (record {
          ready = h.ready;
          clears = h.clears;
          changes = h.changes;
          is_second = h.is_second;
          goes_on = (refl, refl);
          first = h.first;
          done = h.done;
          flight = r.flight;
          table = h.table;
        })))));
        again = λ e q. inr (inl (inr (inr (record {
          ready = h.ready;
          clears = h.clears;
          changes = h.changes;
          is_second = h.is_second;
          goes_on = h.goes_on;
          first = h.first;
          done = h.done;
          flight = subst (λ quiet. IsInFlight h.first part.barrier h.changes quiet h.done (line_of s (heard l)) (back_of (heard l))) (sym q) r.flight;
          table = h.table;
        }))));
      })

  known : IsUnderWay part s l → IsReplyTo part m ⊎ IsErrorHeard part s l m
  known (inl h) = in_clearing Anything h.clearing
  known (inr (inl (inl h))) = in_clearing (IsGuarded s.capacity part.lists.from) h.clearing
  known (inr (inl (inr (inl h)))) = in_first h
  known (inr (inl (inr (inr h)))) = in_second h
  known (inr (inr h)) = in_clearing (IsGuardedByEither s.capacity part) h.clearing

  pub signal_known : IsReplyTo part m ⊎ IsErrorHeard part s l m
  signal_known = known running.stage

pub signals_known : SignalsAreHeard → SignalsAreKnown
signals_known signals part s l m later running back signal = signal_known signals part s l m later running back signal
