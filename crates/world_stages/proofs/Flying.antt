-- What a step of the switch does to a part of an update that is in flight, and where none is.
use Rattle.std.proofs.Common.{◌≡◌, ◌⊎◌, ℕ, Bool, true, List, [], ◌∷◌, ◌++◌, append_assoc, refl, sym, ap, ap₂, ◌∙◌, subst, inl, inr, arith}
use Rattle.std.specs.List.{AllByRecursion}
use Rattle.std.specs.List.Sorted.{IsPermutation}
use Rattle.std.proofs.lemmas.List.Elements.{AllZip-push}
use Rattle.maple_base.specs.declared.decision.TableMod.{TableMod}
use Rattle.of10_codec.specs.declared.message.Message.{Message}
use Rattle.of10_codec.specs.declared.message.Body.TheVariants.{Error, BarrierReply}
use Rattle.switch_session.specs.Parts.{change_body, changes_from, barrier_request}
use Rattle.device_port.specs.Switches.{is_barrier, is_flow_mod, message}
use Rattle.machine_steps.specs.Machine.{Session}
use Rattle.world_steps.specs.Worlds.{Link}
use Rattle.world_stages.specs.Flights.{line_of, back_of, is_signal, controls, signals, IsErrorOf, IsOnItsWay, IsEachOnce, IsInFlight}
use Rattle.world_stages.specs.FlightLaws.{StaysClear, StepsStayClear, CarriesOut, FliesOn, StepsFlyOn, FlightsAgree}
use Rattle.world_stages.proofs.Lists.{filter_takes, all_right, some_there, ahead_of_last}
use Rattle.world_stages.proofs.Bodies.{change_is_flow_mod, flow_mod_no_barrier, carries_out, error_signal}
use Rattle.world_stages.proofs.Once.{IsChangeOf, due_changes, once_carried, once_refused}
use Rattle.world_stages.proofs.Dealing.{TakesChange, CarriesChange, RefusesChange, AnswersFirst, Deals, deals}
use Rattle.world_stages.proofs.Dealing.Deals.{idles, carries, refuses, answers}

-- ---- where no part is in flight

pub steps_stay_clear : StepsStayClear
steps_stay_clear step s l k does clear = go (deals step s l k does)
  where
    go : Deals s l k → StaysClear s l k
    go (idles d) = record { way = record { line = d.line ∙ clear.line; back = d.back ∙ clear.back }; table = d.table }
    go (carries m d) = absurd (some_there d.takes.ahead m d.takes.behind (sym d.takes.was ∙ clear.line))
    go (refuses m d) = absurd (some_there d.takes.ahead m d.takes.behind (sym d.takes.was ∙ clear.line))
    go (answers m d) = absurd (some_there [] m (controls (line_of s k)) (sym d.was ∙ clear.line))

-- ---- where one is

on_its_way : (barrier : ℕ) (due errors line back line' back' : List Message) → controls line' ≡ controls line → signals back' ≡ signals back
    → IsOnItsWay barrier due errors line back → IsOnItsWay barrier due errors line' back'
on_its_way barrier due errors line back line' back' e f (inl w) = inl (e ∙ w.0, f ∙ w.1)
on_its_way barrier due errors line back line' back' e f (inr w) = inr (w.0, e ∙ w.1, f ∙ w.2)

pub flights_agree : FlightsAgree
flights_agree first barrier changes quiet done line back line' back' e f h =
    record { due = h.due; errors = h.errors; each = h.each; way = on_its_way barrier h.due h.errors line back line' back' e f h.way }

barrier_apart : (barrier : ℕ) (m : Message) → is_flow_mod m.body ≡ true → m ≡ barrier_request barrier → ⊥
barrier_apart barrier m h e = let f = ap (λ (x : Message). is_flow_mod x.body) e in cc

-- a list of changes of a part that ends in a barrier is the barrier alone where that stands first
due_none : (first barrier : ℕ) (changes : List TableMod) (due : List Message) (m : Message) (ms : List Message) → AllByRecursion (IsChangeOf first barrier changes) due → is_barrier m.body ≡ true
    → m ∷ ms ≡ due ++ barrier_request barrier ∷ [] → (due ≡ []) × (m ≡ barrier_request barrier) × (ms ≡ [])
due_none first barrier changes [] m ms all h e = (refl, (cc), (cc))
due_none first barrier changes (d ∷ due) m ms all h e =
    let c = all.0 in
    let no_barrier = flow_mod_no_barrier (change_body c.change) (change_is_flow_mod c.change) in
    let same : m ≡ d = cc in
    let f = ap (λ (x : Message). is_barrier x.body) (same ∙ c.is) in
    absurd (cc)

module _ (first barrier : ℕ) (changes : List TableMod) (quiet : Bool) (done : List TableMod) (s : Session) (l k : Link) (h : IsInFlight first barrier changes quiet done (line_of s l) (back_of l)) where
  abbrev part : IsEachOnce first barrier changes quiet done h.due h.errors
  part = h.each

  -- a change that is taken from the line is one of those that are due, and the others still are
  record TakesDue (m : Message) : Type 0 where
    ahead : List Message
    behind : List Message
    due : h.due ≡ ahead ++ m ∷ behind
    line : controls (line_of s k) ≡ (ahead ++ behind) ++ barrier_request barrier ∷ []
    back : signals (back_of l) ≡ h.errors

  takes_due : (m : Message) → TakesChange s l k m → TakesDue m
  takes_due m d = go h.way
    where
      go : IsOnItsWay barrier h.due h.errors (line_of s l) (back_of l) → TakesDue m
      go (inl w) =
          let t = ahead_of_last d.ahead m d.behind h.due (barrier_request barrier) (barrier_apart barrier m d.change) (sym d.was ∙ w.0) in
          record {
            ahead = d.ahead;
            behind = t.0;
            due = t.1;
            line = d.line ∙ ap (λ (ms : List Message). d.ahead ++ ms) t.2 ∙ sym (append_assoc d.ahead t.0 (barrier_request barrier ∷ []));
            back = w.1;
          }
      go (inr w) = absurd (some_there d.ahead m d.behind (sym d.was ∙ w.1))

  module _ (m : Message) (t : TakesDue m) where
    one_due : IsChangeOf first barrier changes m
    one_due = (all_right (IsChangeOf first barrier changes) t.ahead (m ∷ t.behind) (subst (AllByRecursion (IsChangeOf first barrier changes)) t.due (due_changes part))).0

    once_taken : IsPermutation (part.carried ++ (part.heard ++ (part.unheard ++ (t.ahead ++ m ∷ t.behind)))) (changes_from first changes)
    once_taken = subst (λ (due : List Message). IsPermutation (part.carried ++ (part.heard ++ (part.unheard ++ due))) (changes_from first changes)) t.due part.once

    refusal_signal : (kind code : ℕ) (bytes : List ℕ) → signals (message m.xid (Error kind code bytes) ∷ []) ≡ message m.xid (Error kind code bytes) ∷ []
    refusal_signal kind code bytes =
        let from = one_due.from in
        let above = part.above in
        filter_takes is_signal (message m.xid (Error kind code bytes)) [] (error_signal m.xid kind code bytes (λ e. absurd (omega arith)))

  flies_carrying : (m : Message) → CarriesChange s l k m → CarriesOut first barrier changes quiet done s l k
  flies_carrying m d = go (takes_due m d.takes)
    where
      go : TakesDue m → CarriesOut first barrier changes quiet done s l k
      go t =
          let one = one_due m t in
          record {
            change = one.change;
            among = one.among;
            table = carries_out m.body one.change l.switch.table k.switch.table (ap (λ (x : Message). x.body) one.is) d.leads;
            flight = record {
              due = t.ahead ++ t.behind;
              errors = h.errors;
              each = record {
                carried = m ∷ part.carried;
                heard = part.heard;
                unheard = part.unheard;
                above = part.above;
                numbers = part.numbers;
                once = once_carried part.carried part.heard part.unheard (changes_from first changes) m t.ahead t.behind (once_taken m t);
                asked = (ap (λ (x : Message). x.body) one.is, part.asked);
                noisy = part.noisy;
                told = part.told;
              };
              way = inl (t.line, d.back ∙ t.back);
            };
          }

  abbrev refusal : (m : Message) → RefusesChange s l k m → Message
  refusal m d = message m.xid (Error d.kind d.code d.bytes)

  flies_refusing : (m : Message) → RefusesChange s l k m → FliesOn first barrier changes quiet done s l k
  flies_refusing m d = go (takes_due m d.takes)
    where
      go : TakesDue m → FliesOn first barrier changes quiet done s l k
      go t = record {
        table = d.table;
        flight = record {
          due = t.ahead ++ t.behind;
          errors = h.errors ++ refusal m d ∷ [];
          each = record {
            carried = part.carried;
            heard = part.heard;
            unheard = part.unheard ++ m ∷ [];
            above = part.above;
            numbers = part.numbers;
            once = once_refused part.carried part.heard part.unheard (changes_from first changes) m t.ahead t.behind (once_taken m t);
            asked = part.asked;
            noisy = part.noisy;
            told = AllZip-push IsErrorOf part.unheard h.errors m (refusal m d) part.told (record { kind = d.kind; code = d.code; bytes = d.bytes; is = refl });
          };
          way = inl (t.line, d.back ∙ ap₂ (λ (xs ys : List Message). xs ++ ys) t.back (refusal_signal m t d.kind d.code d.bytes));
        };
      }

  flies_answering : (m : Message) → AnswersFirst s l k m → FliesOn first barrier changes quiet done s l k
  flies_answering m d = record { table = d.table; flight = record { due = h.due; errors = h.errors; each = part; way = go h.way } }
    where
      go : IsOnItsWay barrier h.due h.errors (line_of s l) (back_of l) → IsOnItsWay barrier h.due h.errors (line_of s k) (back_of k)
      go (inl w) =
          let t = due_none first barrier changes h.due m (controls (line_of s k)) (due_changes part) d.barrier (sym d.was ∙ w.0) in
          inr (t.0, t.2, d.back ∙ ap₂ (λ (ms : List Message) (n : ℕ). ms ++ message n BarrierReply ∷ []) w.1 (ap (λ (x : Message). x.xid) t.1))
      go (inr w) = absurd (some_there [] m (controls (line_of s k)) (sym d.was ∙ w.1))

pub steps_fly_on : StepsFlyOn
steps_fly_on first barrier changes quiet done step s l k does h = go (deals step s l k does)
  where
    go : Deals s l k → CarriesOut first barrier changes quiet done s l k ⊎ FliesOn first barrier changes quiet done s l k
    go (idles d) = inr (record { table = d.table; flight = flights_agree first barrier changes quiet done (line_of s l) (back_of l) (line_of s k) (back_of k) d.line d.back h })
    go (carries m d) = inl (flies_carrying first barrier changes quiet done s l k h m d)
    go (refuses m d) = inr (flies_refusing first barrier changes quiet done s l k h m d)
    go (answers m d) = inr (flies_answering first barrier changes quiet done s l k h m d)
