-- Reading tokens one after the other, and what each adds.
use Rattle.std.proofs.Common.{◌≡◌, ◌≢◌, ℕ, ◌+◌, ◌<◌, ◌≤◌, List, [], ◌∷◌, ◌++◌, length, take, get_or, Option, Some, None, sym, ap, ◌∙◌, append_assoc, append-nil, arith}
use Rattle.std.proofs.lemmas.List.{take_more, take_all}
use Rattle.std.proofs.lemmas.Option.{slice_get_past, slice_get-get_or}
use Rattle.std.specs.Option.{option_and_then}
use Rattle.policy_tokens.specs.declared.token.Token.{Token}
use Rattle.policy_tokens.specs.declared.token.Token.TheVariants.{PacketSwitch}
use Rattle.policy_grammar.specs.declared.event.Event.{Event}
use Rattle.policy_grammar.specs.declared.stage.Stage.TheVariants as at
use Rattle.policy_grammar.specs.Automaton.{State, step, run, start}
use Rattle.policy_grammar.specs.Events.{events, events_onto, trace}
use Rattle.policy_grammar.specs.Reading.{RunsToEnd, StopsAt}
use Rattle.policy_grammar.proofs.Runs.{run_append}

behind_step : (ts us : List Token) (n : State) → ((s : State) → run s ts ≡ Some n → trace s (ts ++ us) ≡ trace s ts ++ trace n us) → (o : Option State)
    → option_and_then (λ s. run s ts) o ≡ Some n → events_onto o (λ s. trace s (ts ++ us)) ≡ events_onto o (λ s. trace s ts) ++ trace n us
behind_step ts us n h None e = absurd (cc)
behind_step ts us n h (Some s) e = h s e

-- of tokens is read what is read of the first of them, and then of the others
pub trace_append : (s n : State) (ts us : List Token) → run s ts ≡ Some n → trace s (ts ++ us) ≡ trace s ts ++ trace n us
trace_append s n [] us e = let same : s ≡ n = cc in ap (λ m. trace m us) same
trace_append s n (t ∷ ts) us e =
    ap (λ es. events s t ++ es) (behind_step ts us n (λ m. trace_append m n ts us) (step s t) e)
    ∙ sym (append_assoc (events s t) (events_onto (step s t) (λ m. trace m ts)) (trace n us))

-- these tokens were read, and this is what they add
pub record Progress (ts : List Token) (s : State) (es : List Event) : Type 0 where
  pub run : run start ts ≡ Some s
  pub events : es ≡ trace start ts

adds_nothing : (o : Option State) → events_onto o (λ s. trace s []) ≡ []
adds_nothing o = grind arith

run_one : (s n : State) (t : Token) → step s t ≡ Some n → run s (t ∷ []) ≡ Some n
run_one s n t e = ap (option_and_then (λ m. run m [])) e

-- and one more
pub goes_on : (ts : List Token) (s n : State) (es : List Event) (t : Token) → step s t ≡ Some n → Progress ts s es → Progress (ts ++ t ∷ []) n (es ++ events s t)
goes_on ts s n es t e p =
    record {
      run = run_append start ts (t ∷ []) ∙ ap (option_and_then (λ m. run m (t ∷ []))) p.run ∙ run_one s n t e;
      events =
          ap (λ us. us ++ events s t) p.events
          ∙ ap (λ us. trace start ts ++ us) (sym (append-nil (events s t)) ∙ ap (λ us. events s t ++ us) (sym (adds_nothing (step s t))))
          ∙ sym (trace_append start s ts (t ∷ []) p.run);
    }

all_read : (ts : List Token) (i : ℕ) (s : State) (es : List Event) → length ts ≤ i → Progress (take i ts) s es → run start ts ≡ Some s
all_read ts i s es h p = ap (run start) (sym (take_all i ts h)) ∙ p.run

pub runs_to_end : (ts : List Token) (i : ℕ) (s : State) (es : List Event) → length ts ≤ i → Progress (take i ts) s es → s.stage ≡ at.End → RunsToEnd ts
runs_to_end ts i s es h p e = record { state = s; run = all_read ts i s es h p; ended = e }

pub stops_at_end : (ts : List Token) (i n : ℕ) (s : State) (es : List Event) → length ts ≤ i → n ≡ length ts → Progress (take i ts) s es → s.stage ≢ at.End → StopsAt ts n
stops_at_end ts i n s es h l p e =
    record {
      state = s;
      within = omega (arith, l);
      run = ap (run start) (take_all n ts (omega (arith, l))) ∙ all_read ts i s es h p;
      stops = λ t f. let none : None ≡ Some t = sym (slice_get_past ts n (omega (arith, l))) ∙ f in absurd (cc);
      unfinished = λ _. e;
    }

-- ---- of tokens that no policy goes on with

pub stops_behind : (ts : List Token) (i : ℕ) → i < length ts → StopsAt ts i → run start (take (i + 1) ts) ≡ None
stops_behind ts i h x =
    let t = get_or ts i PacketSwitch in
    ap (run start) (take_more ts i PacketSwitch h)
    ∙ run_append start (take i ts) (t ∷ [])
    ∙ ap (option_and_then (λ m. run m (t ∷ []))) x.run
    ∙ ap (option_and_then (λ m. run m [])) (x.stops t (slice_get-get_or ts i PacketSwitch h))
