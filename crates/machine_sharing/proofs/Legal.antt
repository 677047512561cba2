-- Legal histories of calls and of turns.
use Rattle.std.proofs.Common.{[], ◌∷◌, refl, sym, ap, ap₂, subst}
use Rattle.machine_steps.specs.Laws.{KeepsSound}
use Rattle.machine_steps.specs.Machine.{State}
use Rattle.machine_steps.specs.Sound.{IsSound}
use Rattle.machine_sharing.specs.Legal.{CallsAreTurns, StatesAreSound, TurnsAreCalls, call_of, turn_of}
use Rattle.machine_sharing.specs.Sharing.{Turns}

pub calls_are_turns : CallsAreTurns
calls_are_turns m [] last same = record { leads = same; same = refl }
calls_are_turns m (e ∷ es) last (turn, rest) =
    let later = calls_are_turns e.behind es last rest in
    record { leads = (refl, record { admitted = turn.admitted; steps = turn.steps }, later.leads); same = ap (λ cs. e ∷ cs) later.same }

module _ (keeps : KeepsSound) where
  pub states_are_sound : StatesAreSound
  states_are_sound m [] last sound same = subst IsSound (sym same) sound
  states_are_sound m (e ∷ es) last sound (turn, rest) = states_are_sound e.behind es last (keeps m e.entry e.reply e.behind sound turn.admitted turn.steps) rest

  pub turns_are_calls : TurnsAreCalls
  turns_are_calls m [] last sound same = record { replays = same; same = refl }
  turns_are_calls m (t ∷ ts) last sound (same, turn, rest) =
      let first : Turns m t.entry t.reply t.behind =
      subst (λ n. Turns n t.entry t.reply t.behind) same record { sound = subst IsSound (sym same) sound; admitted = turn.admitted; steps = turn.steps } in
      let later = turns_are_calls t.behind ts last (keeps m t.entry t.reply t.behind sound first.admitted first.steps) rest in
      record {
        replays = (first, later.replays);
        same = ap₂ (λ (n : State) us. turn_of n (call_of t) ∷ us) (sym same) later.same;
      }
