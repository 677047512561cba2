-- A clearing that goes on, or whose DELETE is carried out.
use Rattle.std.proofs.Common.{◌≡◌, false, List, [], ◌∷◌, sym, subst, inl, inr, ⊎_elim}
use Rattle.std.specs.Prelude.{Contains}
use Rattle.std.specs.List.Sorted.{IsPermutation}
use Rattle.maple_base.specs.declared.decision.Rule.{Rule}
use Rattle.maple_base.specs.declared.decision.TableMod.{TableMod}
use Rattle.maple_base.specs.declared.decision.TableMod.TheVariants.{DeleteAll}
use Rattle.flow_table.specs.Effects.{effect}
use Rattle.update_plan.proofs.Members.{none_in, in_cons}
use Rattle.switch_session.specs.declared.part.UnderWay.{UnderWay}
use Rattle.device_port.specs.Switches.{Step}
use Rattle.machine_steps.specs.Machine.{Session}
use Rattle.world_steps.specs.Worlds.{Link, LinkDoes}
use Rattle.world_stages.specs.Flights.{StaysOrLoses}
use Rattle.world_stages.specs.FlightLaws.{CarriesOut, FliesOn}
use Rattle.world_stages.specs.Stages.{IsClearing}
use Rattle.world_stages.proofs.Steps.{StepLaws, none_left, empty_stays}

-- the one change of a clearing
is_delete : (change : TableMod) → Contains (DeleteAll ∷ []) change → DeleteAll ≡ change
is_delete change c = ⊎_elim (λ e. e) (λ d. absurd (none_in change d)) (in_cons DeleteAll [] change c)

module _ (laws : StepLaws) (Before : List Rule → Type 0) (keeps : (old new : List Rule) → StaysOrLoses old new → Before old → Before new) (part : UnderWay) (s : Session) (l k : Link) (step : Step) (does : LinkDoes step l k) where
  pub clearing_goes : IsClearing Before part s l → IsClearing Before part s k
  clearing_goes h = ⊎_elim carried on (laws.flies h.first part.barrier (DeleteAll ∷ []) false h.done step s l k does h.flight)
    where
      carried : CarriesOut h.first part.barrier (DeleteAll ∷ []) false h.done s l k → IsClearing Before part s k
      carried c =
          let moves = subst (λ change. IsPermutation (effect change l.switch.table) k.switch.table) (sym (is_delete c.change c.among)) c.table in
          let empty : k.switch.table ≡ [] = none_left k.switch.table moves in
          record { clears = h.clears; first = h.first; numbers = h.numbers; done = c.change ∷ h.done; flight = c.flight; table = inr empty; before = λ e. absurd (cc); cleared = λ d. empty }

      still : StaysOrLoses l.switch.table k.switch.table → l.switch.table ≡ [] → k.switch.table ≡ []
      still stays e = empty_stays k.switch.table (subst (λ table. StaysOrLoses table k.switch.table) e stays)

      on : FliesOn h.first part.barrier (DeleteAll ∷ []) false h.done s l k → IsClearing Before part s k
      on f = record {
        clears = h.clears;
        first = h.first;
        numbers = h.numbers;
        done = h.done;
        flight = f.flight;
        table = ⊎_elim (λ b. inl (keeps l.switch.table k.switch.table f.table b)) (λ e. inr (still f.table e)) h.table;
        before = λ e. keeps l.switch.table k.switch.table f.table (h.before e);
        cleared = λ d. still f.table (h.cleared d);
      }
