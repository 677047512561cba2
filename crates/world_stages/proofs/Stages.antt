-- Each stage of a live session is kept by each step of its switch.
use Rattle.std.proofs.Common.{◌≡◌, ℕ, true, List, ◌∷◌, sym, ◌∙◌, subst, inl, inr, ⊎_elim}
use Rattle.std.specs.Prelude.{Contains, Option, Some, None}
use Rattle.std.proofs.lemmas.List.Sorted.{IsPermutation-sym, IsPermutation-trans, Contains-permutation}
use Rattle.maple_base.specs.declared.decision.Rule.{Rule}
use Rattle.maple_base.specs.declared.decision.TableMod.{TableMod}
use Rattle.maple_base.specs.RuleLists.{Rules}
use Rattle.update_plan.specs.Batches.{rules_of, batch, between, first_adds, first_deletes, second_adds, second_deletes, IsSent, IsTarget}
use Rattle.update_plan.specs.Laws.{StepsKeep, InFirst, InSecond}
use Rattle.update_plan.proofs.Safe.{step_law, sent_law}
use Rattle.switch_session.specs.declared.part.UnderWay.{UnderWay}
use Rattle.switch_session.specs.Sessions.{next_rules}
use Rattle.device_port.specs.Switches.{Step}
use Rattle.machine_steps.specs.Machine.{Session, State, is_live}
use Rattle.machine_steps.specs.Steps.{switch_of}
use Rattle.world_steps.specs.Since.{Marks}
use Rattle.world_steps.specs.Worlds.{Link, LinkDoes}
use Rattle.world_stages.specs.Flights.{line_of, back_of, IsInFlight, StaysOrLoses}
use Rattle.world_stages.specs.FlightLaws.{CarriesOut, FliesOn}
use Rattle.world_stages.specs.Backed.{IsBackedSince}
use Rattle.world_stages.specs.Stages.{AreLasting, start_of, IsGuarded, IsGuardedByEither, IsFirstClearing, IsAtRest, IsUpdateClearing, IsInFirst, IsInSecond, IsInPart, IsWiping, IsInStage, Anything}
use Rattle.world_stages.specs.StageLaws.{IsPlaced, SwitchesKeepStages}
use Rattle.world_stages.proofs.Steady.{moved_lasting, lasting_stays, backed_target, backed_lasting, during_stays, guarded_stays, first_guarded, second_guarded, live_capacity, heading_lasting}
use Rattle.world_stages.proofs.Steps.{StepLaws}
use Rattle.world_stages.proofs.Clearings.{clearing_goes}

-- what is sent of a batch is of the batch
in_batch : (adds deletes : List Rule) (mods : List TableMod) (change : TableMod) → IsSent adds deletes mods → Contains mods change → Contains (batch adds deletes) change
in_batch adds deletes mods change sent c =
    Contains-permutation mods (batch adds deletes) change (IsPermutation-sym (batch adds deletes) mods (sent_law adds deletes mods sent)) c

module _ (laws : StepLaws) (s : Session) (l k : Link) (step : Step) (does : LinkDoes step l k) where
  rest_goes : AreLasting (rules_of s.target) → IsAtRest s l → IsAtRest s k
  rest_goes lasting h =
      let c = laws.clear step s l k does h.way in
      let here = moved_lasting (rules_of s.target) l.switch.table h.table lasting in
      record {
        ready = h.ready;
        way = c.way;
        to_come = h.to_come;
        next = h.next;
        hushed = h.hushed;
        table = IsPermutation-trans (rules_of s.target) l.switch.table k.switch.table h.table (lasting_stays l.switch.table k.switch.table here c.table);
      }

  module _ (part : UnderWay) where
    first_clearing_goes : IsFirstClearing part s l → IsFirstClearing part s k
    first_clearing_goes h = record {
      ready = h.ready;
      quiet = h.quiet;
      target = h.target;
      to_come = h.to_come;
      clearing = clearing_goes laws Anything (λ old new stays b. tt) part s l k step does h.clearing;
    }

    guard_goes : (X : Rules) (old new : List Rule) → StaysOrLoses old new → IsGuarded s.capacity X old → IsGuarded s.capacity X new
    guard_goes X old new stays h = guarded_stays s.capacity X old new (lasting_stays old new h.lasting stays) h

    either_goes : (old new : List Rule) → StaysOrLoses old new → IsGuardedByEither s.capacity part old → IsGuardedByEither s.capacity part new
    either_goes old new stays h = ⊎_elim (λ g. inl (guard_goes (start_of s.capacity part) old new stays g)) (λ g. inr (guard_goes part.lists.to old new stays g)) h

    update_clearing_goes : IsUpdateClearing part s l → IsUpdateClearing part s k
    update_clearing_goes h = record {
      ready = h.ready;
      quiet = h.quiet;
      over = h.over;
      first = h.first;
      second = h.second;
      is_first = h.is_first;
      is_second = h.is_second;
      goes_on = h.goes_on;
      clearing = clearing_goes laws (IsGuarded s.capacity part.lists.from) (guard_goes part.lists.from) part s l k step does h.clearing;
    }

    wiping_goes : IsWiping part s l → IsWiping part s k
    wiping_goes h = record {
      ready = h.ready;
      quiet = h.quiet;
      target = h.target;
      to_come = h.to_come;
      clearing = clearing_goes laws (IsGuardedByEither s.capacity part) either_goes part s l k step does h.clearing;
    }

    module _ (from : IsTarget s.capacity part.lists.from) (to : IsTarget s.capacity part.lists.to) (from_lasting : AreLasting (rules_of part.lists.from)) (to_lasting : AreLasting (rules_of part.lists.to)) where
      keep : StepsKeep s.capacity (start_of s.capacity part) part.lists.to
      keep = step_law s.capacity part.lists.from part.lists.to from to

      in_first_goes : IsInFirst part s l → IsInFirst part s k
      in_first_goes h = ⊎_elim carried on (laws.flies h.first part.barrier h.changes s.quiet h.done step s l k does h.flight)
        where
          A : Rules
          A = start_of s.capacity part

          B : Rules
          B = part.lists.to

          with_done : (done : List TableMod) → IsInFlight h.first part.barrier h.changes s.quiet done (line_of s k) (back_of k) → InFirst (start_of s.capacity part) part.lists.to done k.switch.table → IsInFirst part s k
          with_done done flight table = record {
            ready = h.ready;
            clears = h.clears;
            changes = h.changes;
            second = h.second;
            is_first = h.is_first;
            is_second = h.is_second;
            goes_on = h.goes_on;
            first = h.first;
            done = done;
            flight = flight;
            table = table;
          }

          carried : CarriesOut h.first part.barrier h.changes s.quiet h.done s l k → IsInFirst part s k
          carried c =
              let among = in_batch (first_adds A B) (first_deletes A B) h.changes c.change h.is_first c.among in
              with_done (c.change ∷ h.done) c.flight (keep.first_more h.done c.change l.switch.table k.switch.table among h.table c.table)

          on : FliesOn h.first part.barrier h.changes s.quiet h.done s l k → IsInFirst part s k
          on f =
              let guarded = first_guarded s.capacity part.lists.from part.lists.to from to from_lasting to_lasting h.done l.switch.table h.table in
              let moves = lasting_stays l.switch.table k.switch.table guarded.lasting f.table in
              with_done h.done f.flight (during_stays (rules_of A) (first_adds A B) (first_deletes A B) h.done l.switch.table k.switch.table moves h.table)

      in_second_goes : IsInSecond part s l → IsInSecond part s k
      in_second_goes h = ⊎_elim carried on (laws.flies h.first part.barrier h.changes s.quiet h.done step s l k does h.flight)
        where
          A : Rules
          A = start_of s.capacity part

          B : Rules
          B = part.lists.to

          with_done : (done : List TableMod) → IsInFlight h.first part.barrier h.changes s.quiet done (line_of s k) (back_of k) → InSecond (start_of s.capacity part) part.lists.to done k.switch.table → IsInSecond part s k
          with_done done flight table = record {
            ready = h.ready;
            clears = h.clears;
            changes = h.changes;
            is_second = h.is_second;
            goes_on = h.goes_on;
            first = h.first;
            done = done;
            flight = flight;
            table = table;
          }

          carried : CarriesOut h.first part.barrier h.changes s.quiet h.done s l k → IsInSecond part s k
          carried c =
              let among = in_batch (second_adds A B) (second_deletes A B) h.changes c.change h.is_second c.among in
              with_done (c.change ∷ h.done) c.flight (keep.second_more h.done c.change l.switch.table k.switch.table among h.table c.table)

          on : FliesOn h.first part.barrier h.changes s.quiet h.done s l k → IsInSecond part s k
          on f =
              let guarded = second_guarded s.capacity part.lists.from part.lists.to from to from_lasting to_lasting h.done l.switch.table h.table in
              let moves = lasting_stays l.switch.table k.switch.table guarded.lasting f.table in
              with_done h.done f.flight (during_stays (between A B) (second_adds A B) (second_deletes A B) h.done l.switch.table k.switch.table moves h.table)

      part_goes : IsInPart part s l → IsInPart part s k
      part_goes h = ⊎_elim (λ c. inl (update_clearing_goes c)) (λ b. inr (⊎_elim (λ f. inl (in_first_goes f)) (λ n. inr (in_second_goes n)) b)) h

    -- of an update whose lists are backed
    module _ (m : State) (marks : Marks) (capacity : s.capacity ≡ m.settings.capacity) where
      target : (X : Rules) → IsBackedSince m marks.base (switch_of s) X → IsTarget s.capacity X
      target X h = subst (λ n. IsTarget n X) (sym capacity) (backed_target h.backed)

      running_goes : IsInStage (Some part) m marks s l → IsInStage (Some part) m marks s k
      running_goes h = (
        h.0,
        ⊎_elim (λ c. inl (first_clearing_goes c))
            (λ d. inr (⊎_elim
            (λ p. inl (part_goes (target part.lists.from h.0.from) (target part.lists.to h.0.to) (backed_lasting h.0.from.backed) (backed_lasting h.0.to.backed) p))
            (λ w. inr (wiping_goes w)) d))
            h.1,
      )

module _ (laws : StepLaws) (c : ℕ) (m : State) (marks : Marks) (s : Session) (l k : Link) (step : Step) (placed : IsPlaced c m marks s l) (does : LinkDoes step l k) where
  stage_goes : is_live s ≡ true → (u : Option UnderWay) → IsInStage u m marks s l → IsInStage u m marks s k
  stage_goes live None h =
      let headed = heading_lasting c m s placed.sound placed.there live in
      rest_goes laws s l k step does (subst (λ next. AreLasting (rules_of (next_rules next s.target))) h.next headed) h
  stage_goes live (Some part) h = running_goes laws s l k step does part m marks (live_capacity c m s placed.sound placed.there live) h

pub keeps_stages : StepLaws → SwitchesKeepStages
keeps_stages laws c m marks s l k step placed does =
    let keeps = laws.keeps step s l k does in
    record {
      numbered = keeps.numbered placed.linked.numbered;
      tells = keeps.tells placed.linked.tells;
      live = λ e.
          let h = placed.linked.live e in
          record {
            dpid = keeps.dpid ∙ h.dpid;
            stage = stage_goes laws c m marks s l k step placed does e s.under_way h.stage;
            next = h.next;
            hushed = h.hushed;
            aimed = h.aimed;
          };
      early = λ e.
          let h = placed.linked.early e in
          record { way = (laws.clear step s l k does h.way).way; to_come = h.to_come };
    }
