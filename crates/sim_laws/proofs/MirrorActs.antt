-- Steps of a switch one after the other, as events of the world.
use Rattle.std.proofs.Common.{◌≡◌, ℕ, false, map, List, [], ◌∷◌, ◌++◌, Some, refl, sym, ap, ◌∙◌, subst, append_assoc, append-nil}
use Rattle.std.specs.Prelude.{◌==◌}
use Rattle.std.specs.List.{AllByRecursion}
use Rattle.std.specs.Option.{option_map}
use Rattle.of10_codec.specs.declared.message.Message.{Message}
use Rattle.device_port.specs.Switches.{Step, IsFree}
use Rattle.device_port.specs.Switches.Step.{Take}
use Rattle.machine_steps.specs.Machine.{State}
use Rattle.world_steps.specs.Worlds.{Link, LinkDoes, World, WorldStep, at_link, link_at}
use Rattle.world_steps.specs.Worlds.WorldStep.{Acts}
use Rattle.world_steps.specs.Runs.{Event, Runs}
use Rattle.world_right.proofs.Links.{changed_there, is_of_connection, others_there}
use Rattle.sim_steps.specs.Showing.{acts, sends}

-- steps at a link
abbrev pub LinkRun : List Step → Link → Link → Type 0
LinkRun [] l k = k ≡ l
LinkRun (step ∷ steps) l k = (between : Link) × LinkDoes step l between × LinkRun steps between k

pub run_append : (xs ys : List Step) (l k j : Link) → LinkRun xs l k → LinkRun ys k j → LinkRun (xs ++ ys) l j
run_append [] ys l k j e r = subst (λ z. LinkRun ys z j) e r
run_append (x ∷ xs) ys l k j (between, does, r) q = (between, does, run_append xs ys between k j r q)

abbrev pub sent_behind : List Message → Link → Link
sent_behind messages l = record l { switch = record l.switch { sent = l.switch.sent ++ messages } }

-- messages are sent of the switch's own accord
pub sends_run : (messages : List Message) (l : Link) → AllByRecursion IsFree messages → LinkRun (sends messages) l (sent_behind messages l)
sends_run [] l free = ap (λ xs. record l { switch = record l.switch { sent = xs } }) (append-nil l.switch.sent)
sends_run (m ∷ ms) l free =
    let next : Link = sent_behind (m ∷ []) l in (
      next,
      (next.switch, record { free = free.0; now_is = refl }, refl),
      subst (LinkRun (sends ms) next) (ap (λ xs. record l { switch = record l.switch { sent = xs } }) (append_assoc l.switch.sent (m ∷ []) ms)) (sends_run ms next free.1),
    )

connection_stays : (step : Step) (l k : Link) → LinkDoes step l k → k.connection ≡ l.connection
connection_stays (Take m) l k does = ap (λ (x : Link). x.connection) does.4
connection_stays step l k does = ap (λ (x : Link). x.connection) does.2

-- ---- in the world

abbrev pub world_of : State → List Link → World
world_of m links = record { machine = m; links = links }

pub runs_append : (w : World) (xs ys : List Event) (v u : World) → Runs w xs v → Runs v ys u → Runs w (xs ++ ys) u
runs_append w [] ys v u e r = subst (λ z. Runs z ys u) e r
runs_append w (x ∷ xs) ys v u (same, happens, rest) r = (same, happens, runs_append x.behind xs ys v u rest r)

abbrev pub steps_of : List Event → List WorldStep
steps_of es = map (λ (e : Event). e.step) es

-- the link of a connection goes to this one by these steps, and the others stay
pub record ActedAt (c : ℕ) (steps : List Step) (m : State) (links : List Link) (last : Link) : Type 0 where
  pub events : List Event
  pub behind : List Link
  pub runs : Runs (world_of m links) events (world_of m behind)
  pub by : steps_of events ≡ acts c steps
  pub there : link_at c behind ≡ Some last
  pub others : (d : ℕ) → (c == d) ≡ false → link_at d behind ≡ link_at d links

pub acted : (c : ℕ) (m : State) (steps : List Step) (links : List Link) (l last : Link) → link_at c links ≡ Some l → LinkRun steps l last → ActedAt c steps m links last
acted c m [] links l last there run =
    record { events = []; behind = links; runs = refl; by = refl; there = there ∙ ap Some (sym run); others = λ d other. refl }
acted c m (step ∷ steps) links l last there (between, does, run) =
    let next : List Link = at_link c (λ k. between) links in
    let own : between.connection ≡ c = connection_stays step l between does ∙ is_of_connection c links l there in
    let rest = acted c m steps next between last (changed_there c (λ k. between) (λ k h. own) links ∙ ap (option_map (λ k. between)) there) run in
    record {
      events = record { before = world_of m links; step = Acts c step; behind = world_of m next } ∷ rest.events;
      behind = rest.behind;
      runs = (refl, record { link = l; there = there; behind = between; does = does; now_is = refl }, rest.runs);
      by = ap (λ xs. Acts c step ∷ xs) rest.by;
      there = rest.there;
      others = λ d other. rest.others d other ∙ others_there c (λ k. between) (λ k h. own) d other links;
    }
