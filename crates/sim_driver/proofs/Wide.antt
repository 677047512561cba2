-- At the desk an entry was asked for, behind what others did, that is of no place.
use Rattle.std.proofs.Common.{◌≡◌, ℕ, ◌+◌, Bool, true, false, List, refl, sym, ap, ◌∙◌, subst, inl, inr}
use Rattle.std.specs.List.{slice_get}
use Rattle.env_cells.specs.declared.updates.Update.{Update}
use Rattle.env_cells.specs.declared.updates.Update.TheVariants.{Host, NoHost, Link, NoLink, Set, Unset}
use Rattle.device_port.specs.Devices.{Meaning}
use Rattle.machine_desk.specs.Desks.{DeskView}
use Rattle.machine_desk.specs.Orders.{Asked, Asks, Changes, Renews, Stops, StopsRenewing, refusal}
use Rattle.machine_desk.specs.declared.asking.DeskStop.{DeskStop}
use Rattle.machine_desk.specs.declared.asking.DeskStop.TheVariants as stops
use Rattle.machine_steps.specs.declared.entry.Entry.{Entry}
use Rattle.machine_steps.specs.declared.entry.Entry.TheVariants as entries
use Rattle.machine_steps.specs.declared.note.Note.{Note}
use Rattle.machine_steps.specs.declared.note.Note.TheVariants as notes
use Rattle.machine_steps.specs.declared.reply.Reply.{Reply}
use Rattle.machine_steps.specs.Admitting.{IsOperators}
use Rattle.machine_steps.specs.Machine.{State, session_at}
use Rattle.machine_steps.specs.Steps.{Steps}
use Rattle.machine_moves.specs.Told.{is_heard, is_new_state}
use Rattle.script_text.specs.Steps.{IsOfLine}
use Rattle.sim_steps.specs.Benches.{Bench}
use Rattle.sim_steps.specs.Deeds.{MayEnter}
use Rattle.sim_steps.specs.Deeds.Deed.{Enters}
use Rattle.sim_steps.specs.Parts.{asks, tells_settling}
use Rattle.sim_steps.specs.Stretches.{BreaksOff}
use Rattle.sim_steps.proofs.Broken.{broken_here}
use Rattle.sim_channels.specs.declared.driver.Driver.{Driver}
use Rattle.sim_channels.specs.Channels.{IsKept, WorksAlone, bench}
use Rattle.machine_desk.specs.Driving.{DrivingLaws}
use Rattle.sim_channels.specs.Resting.{RestingLaws}
use Rattle.sim_channels.specs.Waiting.{IsAtRest, IsDone, IsHeardThrough}
use Rattle.sim_channels.proofs.Broken.{worn_past}
use Rattle.sim_channels.proofs.Making.{had_memory}
use Rattle.sim_channels.proofs.Keeping.{bears_on}
use Rattle.sim_channels.proofs.Kept.{kept_entry}
use Rattle.sim_channels.proofs.Others.{ahead, alone_back, kept_ahead, others_ahead, same_desk}
use Rattle.sim_channels.proofs.Places.{fits_same}
use Rattle.sim_turns.specs.Turning.{FitsStill}
use Rattle.sim_turns.proofs.Broken.{asked_stop}
use Rattle.sim_driver.specs.Commands.{AsksFor, AsksToRenew}
use Rattle.sim_driver.proofs.Asking.{asks_for}

-- a script's update is one that an operator may make
pub operators : (u : Update) → IsOfLine u → IsOperators u
operators (Host mac place) line = tt
operators (NoHost mac) line = tt
operators (Link from to) line = tt
operators (NoLink from) line = tt
operators (Set table key value) line = tt
operators (Unset table key) line = tt
operators u line = absurd line

-- ---- where no session changes

abbrev Stay : State → State → Type 0
Stay old new = (c : ℕ) → session_at c new ≡ session_at c old

-- an update that is refused
refused : (old : State) (u : Update) (reply : Reply) (new : State) → Steps old (entries.Change u) reply new → is_new_state reply ≡ false → Stay old new
refused old u reply new (inl (free, r, a)) none c = (let made : false ≡ true = sym none ∙ ap is_new_state r in absurd (cc))
refused old u reply new (inr (inl (kind, is, r, e))) none c = ap (λ (m : State). session_at c m) e
refused old u reply new (inr (inr (r, e))) none c = ap (λ (m : State). session_at c m) e

listed : (old : State) (switch : ℕ) (reply : Reply) (new : State) → Steps old (entries.ReadRules switch) reply new → Stay old new
listed old switch reply new (inl (rules, put, r, e)) c = ap (λ (m : State). session_at c m) e
listed old switch reply new (inr (r, e)) c = ap (λ (m : State). session_at c m) e

noted : (old : State) (note : Note) (reply : Reply) (new : State) → Steps old (entries.Note note) reply new → Stay old new
noted old note reply new (inl (r, e)) c = ap (λ (m : State). session_at c m) e
noted old note reply new (inr (r, e)) c = ap (λ (m : State). session_at c m) e

-- ---- what stands behind it

-- this was asked for, and nothing else is left to do but to take out and offer; where it was in vain, not even that
pub record Stands (went : Bool) (Said : Type 0) (d e : Driver) : Type 0 where
  pub fits : FitsStill d e
  pub through : IsHeardThrough e
  pub rest : went ≡ false → IsAtRest e
  pub asked : Said

stands_so : (went : Bool) (F G : Type 0) (d e : Driver) → (F → G) → Stands went F d e → Stands went G d e
stands_so went F G d e so h = record { fits = h.fits; through = h.through; rest = h.rest; asked = so h.asked }

module _ (laws : DrivingLaws) (resting : RestingLaws) (d e : Driver) (kept : IsKept d) (rest : IsAtRest d) (same : e ≡ record d { desk = e.desk })
    (footing : e.desk.footing ≡ d.desk.footing) where
  at_index : (at : ℕ) → slice_get e.channels.items at ≡ slice_get d.channels.items at
  at_index at = ap (λ (x : Driver). slice_get x.channels.items at) same

  items : e.channels.items ≡ d.channels.items
  items = ap (λ (x : Driver). x.channels.items) same

  -- the entry came behind what others did
  module _ (entry : Entry) (reply : Reply) (made : Asks entry reply d.desk e.desk) where
    abbrev m : Driver
    m = ahead d entry reply e.desk kept made.enters

    kept_m : IsKept m
    kept_m = kept_ahead laws d entry reply e.desk kept made.enters

    rest_m : IsAtRest m
    rest_m = resting.others d m kept (others_ahead d entry reply e.desk kept made.enters) rest

    abbrev steps : Steps m.desk.now entry reply e.desk.now
    steps = made.enters.made.steps

    done_m : WorksAlone e → IsDone m
    done_m alone = rest_m.done (alone_back m e (same_desk m e same footing) alone)

    module _ (asked : asks entry ≡ true) (settled : tells_settling (Enters entry reply) ≡ true → IsDone d) (other : is_heard entry ≡ false) where
      heard_through : IsHeardThrough e
      heard_through = record {
        jobs = λ alone. laws.none m.desk.now entry reply e.desk.now (done_m alone).jobs other steps;
        offered = λ at. resting.offered at d e (at_index at) (rest.offered at);
        heard = λ at. resting.heard at d e (at_index at) (rest.heard at);
      }

      stands : (went : Bool) → IsKept e → ((b : Bench) → MayEnter entry b) → (went ≡ false → Stay m.desk.now e.desk.now) → Stands went (AsksFor entry d e) d e
      stands went also may stay = record {
        fits = λ devices fits. fits_same d e devices also items fits;
        through = heard_through;
        rest = λ vain. record {
          done = λ alone. record {
            jobs = heard_through.jobs alone;
            taken = λ at. resting.taken at m e kept_m also (stay vain (at + 1)) ((done_m alone).taken at);
          };
          offered = heard_through.offered;
          heard = heard_through.heard;
        };
        asked =
            asks_for laws resting d entry reply e.desk kept made.enters e (λ devices. ap (λ (x : Driver). bench x devices) same) rest asked settled
            (had_memory reply made.memory)
            (λ devices fits. may (bench d devices));
      }

  -- that opens no session and ends none
  kept_behind : (entry : Entry) (reply : Reply) (made : Asks entry reply d.desk e.desk) → ((c : ℕ) → bears_on c entry ≡ false) → IsKept e
  kept_behind entry reply made none =
      kept_entry laws (m entry reply made) e entry reply (kept_m entry reply made) made.enters.made.admitted (steps entry reply made) none same footing

  pub changed : (u : Update) → (made : Bool) → Changes u made d.desk e.desk → Stands made (AsksFor (entries.Change u) d e) d e
  changed u made h =
      let entry = entries.Change u in
      stands entry h.reply h.asks refl (λ is. absurd (cc)) refl made (kept_behind entry h.reply h.asks (λ c. refl)) (λ b. tt)
      (λ vain. refused h.asks.enters.between u h.reply e.desk.now (steps entry h.reply h.asks) (sym h.made_is ∙ vain))

  pub renewed : (text : List ℕ) (accepted : Bool) → Renews accepted text d.desk e.desk → Stands accepted (AsksToRenew text d e) d e
  renewed text true h =
      let entry = entries.NewPolicy h.policy in
      let reply = h.asked.reply in
      let made = h.asked.asks in
      stands_so true (AsksFor entry d e) (AsksToRenew text d e) d e (λ asked. inl (h.policy, h.is_text, asked))
      (stands entry reply made refl (λ is. absurd (cc)) refl true (kept_behind entry reply made (λ c. refl)) (λ b. tt)
      (λ vain. (let no : true ≡ false = vain in absurd (cc))))
  renewed text false h =
      let entry = refusal h.line h.column h.kind in
      let reply = h.asked.reply in
      let made = h.asked.asks in
      stands_so false (AsksFor entry d e) (AsksToRenew text d e) d e (λ asked. inr (h.line, h.column, h.kind, h.refused, asked))
      (stands entry reply made refl (λ is. absurd (cc)) refl false (kept_behind entry reply made (λ c. refl)) (λ b. tt)
      (λ vain. noted made.enters.between (notes.PolicyRefused h.line h.column h.kind) reply e.desk.now (steps entry reply made)))

  pub rules_stand : (switch : ℕ) → Asked (entries.ReadRules switch) d.desk e.desk → Stands false (AsksFor (entries.ReadRules switch) d e) d e
  rules_stand switch h =
      let entry = entries.ReadRules switch in
      stands entry h.reply h.asks refl (λ is. absurd (cc)) refl false (kept_behind entry h.reply h.asks (λ c. refl)) (λ b. tt)
      (λ vain. listed h.asks.enters.between switch h.reply e.desk.now (steps entry h.reply h.asks))

-- ---- a policy's text wasn't put in force

pub renew_stops : DrivingLaws → (d : Driver) (b : DeskView) → IsKept d → (ds : List Meaning) (text : List ℕ) (stop : DeskStop) → StopsRenewing stop text d.desk b → BreaksOff (bench d ds) b.past
renew_stops laws d b kept ds text stops.NoMemory (inl same) = broken_here (bench d ds) b.past (ap (λ (v : DeskView). v.past) (sym same))
renew_stops laws d b kept ds text stops.NoMemory (inr (entry, inl (policy, is, e), enters)) =
    asked_stop laws (entries.NewPolicy policy) d b kept ds stops.NoMemory (subst (λ (x : Entry). Stops stops.NoMemory x d.desk b) e enters) refl tt
renew_stops laws d b kept ds text stops.NoMemory (inr (entry, inr (line, column, kind, is, e), enters)) =
    asked_stop laws (refusal line column kind) d b kept ds stops.NoMemory (subst (λ (x : Entry). Stops stops.NoMemory x d.desk b) e enters) refl tt
renew_stops laws d b kept ds text stops.Worn h = broken_here (bench d ds) b.past (worn_past d.desk b h)
