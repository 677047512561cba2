-- Deeds from an opening bench are a run of the world.
use Rattle.std.proofs.Common.{◌≡◌, ℕ, zero, suc, Bool, true, false, map, List, [], ◌∷◌, ◌++◌, Some, slice_get, refl, sym, ap, ◌∙◌, subst, append_assoc, append-nil, ◌⊎◌, inl, inr}
use Rattle.std.specs.FinSet as set
use Rattle.std.specs.Ordering.{nat_cmp}
use Rattle.std.proofs.lemmas.Option.{none-some, same_Some}
use Rattle.maple_base.specs.declared.decision.Settings.{Settings}
use Rattle.policy_lang.specs.declared.Policy.{Policy}
use Rattle.of10_codec.specs.Laws.{OneMessage}
use Rattle.device_port.specs.Devices.{Meaning}
use Rattle.machine_moves.specs.MoveLaws.{ConnectionsOpen}
use Rattle.machine_moves.specs.Sends.{OutboxesCanBeOffered, SendsLaw}
use Rattle.machine_steps.specs.declared.entry.Entry.TheVariants as entries
use Rattle.machine_steps.specs.Laws.{KeepsSound, OpensSound}
use Rattle.machine_steps.specs.Machine.{State, was_opened}
use Rattle.machine_steps.specs.Sound.{AreInRange, IsSound}
use Rattle.world_steps.specs.Worlds.{Link, World, opening_world}
use Rattle.world_steps.specs.Runs.{Event as WorldEvent, HistoryLaw, IsWorldRun, Runs as WorldRuns, turns_of}
use Rattle.world_right.specs.Laws.{EveryRunIsRight}
use Rattle.sim_steps.specs.Benches.{Bench, Slot, opening_bench, slot_at, slot_of}
use Rattle.sim_steps.specs.Deeds.{Deed, Does, Event, Runs, note_of}
use Rattle.sim_steps.specs.Deeds.Deed.{Enters, Calls}
use Rattle.sim_steps.specs.Showing.{AllIdle, AllKeep, AreSwitches, BeganWith, HasSwitch, Shows}
use Rattle.sim_laws.specs.Laws.{AreWorldRun, WorldLaw}
use Rattle.sim_laws.proofs.MirrorActs.{runs_append, world_of}
use Rattle.sim_laws.proofs.MirrorDeeds.{IsFresh, deed_led}
use Rattle.sim_laws.proofs.MirrorLinks.{link_of}
use Rattle.sim_laws.proofs.MirrorPlaces.{IsMirrored, IsShown, Mirrors}

-- what other crates prove
pub record ShownLaws : Type 0 where
  pub one : OneMessage
  pub connections : ConnectionsOpen
  pub opens : OpensSound
  pub keeps : KeepsSound
  pub sends : SendsLaw
  pub history : HistoryLaw
  pub right : EveryRunIsRight

-- ---- the devices at first

fresh_in : (devices : List Meaning) → AllKeep devices → AllIdle devices → (n : ℕ) (s : Slot) → slice_get (map slot_of devices) n ≡ Some s → IsFresh s
fresh_in [] keep idle n s e = absurd (none-some s e)
fresh_in (d ∷ ds) keep idle zero s e = subst IsFresh (same_Some (slot_of d) s e) (record { is = refl; keeps = keep.0; idle = idle.0 })
fresh_in (d ∷ ds) keep idle (suc n) s e = fresh_in ds keep.1 idle.1 n s e

fresh_at : (devices : List Meaning) → AllKeep devices → AllIdle devices → (c : ℕ) (s : Slot) → slot_at c (map slot_of devices) ≡ Some s → IsFresh s
fresh_at devices keep idle zero s e = absurd (none-some s e)
fresh_at devices keep idle (suc n) s e = fresh_in devices keep idle n s e

module _ (laws : ShownLaws) (policy : Policy) (settings : Settings) (devices : List Meaning) (ranges : AreInRange settings) (keep : AllKeep devices) (idle : AllIdle devices) where
  abbrev first : Bench
  first = opening_bench policy settings devices

  abbrev start : World
  start = opening_world policy settings

  -- no connection was opened
  first_mirrored : Mirrors first first [] []
  first_mirrored c t there = record {
    first = t;
    was = there;
    shown = subst (λ o. IsShown o c t t [] []) (sym (set.contains-empty nat_cmp c)) (refl, refl);
  }

  -- ---- along the deeds

  -- behind these events, deeds lead on to this bench
  record LeadsOn (es : List Event) (ws : List WorldEvent) (last : Bench) : Type 0 where
    pub own : List WorldEvent
    pub links : List Link
    pub runs : WorldRuns start (ws ++ own) (world_of last.machine links)
    pub shows : Shows es own
    pub mirrors : Mirrors first last (ws ++ own) links

  deed_sound : (b b' : Bench) → IsSound b.machine → (deed : Deed) → Does deed b b' → IsSound b'.machine
  deed_sound b b' sound (Enters entry reply) at = laws.keeps b.machine entry reply b'.machine sound at.admitted at.steps
  deed_sound b b' sound (Calls c call reply) at = laws.keeps b.machine (entries.Note (note_of c call)) reply b'.machine sound tt at.noted

  offered : (ws : List WorldEvent) (m : State) (links : List Link) → WorldRuns start ws (world_of m links) → OutboxesCanBeOffered m
  offered ws m links runs = laws.sends policy settings (turns_of ws) m ranges (laws.history policy settings ws (world_of m links) (record { ranges = ranges; runs = runs }))

  led_along : (es : List Event) (b last : Bench) (ws : List WorldEvent) (links : List Link) → Mirrors first b ws links → IsSound b.machine → WorldRuns start ws (world_of b.machine links)
      → Runs b es last → LeadsOn es ws last
  led_along [] b last ws links mirrors sound runs e =
      subst (LeadsOn [] ws) (sym e)
      (record {
        own = [];
        links = links;
        runs = subst (λ xs. WorldRuns start xs (world_of b.machine links)) (sym (append-nil ws)) runs;
        shows = refl;
        mirrors = subst (λ xs. Mirrors first b xs links) (sym (append-nil ws)) mirrors;
      })
  led_along (e ∷ es) b last ws links mirrors sound runs (same, happens, rest) =
      let does = subst (λ (x : Bench). Does e.deed x e.behind) same happens in
      let led = deed_led laws.one laws.connections first (fresh_at devices keep idle) b e.behind ws links mirrors sound (offered ws b.machine links runs) e.deed does in
      let more = led_along es e.behind last (ws ++ led.own) led.behind led.mirrors (deed_sound b e.behind sound e.deed does)
      (runs_append start ws led.own (world_of b.machine links) (world_of e.behind.machine led.behind) runs led.runs) rest in
      record {
        own = led.own ++ more.own;
        links = more.links;
        runs = subst (λ xs. WorldRuns start xs (world_of last.machine more.links)) (append_assoc ws led.own more.own) more.runs;
        shows = (led.own, more.own, refl {a = led.own ++ more.own}, led.by, more.shows);
        mirrors = subst (λ xs. Mirrors first last xs more.links) (append_assoc ws led.own more.own) more.mirrors;
      }

  -- ---- the devices at the end

  switches : (ws : List WorldEvent) (b : Bench) (links : List Link) → Mirrors first b ws links → AreSwitches first ws b (world_of b.machine links)
  switches ws b links mirrors c s t before behind = go (was_opened c b.machine) refl p.shown
    where
      p : IsMirrored first c b.machine t ws links
      p = mirrors c t behind

      same : p.first ≡ s
      same = same_Some p.first s (sym p.was ∙ before)

      go : (o : Bool) → was_opened c b.machine ≡ o → IsShown o c p.first t ws links
          → ((was_opened c b.machine ≡ true) × HasSwitch c s t ws (world_of b.machine links)) ⊎ ((was_opened c b.machine ≡ false) × (t.device ≡ s.device))
      go true e (began, linked) = inl (
        e,
        record {
          began = subst (λ (x : Slot). BeganWith c x.device ws) same began;
          link = link_of c t linked.sent;
          there = linked.there;
          is = record { dpid = refl; table = refl; pending = refl };
        },
      )
      go false e (none, as_first) = inr (e, ap (λ (x : Slot). x.device) (as_first ∙ same))

  are_world_run : (es : List Event) (b : Bench) → Runs first es b → AreWorldRun policy settings devices es b
  are_world_run es b runs =
      let led = led_along es first b [] [] first_mirrored (laws.opens policy settings ranges) refl runs in
      let run : IsWorldRun policy settings led.own (world_of b.machine led.links) = record { ranges = ranges; runs = led.runs } in
      record {
        events = led.own;
        world = world_of b.machine led.links;
        run = run;
        right = laws.right policy settings led.own (world_of b.machine led.links) run;
        shows = led.shows;
        machine = refl;
        switches = switches led.own b led.links led.mirrors;
      }

pub world_law : ShownLaws → WorldLaw
world_law laws policy settings devices es b ranges keep idle runs = are_world_run laws policy settings devices ranges keep idle es b runs
