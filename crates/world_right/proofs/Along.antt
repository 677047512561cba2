-- Along a run each open session is in a stage with its link.
use Rattle.std.proofs.Common.{◌≡◌, ℕ, true, false, List, [], ◌∷◌, ◌++◌, refl, sym, ap, ◌∙◌, subst, ⊎_elim}
use Rattle.std.specs.Prelude.{◌==◌, Option, Some, None}
use Rattle.std.specs.Option.{option_map}
use Rattle.std.proofs.lemmas.Bool.{cases_Bool, eqb-true}
use Rattle.std.proofs.lemmas.Option.{same_Some, none-some}
use Rattle.maple_base.specs.declared.decision.Settings.{Settings}
use Rattle.policy_lang.specs.declared.Policy.{Policy}
use Rattle.device_port.specs.Switches.{Step}
use Rattle.device_port.specs.Switches.Step.{Take}
use Rattle.machine_moves.specs.MoveLaws.{SessionsOpen, ConnectionsOpen}
use Rattle.machine_steps.specs.declared.entry.Entry.{Entry}
use Rattle.machine_steps.specs.declared.reply.Reply.{Reply}
use Rattle.machine_steps.specs.Histories.{Turn}
use Rattle.machine_steps.specs.Laws.{OpensSound, KeepsSound}
use Rattle.machine_steps.specs.Machine.{Session, session_at, state_number, was_opened}
use Rattle.machine_steps.specs.Sound.{AreInRange, IsSound}
use Rattle.world_steps.specs.Runs.{Event, Runs, turn_in, turns_of}
use Rattle.world_steps.specs.Since.{Marks, marked, marked_all, marked_by, no_marks}
use Rattle.world_steps.specs.Worlds.{EntersWorld, Goes, Link, LinkDoes, LinksBehind, World, WorldStep, at_link, link_at, opening_world}
use Rattle.world_steps.specs.Worlds.WorldStep.{Enters, Acts}
use Rattle.world_stages.specs.StageLaws.{IsPlaced, OpenedAreLinked, SwitchesKeepStages, TurnsKeepStages}
use Rattle.world_stages.specs.Stages.{IsLinked}
use Rattle.world_right.proofs.Links.{changed_there, is_of_connection, others_there}
use Rattle.world_right.proofs.Moved.{came, moved, newcomer}

-- what other crates prove
pub record StageLaws : Type 0 where
  pub opens : OpensSound
  pub keeps : KeepsSound
  pub sessions : SessionsOpen
  pub connections : ConnectionsOpen
  pub switches : SwitchesKeepStages
  pub turns : TurnsKeepStages
  pub opened : OpenedAreLinked

-- an open session has a link, and is in a stage with it
pub record HasLink (c : ℕ) (w : World) (marks : Marks) (s : Session) : Type 0 where
  pub link : Link
  pub there : link_at c w.links ≡ Some link
  pub linked : IsLinked w.machine marks s link

-- of each open session, behind turns that marked its connection so; a connection that has a link was opened
pub record AreLinked (marks : ℕ → Marks) (w : World) : Type 0 where
  pub sound : IsSound w.machine
  pub sessions : (c : ℕ) (s : Session) → session_at c w.machine ≡ Some s → HasLink c w (marks c) s
  pub opened : (c : ℕ) (l : Link) → link_at c w.links ≡ Some l → was_opened c w.machine ≡ true

-- a session in its place, with the link of its connection
pub placed : (marks : ℕ → Marks) (w : World) → AreLinked marks w → (c : ℕ) (s : Session) (l : Link) → session_at c w.machine ≡ Some s → link_at c w.links ≡ Some l
    → IsPlaced c w.machine (marks c) s l
placed marks w are c s l session link =
    let h = are.sessions c s session in
    record { sound = are.sound; there = session; linked = subst (IsLinked w.machine (marks c) s) (same_Some h.link l (sym h.there ∙ link)) h.linked }

connection_stays : (step : Step) (l k : Link) → LinkDoes step l k → k.connection ≡ l.connection
connection_stays (Take m) l k does = ap (λ (x : Link). x.connection) does.4
connection_stays step l k does = ap (λ (x : Link). x.connection) does.2

module _ (laws : StageLaws) where
  -- ---- a step of a switch

  module _ (marks : ℕ → Marks) (c : ℕ) (step : Step) (w : World) (are : AreLinked marks w) (link : Link) (there : link_at c w.links ≡ Some link) (behind : Link) (does : LinkDoes step link behind) where
    abbrev acted : World
    acted = record w { links = at_link c (λ l. behind) w.links }

    keeps : (l : Link) → l.connection ≡ c → behind.connection ≡ c
    keeps l e = connection_stays step link behind does ∙ is_of_connection c w.links link there

    own_link : link_at c acted.links ≡ Some behind
    own_link = changed_there c (λ l. behind) keeps w.links ∙ ap (option_map (λ l. behind)) there

    own_session : (s : Session) → session_at c w.machine ≡ Some s → HasLink c acted (marks c) s
    own_session s session = record { link = behind; there = own_link; linked = laws.switches c w.machine (marks c) s link behind step (placed marks w are c s link session there) does }

    other_session : (d : ℕ) → (c == d) ≡ false → (s : Session) → session_at d w.machine ≡ Some s → HasLink d acted (marks d) s
    other_session d other s session =
        let h = are.sessions d s session in record { link = h.link; there = others_there c (λ l. behind) keeps d other w.links ∙ h.there; linked = h.linked }

    acts_linked : AreLinked marks acted
    acts_linked = record {
      sound = are.sound;
      sessions = λ d.
          ⊎_elim (λ own. subst (λ n. (s : Session) → session_at n w.machine ≡ Some s → HasLink n acted (marks n) s) (eqb-true c d own) own_session) (λ other. other_session d other)
          (cases_Bool (c == d));
      opened = λ d l e.
          ⊎_elim (λ own. subst (λ n. was_opened n w.machine ≡ true) (eqb-true c d own) (are.opened c link there))
          (λ other. are.opened d l (sym (others_there c (λ k. behind) keeps d other w.links) ∙ e)) (cases_Bool (c == d));
    }

  -- ---- an entry

  module _ (marks : ℕ → Marks) (entry : Entry) (reply : Reply) (w v : World) (are : AreLinked marks w) (enters : EntersWorld entry reply w v) where
    abbrev turn : Turn
    turn = record { before = w.machine; entry = entry; reply = reply; behind = v.machine }

    sound : IsSound v.machine
    sound = laws.keeps w.machine entry reply v.machine are.sound enters.admitted enters.steps

    -- a session that stays open
    stays_linked : (c : ℕ) (s t : Session) → session_at c w.machine ≡ Some s → session_at c v.machine ≡ Some t
        → HasLink c v (marked_by (Some s) (Some t) (state_number w.machine) (state_number v.machine) (marks c)) t
    stays_linked c s t before now =
        let h = are.sessions c s before in
        let k = moved c w.machine w.links v.links h.link h.there entry reply enters.links in
        record {
          link = k.behind;
          there = k.there;
          linked = laws.turns c w.machine v.machine entry reply (marks c) s t h.link k.behind
              (record { sound = are.sound; there = before; linked = h.linked })
              (record { admitted = enters.admitted; steps = enters.steps; sound = sound; there = now; link = k.moves });
        }

    -- one that is opened
    opens_linked : (c : ℕ) (t : Session) → session_at c w.machine ≡ None → session_at c v.machine ≡ Some t
        → HasLink c v (marked_by None (Some t) (state_number w.machine) (state_number v.machine) (marks c)) t
    opens_linked c t before now =
        let is = laws.sessions w.machine entry reply v.machine are.sound enters.steps c t before now in
        let (l, new, there) = newcomer c w.machine w.links v.links reply is.done is.new_one (none_yet is.new_one)
        (subst (λ e. LinksBehind w.machine e reply w.links v.links) is.entry_is enters.links) in
        record { link = l; there = there; linked = subst (λ s. IsLinked v.machine (marks c) s l) (sym is.session) (laws.opened c w.machine.settings.capacity v.machine (marks c) l new) }
      where
        none_yet : was_opened c w.machine ≡ false → link_at c w.links ≡ None
        none_yet fresh = go (link_at c w.links) refl
          where
            go : (o : Option Link) → link_at c w.links ≡ o → o ≡ None
            go None e = refl
            go (Some l) e = let old = are.opened c l e in absurd (cc)

    session_linked : (c : ℕ) (t : Session) → session_at c v.machine ≡ Some t → HasLink c v (marked c turn (marks c)) t
    session_linked c t now =
        subst (λ o. HasLink c v (marked_by (session_at c w.machine) o (state_number w.machine) (state_number v.machine) (marks c)) t) (sym now) (go (session_at c w.machine) refl)
      where
        go : (o : Option Session) → session_at c w.machine ≡ o → HasLink c v (marked_by o (Some t) (state_number w.machine) (state_number v.machine) (marks c)) t
        go None before = opens_linked c t before now
        go (Some s) before = stays_linked c s t before now

    enters_linked : AreLinked (λ c. marked c turn (marks c)) v
    enters_linked = record {
      sound = sound;
      sessions = session_linked;
      opened = λ c k there.
          let only = laws.connections w.machine entry reply v.machine enters.steps in
          ⊎_elim (λ was. only.stay c (are.opened c was.0 was.1)) (λ is. only.opens c is.0 is.1) (came c w.machine w.links v.links k there entry reply enters.links);
    }

  -- ---- a run

  step_linked : (marks : ℕ → Marks) (w v : World) (ts : List Turn) (last : World) (step : WorldStep) → AreLinked marks w → Goes w step v
      → ((later : ℕ → Marks) → AreLinked later v → AreLinked (λ c. marked_all c ts (later c)) last) → AreLinked (λ c. marked_all c (turn_in step w.machine v.machine ++ ts) (marks c)) last
  step_linked marks w v ts last (Enters entry reply) are enters rest = rest (λ c. marked c (turn marks entry reply w v are enters) (marks c)) (enters_linked marks entry reply w v are enters)
  step_linked marks w v ts last (Acts c step) are acts rest = rest marks (subst (AreLinked marks) (sym acts.now_is) (acts_linked marks c step w are acts.link acts.there acts.behind acts.does))

  pub run_linked : (marks : ℕ → Marks) (w : World) (es : List Event) (last : World) → AreLinked marks w → Runs w es last → AreLinked (λ c. marked_all c (turns_of es) (marks c)) last
  run_linked marks w [] last are e = subst (AreLinked marks) (sym e) are
  run_linked marks w (e ∷ es) last are (same, happens, rest) =
      step_linked marks e.before e.behind (turns_of es) last e.step (subst (AreLinked marks) (sym same) are) happens (λ later linked. run_linked later e.behind es last linked rest)

  pub opening_linked : (policy : Policy) (settings : Settings) → AreInRange settings → AreLinked (λ c. no_marks) (opening_world policy settings)
  opening_linked policy settings ranges = record {
    sound = laws.opens policy settings ranges;
    sessions = λ c s e. absurd (none-some s e);
    opened = λ c l e. absurd (none-some l e);
  }
