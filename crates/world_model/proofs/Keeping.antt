-- A step of the world keeps what a world keeps.
use Rattle.std.proofs.Common.{◌≡◌, ◌≢◌, ◌⊎◌, ℕ, zero, suc, ◌<◌, Bool, true, false, cond, List, [], ◌∷◌, ◌++◌, length, get_or, map, Some, None, refl, sym, ap, ◌∙◌, subst, inl, inr, ⊎_elim, arith}
use Rattle.std.specs.Prelude.{◌==◌, if◌then◌else◌, Option}
use Rattle.std.specs.FinSet.{contains-empty}
use Rattle.std.specs.List.{find, flat_map}
use Rattle.std.specs.Ordering.{nat_cmp}
use Rattle.std.specs.Option.{option_map}
use Rattle.std.proofs.lemmas.Bool.{cases_Bool, eq-eqb, eqb-true, false≢true}
use Rattle.std.proofs.lemmas.List.{get_or-map, length-map}
use Rattle.std.proofs.lemmas.List.Quantifiers.{all_pairs_push}
use Rattle.std.proofs.lemmas.Option.{none-some, same_Some}
use Rattle.of10_codec.specs.declared.message.Message.{Message}
use Rattle.of10_codec.specs.Written.{written}
use Rattle.device_port.specs.Switches.{Step}
use Rattle.device_port.specs.Switches.Step.{Take as Taking, Process as Processing, Refuse as Refusing, Answer as Answering, Look as Looking}
use Rattle.machine_moves.specs.MoveLaws.{ConnectionsOpen}
use Rattle.machine_steps.specs.declared.entry.Entry.{Entry}
use Rattle.machine_steps.specs.declared.entry.Entry.TheVariants as entries
use Rattle.machine_steps.specs.declared.entry.Input.TheVariants.{Message as Whole}
use Rattle.machine_steps.specs.declared.reply.Reply.{Reply}
use Rattle.machine_steps.specs.declared.reply.Reply.TheVariants as replies
use Rattle.machine_steps.specs.Machine.{State, was_opened}
use Rattle.machine_steps.specs.Sound.{AreInRange, IsSound}
use Rattle.machine_steps.specs.Steps.{Opens, Steps}
use Rattle.world_steps.specs.Runs.{Event, Runs}
use Rattle.world_steps.specs.Worlds.{EntersWorld, Goes, HearsLink, Link, LinkDoes, LinksBehind, OpensLink, World, WorldStep, at_link, heard_from, lacks_memory, link_at, messages_for, opening_world, sent_to}
use Rattle.world_steps.specs.Worlds.WorldStep.{Enters, Acts}
use Rattle.world_right.specs.Laws.{EveryRunIsRight, SessionsArePlaced}
use Rattle.world_right.proofs.Links.{changed_there, is_of_connection, others_there}
use Rattle.world_right.proofs.Moved.{came, moved, newcomer}
use Rattle.world_model.specs.declared.moves.Move.{Move}
use Rattle.world_model.specs.declared.moves.Move.TheVariants as moves
use Rattle.world_model.specs.declared.moves.Moved.{Moved}
use Rattle.world_model.specs.declared.moves.Moved.TheVariants as answers
use Rattle.world_model.specs.Kept.{HasLink, IsKept, IsOpening, IsReached, IsRightRun}
use Rattle.world_model.specs.Moves.{Makes}
use Rattle.world_model.specs.Places.{AreOthers}

-- ---- the run

runs_on : (w : World) (es : List Event) (u v : World) (step : WorldStep) → Runs w es u → Goes u step v → Runs w (es ++ record { before = u; step = step; behind = v } ∷ []) v
runs_on w [] u v step e goes = (e, goes, refl)
runs_on w (x ∷ es) u v step (same, happens, rest) goes = (same, happens, runs_on x.behind es u v step rest goes)

reached_on : (w v : World) (step : WorldStep) → IsReached w → Goes w step v → IsReached v
reached_on w v step r goes = record {
  policy = r.policy;
  settings = r.settings;
  events = r.events ++ record { before = w; step = step; behind = v } ∷ [];
  run = record { ranges = r.run.ranges; runs = runs_on _ r.events w v step r.run.runs goes };
}

-- ---- the links' connections

abbrev connection : Link → ℕ
connection l = l.connection

others_as : (ls ks : List Link) → map connection ks ≡ map connection ls → AreOthers ls → AreOthers ks
others_as ls ks e others i j d lt within h =
    let same : length ks ≡ length ls = sym (length-map ks connection) ∙ ap length e ∙ length-map ls connection in
    let at : (k : ℕ) → k < length ks → (get_or ks k d).connection ≡ (get_or ls k d).connection = λ k here.
    let there : k < length ls = omega arith in
    sym (get_or-map connection ks k d (connection d) here) ∙ ap (λ (ns : List ℕ). get_or ns k (connection d)) e ∙ get_or-map connection ls k d (connection d) there in
    others i j d lt (omega arith) (sym (at i (omega arith)) ∙ h ∙ at j within)

module _ (c : ℕ) (f : Link → Link) (keeps : (l : Link) → l.connection ≡ c → (f l).connection ≡ l.connection) where
  connections_stay : (ls : List Link) → map connection (at_link c f ls) ≡ map connection ls
  connections_stay [] = refl
  connections_stay (l ∷ ls) = ap (λ n. n ∷ map connection (at_link c f ls)) (go (l.connection == c) refl) ∙ ap (λ ns. l.connection ∷ ns) (connections_stay ls)
    where
      go : (own : Bool) → (l.connection == c) ≡ own → (if own then f l else l).connection ≡ l.connection
      go true e = keeps l (eqb-true l.connection c e)
      go false e = refl

  others_stay : (ls ks : List Link) → ks ≡ at_link c f ls → AreOthers ls → AreOthers ks
  others_stay ls ks e others = others_as ls ks (ap (map connection) e ∙ connections_stay ls) others

others_same : (ls ks : List Link) → ks ≡ ls → AreOthers ls → AreOthers ks
others_same ls ks e others = subst AreOthers (sym e) others

-- no link has a connection that has none
no_such : (c : ℕ) (ls : List Link) → link_at c ls ≡ None → (k : ℕ) (d : Link) → k < length ls → (get_or ls k d).connection ≡ c → ⊥
no_such c [] none k d h e = absurd (omega arith)
no_such c (l ∷ ls) none k d h e = go (l.connection == c) refl none (no_such c ls) k d h e
  where
    go : (own : Bool) → (l.connection == c) ≡ own → cond own (Some l) (link_at c ls) ≡ None
        → (link_at c ls ≡ None → (k : ℕ) (d : Link) → k < length ls → (get_or ls k d).connection ≡ c → ⊥)
        → (k : ℕ) (d : Link) → k < length (l ∷ ls) → (get_or (l ∷ ls) k d).connection ≡ c → ⊥
    go true is none rest k d h e = none-some l (sym none)
    go false is none rest zero d h e = let yes = eq-eqb l.connection c e in cc
    go false is none rest (suc k) d h e = rest none k d (omega arith) e

others_push : (c : ℕ) (ls : List Link) (l : Link) → l.connection ≡ c → link_at c ls ≡ None → AreOthers ls → AreOthers (ls ++ l ∷ [])
others_push c ls l of none others = all_pairs_push (λ (a b : Link). a.connection ≢ b.connection) ls l others (λ k d h e. no_such c ls none k d h (e ∙ of))

module _ (m : State) (ls ks : List Link) (others : AreOthers ls) where
  opens_others : (c : ℕ) (old : Bool) → (old ≡ false → link_at c ls ≡ None) → OpensLink old c ls ks → AreOthers ks
  opens_others c true none e = others_same ls ks e others
  opens_others c false none (l, new, e) = subst AreOthers (sym e) (others_push c ls l new.connection (none refl) others)

  hears_others : (c : ℕ) (x : Message) (lacks : Bool) → HearsLink c x lacks ls ks → AreOthers ks
  hears_others c x true (inl (first, e)) = others_same ls ks e others
  hears_others c x false (inl (first, e)) = others_stay c _ (λ l h. refl) ls ks e others
  hears_others c x lacks (inr (free, e)) = others_same ls ks e others

  takes_others : (c : ℕ) (ms : List Message) (lacks : Bool) → ks ≡ (if lacks then ls else sent_to c ms ls) → AreOthers ks
  takes_others c ms true e = others_same ls ks e others
  takes_others c ms false e = others_stay c _ (λ l h. refl) ls ks e others

  enters_others : ((c : ℕ) → was_opened c m ≡ false → link_at c ls ≡ None) → (entry : Entry) (reply : Reply) → LinksBehind m entry reply ls ks → AreOthers ks
  enters_others none (entries.Open c) replies.NoMemory e = others_same ls ks e others
  enters_others none (entries.Open c) reply h = opens_others c (was_opened c m) (none c) h
  enters_others none (entries.Heard c (Whole x)) reply h = hears_others c x (lacks_memory reply) h
  enters_others none (entries.TakeOut c) reply e = takes_others c (messages_for c m) (lacks_memory reply) e
  enters_others none entry reply e = others_same ls ks e others

-- ---- what was opened has a link, and nothing else

lacks_nothing : (c : ℕ) (old new : State) → Opens c old replies.NoMemory new → new ≡ old
lacks_nothing c old new (inl (was, (r, e))) = e
lacks_nothing c old new (inr (inl (fresh, full, r, e))) = cc
lacks_nothing c old new (inr (inr (inl (fresh, few, r, e)))) = cc
lacks_nothing c old new (inr (inr (inr (r, e)))) = e

kept_connection : (step : Step) (l k : Link) → LinkDoes step l k → k.connection ≡ l.connection
kept_connection (Taking m) l k does = ap connection does.4
kept_connection step l k does = ap connection does.2

module _ (w : World) (kept : IsKept w) where
  pub none_yet : (c : ℕ) → was_opened c w.machine ≡ false → link_at c w.links ≡ None
  none_yet c fresh = go (link_at c w.links) refl
    where
      go : (o : Option Link) → link_at c w.links ≡ o → o ≡ None
      go None e = refl
      go (Some l) e = let old = kept.opened c l e in cc

  pub not_yet : (c : ℕ) → link_at c w.links ≡ None → was_opened c w.machine ≡ false
  not_yet c none = go (was_opened c w.machine) refl
    where
      go : (old : Bool) → was_opened c w.machine ≡ old → old ≡ false
      go false e = refl
      go true e = let h = kept.linked c e in absurd (none-some h.link (sym none ∙ h.there))

  -- ---- an entry

  module _ (connections : ConnectionsOpen) (v : World) (entry : Entry) (reply : Reply) (enters : EntersWorld entry reply w v) where
    was : (c : ℕ) → HasLink c w → HasLink c v
    was c h = let k = moved c w.machine w.links v.links h.link h.there entry reply enters.links in record { link = k.behind; there = k.there }

    comes : (c : ℕ) → was_opened c w.machine ≡ false → was_opened c v.machine ≡ true → entry ≡ entries.Open c → HasLink c v
    comes c fresh now is = go reply (subst (λ e. Steps w.machine e reply v.machine) is enters.steps) (subst (λ e. LinksBehind w.machine e reply w.links v.links) is enters.links)
      where
        go : (r : Reply) → Steps w.machine (entries.Open c) r v.machine → LinksBehind w.machine (entries.Open c) r w.links v.links → HasLink c v
        go replies.NoMemory steps links = let same = ap (was_opened c) (lacks_nothing c w.machine v.machine steps) in cc
        go r steps links =
            let (l, new, there) = newcomer c w.machine w.links v.links r (λ e. cc) fresh (none_yet c fresh) links in
            record { link = l; there = there }

    enters_linked : (c : ℕ) → was_opened c v.machine ≡ true → HasLink c v
    enters_linked c now = go (was_opened c w.machine) refl
      where
        go : (old : Bool) → was_opened c w.machine ≡ old → HasLink c v
        go true e = was c (kept.linked c e)
        go false e = comes c e now ((connections w.machine entry reply v.machine enters.steps).others c e now)

    enters_opened : (c : ℕ) (l : Link) → link_at c v.links ≡ Some l → was_opened c v.machine ≡ true
    enters_opened c l there =
        let only = connections w.machine entry reply v.machine enters.steps in
        ⊎_elim (λ was. only.stay c (kept.opened c was.0 was.1)) (λ is. only.opens c is.0 is.1) (came c w.machine w.links v.links l there entry reply enters.links)

    enters_kept : IsKept v
    enters_kept = record {
      reached = reached_on w v (Enters entry reply) kept.reached enters;
      others = enters_others w.machine w.links v.links kept.others none_yet entry reply enters.links;
      linked = enters_linked;
      opened = enters_opened;
    }

  -- ---- a step of a switch

  module _ (c : ℕ) (step : Step) (link : Link) (there : link_at c w.links ≡ Some link) (behind : Link) (does : LinkDoes step link behind) where
    abbrev acted : World
    acted = record w { links = at_link c (λ l. behind) w.links }

    of : behind.connection ≡ c
    of = kept_connection step link behind does ∙ is_of_connection c w.links link there

    own : link_at c acted.links ≡ Some behind
    own = changed_there c (λ l. behind) (λ l e. of) w.links ∙ ap (option_map (λ l. behind)) there

    beside : (d : ℕ) → (c == d) ≡ false → link_at d acted.links ≡ link_at d w.links
    beside d other = others_there c (λ l. behind) (λ l e. of) d other w.links

    acted_linked : (d : ℕ) → was_opened d w.machine ≡ true → HasLink d acted
    acted_linked d now =
        ⊎_elim (λ same. record { link = behind; there = subst (λ n. link_at n acted.links ≡ Some behind) (eqb-true c d same) own })
        (λ other. let h = kept.linked d now in record { link = h.link; there = beside d other ∙ h.there }) (cases_Bool (c == d))

    acted_opened : (d : ℕ) (l : Link) → link_at d acted.links ≡ Some l → was_opened d w.machine ≡ true
    acted_opened d l e =
        ⊎_elim (λ same. subst (λ n. was_opened n w.machine ≡ true) (eqb-true c d same) (kept.opened c link there))
        (λ other. kept.opened d l (sym (beside d other) ∙ e)) (cases_Bool (c == d))

    acted_kept : Goes w (Acts c step) acted → IsKept acted
    acted_kept goes = record {
      reached = reached_on w acted (Acts c step) kept.reached goes;
      others = others_stay c (λ l. behind) (λ l e. of ∙ sym e) w.links acted.links refl kept.others;
      linked = acted_linked;
      opened = acted_opened;
    }

  goes_kept : ConnectionsOpen → (v : World) (step : WorldStep) → Goes w step v → IsKept v
  goes_kept connections v (Enters entry reply) goes = enters_kept connections v entry reply goes
  goes_kept connections v (Acts c step) goes =
      subst IsKept (sym goes.now_is) (acted_kept c step goes.link goes.there goes.behind goes.does (record { link = goes.link; there = goes.there; behind = goes.behind; does = goes.does; now_is = refl }))

  -- ---- a move

  module _ (connections : ConnectionsOpen) (v : World) where
    stays : v ≡ w → IsKept v
    stays e = subst IsKept (sym e) kept

    pub move_kept : (move : Move) (answer : Moved) → Makes move answer w v → IsKept v
    move_kept (moves.Machine (entries.TakeOut c)) answers.Done goes = goes_kept connections v (Enters (entries.TakeOut c) (replies.Out (flat_map written (messages_for c w.machine)))) goes
    move_kept (moves.Machine (entries.TakeOut c)) (answers.Replied reply) (lack, goes) = goes_kept connections v (Enters (entries.TakeOut c) reply) goes
    move_kept (moves.Machine entry) (answers.Replied reply) (goes, plain) = goes_kept connections v (Enters entry reply) goes
    move_kept (moves.Machine entry) answers.NotThere (e, none) = stays e
    move_kept (moves.Take c) answers.Done (m, goes) = goes_kept connections v (Acts c (Taking m)) goes
    move_kept (moves.Take c) answers.NotThere (e, none) = stays e
    move_kept (moves.Process c at) answers.Done p = goes_kept connections v (Acts c (Processing p.message)) p.goes
    move_kept (moves.Process c at) answers.NotThere (e, none) = stays e
    move_kept (moves.Refuse c at) answers.Done p = goes_kept connections v (Acts c (Refusing p.message)) p.goes
    move_kept (moves.Refuse c at) answers.NotThere (e, none) = stays e
    move_kept (moves.Answer c) answers.Done (m, goes) = goes_kept connections v (Acts c (Answering m)) goes
    move_kept (moves.Answer c) answers.NotThere (e, none) = stays e
    move_kept (moves.Look c key) (answers.Saw seen) p = goes_kept connections v (Acts c (Looking key p.hit)) p.goes
    move_kept (moves.Look c key) answers.NotThere (e, none) = stays e
    move_kept (moves.Process c at) answers.NoMemory (e, lacks) = stays e
    move_kept (moves.Look c key) answers.NoMemory h = absurd h
    move_kept move answers.NoMemory e = stays e
    move_kept move answer h = absurd h

-- ---- the run is right

pub is_right : EveryRunIsRight → SessionsArePlaced → (w : World) → IsReached w → IsRightRun w
is_right right placed w r = record {
  policy = r.policy;
  settings = r.settings;
  events = r.events;
  run = r.run;
  right = right r.policy r.settings r.events w r.run;
  placed = placed r.policy r.settings r.events w r.run;
}

-- ---- ahead of the first entry

pub opening_kept : (m : State) (ls : List Link) → ls ≡ [] → IsOpening m → IsSound m → IsKept (record { machine = m; links = ls })
opening_kept m ls none o sound =
    let is : record { machine = m; links = ls } ≡ opening_world o.policy o.settings = λ i. record { machine = o.now_is i; links = none i } in
    subst IsKept (sym is) (record {
      reached = record { policy = o.policy; settings = o.settings; events = []; run = record { ranges = subst (λ (n : State). AreInRange n.settings) o.now_is sound.ranges; runs = refl } };
      others = λ i j d lt within. absurd (omega arith);
      linked = λ c now. absurd (false≢true (sym (contains-empty nat_cmp c) ∙ now));
      opened = λ c l e. absurd (none-some l e);
    })
