-- Passes are split and joined, and the hall is closed.
use Rattle.std.proofs.Common.{◌≡◌, ℕ, ◌+◌, ◌<◌, ◌≤◌, nat_lt, inl, inr, List, [], ◌∷◌, ◌++◌, length, set, sym, refl, ap, ◌∙◌, subst, ⊎_elim, arith, Some}
use Rattle.std.proofs.lemmas.Bool.Decides.{nat_tests}
use mathlib.Core.Logic.{dite}
use native.Mathlib.Decide.{ℕ_discrete}
use mathlib.Core.Option.{Option as Maybe, some, some-injective}
use lib.ListN.{get_elem?}
use Rattle.atomic_table.specs.Table.{State, Splits, Joins, Final, Seen}
use Rattle.atomic_table.proofs.Lists.{set_else, at_snoc}
use Rattle.history_lock.specs.declared.view.Event.{Event}
use Rattle.history_lock.specs.declared.view.Slot.{Slot}
use Rattle.history_lock.specs.declared.view.Standing.TheVariants.{Idle}
use Rattle.history_lock.specs.declared.view.View.{View}
use Rattle.history_lock.specs.Histories.{StartsWith, times, AreAllPositions, LeadsTo, Replays}
use Rattle.history_lock.specs.Rule.{total, leader, waiting, pending, HasTicket, HasTurn, machine_in, less, share, joined, no_view, Knows, Stands, IsHome, IsLed, Kept}
use Rattle.history_lock.proofs.Totals.{all_set, total_set, total_snoc, others_none}
use Rattle.history_lock.proofs.Lists.{times_append, times_neither, starts_either, longer_most, same_at, at_longer}
use Rattle.history_lock.proofs.Stages.{no_ticket, no_turn}
use Rattle.history_lock.proofs.Leads.{leader_or, since_joined, all_owned, all_seen}
use Rattle.history_lock.proofs.Keeps.{apart_set, Apart}
use Rattle.history_lock.proofs.AtomicSteps.{home_stays}

module _ {M E R : Type 0} (steps : M → E → R → M → Type 0) (allows : List (Event M E R) → E → Type 0) where
  abbrev V : Type 0
  V = View M E R

  abbrev S : Type 0
  S = Slot M E R

  abbrev Home : Type 0
  Home = Maybe S

  -- what the rule says of one view
  abbrev Fits : (opening m : M) → List (Event M E R) → ℕ → ℕ → Home → V → Type 0
  Fits opening m log turn next home u = Knows opening log u.known u.told × Stands m turn next home u.known.parts u.stage × IsLed steps allows log u

  home_longer : (m : M) (views : List V) (home : Home) (w : V) → IsHome steps m views home → IsHome steps m (views ++ w ∷ []) home
  home_longer m views home w (inl there) = inl there
  home_longer m views home w (inr (gone, port, u, there, has)) = inr (gone, port, u, at_longer views w port u there, has)

  -- a split: the first keeps what is left of its parts, the second comes last
  pub splits : (opening : M) (id : ℕ) (v : V) (n : ℕ) → v.stage ≡ Idle → 0 < n → n < v.known.parts → Splits (Kept steps allows opening) id v (less v n) (share v n)
  splits opening id v n idle some_part few s k at =
      let l : V = less v n in
      let r : V = share v n in
      let mine = k.knows id v at in
      let there = k.stands id v at in
      let vs : List V = set s.views id l in
      let Now : ℕ → V → Type 0 = λ j u. Fits opening k.machine k.log k.turn k.next k.home u in
      let fl : Now id l = (
        record { begins = λ z. mine.begins (omega arith); prefix = mine.prefix; heard = mine.heard; below = mine.below; before = mine.before; spent = λ z. absurd (omega arith) },
        record { in_step = there.in_step; out = there.out; spent = λ z. idle },
        k.led id v at,
      ) in
      let fr : Now id r = (
        record { begins = λ z. mine.begins (omega arith); prefix = mine.prefix; heard = (k.log, refl); below = λ x le. refl; before = omega arith; spent = λ z. refl },
        record { in_step = tt; out = λ h. absurd h; spent = λ z. refl },
        λ lead. absurd (cc lead),
      ) in
      let each : (j : ℕ) (u : V) → get_elem? vs j ≡ some u → Now j u = all_set Now s.views id l fl (λ j u other e. (k.knows j u e, k.stands j u e, k.led j u e)) in
      let each' : (j : ℕ) (u : V) → get_elem? (vs ++ r ∷ []) j ≡ some u → Now j u = (λ j u e. ⊎_elim (each j u) (λ (is : r ≡ u). let P : V → Type 0 = λ x. Now j x in subst P is fr) (at_snoc vs r u j e)) in
      let apart : Apart steps allows vs = apart_set steps allows s.views id l k.apart (λ j u t other e h h'. no_ticket v.stage t idle h) in
      let ps : total (λ u. u.known.parts) vs + v.known.parts ≡ total (λ u. u.known.parts) s.views + l.known.parts = total_set (λ u. u.known.parts) s.views id v l at in
      let ps' = total_snoc (λ (u : V). u.known.parts) vs r in
      let ls : total (λ u. leader u.known.leads) vs + leader v.known.leads ≡ total (λ u. leader u.known.leads) s.views + leader v.known.leads = total_set (λ u. leader u.known.leads) s.views id v l at in
      let ls' = total_snoc (λ (u : V). leader u.known.leads) vs r in
      let ws : total (λ u. waiting u.stage) vs + waiting v.stage ≡ total (λ u. waiting u.stage) s.views + waiting v.stage = total_set (λ u. waiting u.stage) s.views id v l at in
      let ws' = total_snoc (λ (u : V). waiting u.stage) vs r in
      let ds : total (λ u. pending u.stage) vs + pending v.stage ≡ total (λ u. pending u.stage) s.views + pending v.stage = total_set (λ u. pending u.stage) s.views id v l at in
      let ds' = total_snoc (λ (u : V). pending u.stage) vs r in
      let old = k.parts in let old' = k.tickets in let old'' = k.room in let old''' = k.leaders in
      record {
        log = k.log;
        machine = k.machine;
        next = k.next;
        turn = k.turn;
        home = k.home;
        words = k.words;
        slots = k.slots;
        replays = k.replays;
        is_home = home_longer k.machine vs k.home r (home_stays steps allows k.machine s.views k.home id v l at (λ h. h) k.is_home);
        knows = λ j u e. (each' j u e).0;
        stands = λ j u e. (each' j u e).1;
        led = λ j u e. (each' j u e).2;
        leaders = omega arith;
        apart = λ i j a b t e f ha hb. ⊎_elim
            (λ (e' : get_elem? vs i ≡ some a). ⊎_elim (λ (f' : get_elem? vs j ≡ some b). apart i j a b t e' f' ha hb) (λ (is : r ≡ b). absurd (let P : V → Type 0 = λ x. HasTicket x.stage t in subst P (sym is) hb)) (at_snoc vs r b j f))
            (λ (is : r ≡ a). absurd (let P : V → Type 0 = λ x. HasTicket x.stage t in subst P (sym is) ha)) (at_snoc vs r a i e);
        order = k.order;
        parts = omega arith;
        owners = λ x. (let a : total (λ u. times x u.known.own) vs + times x v.known.own ≡ total (λ u. times x u.known.own) s.views + times x v.known.own = total_set (λ u. times x u.known.own) s.views id v l at in let b = total_snoc (λ (u : V). times x u.known.own) vs r in let c = k.owners x in omega arith);
        tickets = omega arith;
        room = omega arith;
      }

  -- a join: the second is spent
  pub joins : (opening : M) (id : ℕ) (v : V) (other : ℕ) (w : V) → v.stage ≡ Idle → w.stage ≡ Idle → 0 < v.known.parts → Joins (Kept steps allows opening) id v other w (joined v w) no_view
  joins opening id v other w idle idle' some_part s k at apart there =
      let both : V = joined v w in
      let vs : List V = set s.views id both in
      let was : get_elem? s.views other ≡ some w = sym (set_else s.views id other both apart) ∙ there in
      let mine = k.knows id v at in
      let theirs = k.knows other w was in
      let my_stage = k.stands id v at in
      let long = longer_most v.known.seen w.known.seen (nat_lt (length v.known.seen) (length w.known.seen)) refl in
      let prefix : StartsWith k.log both.known.seen = starts_either k.log w.known.seen v.known.seen theirs.prefix mine.prefix (nat_lt (length v.known.seen) (length w.known.seen)) in
      let a = mine.before in let b = theirs.before in
      let Now : ℕ → V → Type 0 = λ j u. Fits opening k.machine k.log k.turn k.next k.home u in
      let fb : Now id both = (
        record {
          begins = λ z. mine.begins some_part;
          prefix = prefix;
          heard = starts_either k.log v.known.seen w.known.seen mine.prefix theirs.prefix (nat_lt (length v.known.seen) (length w.known.seen));
          below = λ x le. times_neither x v.known.own w.known.own (mine.below x (let c = long.0 in omega arith)) (theirs.below x (let c = long.1 in omega arith));
          before = grind (arith, nat_tests);
          spent = λ z. absurd (omega arith);
        },
        record { in_step = my_stage.in_step; out = my_stage.out; spent = λ z. idle },
        since_joined allows v.known.leads w.known.leads k.log v.known.seen v.mark w.known.seen w.mark both.known.seen (k.led id v at) (k.led other w was) prefix long.0 long.1,
      ) in
      let fn : Now id no_view = (
        record { begins = λ z. absurd (omega arith); prefix = (k.log, refl); heard = (k.log, refl); below = λ x le. refl; before = omega arith; spent = λ z. refl },
        record { in_step = tt; out = λ h. absurd h; spent = λ z. refl },
        λ lead. absurd (cc lead),
      ) in
      let each : (j : ℕ) (u : V) → get_elem? vs j ≡ some u → Now j u = all_set Now s.views id both fb (λ j u o e. (k.knows j u e, k.stands j u e, k.led j u e)) in
      let each' : (j : ℕ) (u : V) → get_elem? (set vs other no_view) j ≡ some u → Now j u = all_set Now vs other no_view fn (λ j u o e. each j u e) in
      let ap1 : Apart steps allows vs = apart_set steps allows s.views id both k.apart (λ j u t o e h h'. no_ticket v.stage t idle h) in
      let ap2 : Apart steps allows (set vs other no_view) = apart_set steps allows vs other no_view ap1 (λ j u t o e h h'. h) in
      let ps : total (λ u. u.known.parts) vs + v.known.parts ≡ total (λ u. u.known.parts) s.views + both.known.parts = total_set (λ u. u.known.parts) s.views id v both at in
      let ps' : total (λ u. u.known.parts) (set vs other no_view) + w.known.parts ≡ total (λ u. u.known.parts) vs + 0 = total_set (λ u. u.known.parts) vs other w no_view there in
      let ls : total (λ u. leader u.known.leads) vs + leader v.known.leads ≡ total (λ u. leader u.known.leads) s.views + leader both.known.leads = total_set (λ u. leader u.known.leads) s.views id v both at in
      let ls' : total (λ u. leader u.known.leads) (set vs other no_view) + leader w.known.leads ≡ total (λ u. leader u.known.leads) vs + 0 = total_set (λ u. leader u.known.leads) vs other w no_view there in
      let lz = leader_or v.known.leads w.known.leads in
      let ws : total (λ u. waiting u.stage) vs + waiting v.stage ≡ total (λ u. waiting u.stage) s.views + waiting v.stage = total_set (λ u. waiting u.stage) s.views id v both at in
      let ws' : total (λ u. waiting u.stage) (set vs other no_view) + waiting w.stage ≡ total (λ u. waiting u.stage) vs + 0 = total_set (λ u. waiting u.stage) vs other w no_view there in
      let wz : waiting w.stage ≡ 0 = ap waiting idle' in
      let ds : total (λ u. pending u.stage) vs + pending v.stage ≡ total (λ u. pending u.stage) s.views + pending v.stage = total_set (λ u. pending u.stage) s.views id v both at in
      let ds' : total (λ u. pending u.stage) (set vs other no_view) + pending w.stage ≡ total (λ u. pending u.stage) vs + 0 = total_set (λ u. pending u.stage) vs other w no_view there in
      let dz : pending w.stage ≡ 0 = ap pending idle' in
      let old = k.parts in let old' = k.tickets in let old'' = k.room in let old''' = k.leaders in
      record {
        log = k.log;
        machine = k.machine;
        next = k.next;
        turn = k.turn;
        home = k.home;
        words = k.words;
        slots = k.slots;
        replays = k.replays;
        is_home = home_stays steps allows k.machine vs k.home other w no_view there (λ h. absurd (no_turn w.stage idle' h)) (home_stays steps allows k.machine s.views k.home id v both at (λ h. h) k.is_home);
        knows = λ j u e. (each' j u e).0;
        stands = λ j u e. (each' j u e).1;
        led = λ j u e. (each' j u e).2;
        leaders = omega arith;
        apart = ap2;
        order = k.order;
        parts = omega arith;
        owners = λ x. (
            let a1 : total (λ u. times x u.known.own) vs + times x v.known.own ≡ total (λ u. times x u.known.own) s.views + times x (v.known.own ++ w.known.own) = total_set (λ u. times x u.known.own) s.views id v both at in
            let a2 : total (λ u. times x u.known.own) (set vs other no_view) + times x w.known.own ≡ total (λ u. times x u.known.own) vs + 0 = total_set (λ u. times x u.known.own) vs other w no_view there in
            let a3 = times_append x v.known.own w.known.own in let a4 = k.owners x in omega arith);
        tickets = omega arith;
        room = omega arith;
      }

  -- what the last pass has when the hall is closed
  pub record Whole (opening : M) (v : V) (slots : List S) : Type 0 where
    pub machine : M
    pub slot : S
    pub there : get_elem? slots 0 ≡ some slot
    pub has : machine_in slot ≡ Some machine
    pub leads : LeadsTo steps v.known machine
    pub owns : AreAllPositions (length v.known.seen) v.known.own
    pub read : v.known.number ≤ length v.known.seen

  closes_home : (opening : M) (id : ℕ) (v : V) (s : State S V) (k : Kept steps allows opening s) → get_elem? s.views id ≡ some v → v.stage ≡ Idle → v.known.parts ≡ 1024 → IsHome steps k.machine s.views k.home
      → (slot : S) × (k.home ≡ some slot) × (machine_in slot ≡ Some k.machine)
  closes_home opening id v s k at idle all (inl there) = there
  closes_home opening id v s k at idle all (inr (gone, port, u, there, turn)) =
      let whole : total (λ (x : V). x.known.parts) s.views ≡ v.known.parts = k.parts ∙ sym all in
      absurd (dite (ℕ_discrete port id)
      (λ e. no_turn v.stage idle (let P : V → Type 0 = λ x. HasTurn x.stage in subst P (same_at s.views id port u v e there at) turn))
      (λ ne. no_turn u.stage ((k.stands port u there).spent (others_none (λ (x : V). x.known.parts) s.views id port v u ne at there whole)) turn))

  pub closes : (opening : M) (id : ℕ) (v : V) (words : List ℕ) (slots : List S) → v.stage ≡ Idle → v.known.parts ≡ 1024 → Final (Seen (Kept steps allows opening) id v) words slots → Whole opening v slots
  closes opening id v words slots idle all (s, (k, at), ws, len, there) =
      let mine = k.knows id v at in
      let home = closes_home opening id v s k at idle all k.is_home in
      let owns = all_owned steps allows opening s k id v at all in
      let same = all_seen steps allows opening s k id v at all in
      let run : Replays steps opening v.known.seen k.machine = (let P : List (Event M E R) → Type 0 = λ x. Replays steps opening x k.machine in subst P (sym same) k.replays) in
      record {
        machine = k.machine;
        slot = home.0;
        there = there 0 home.0 (ap (λ hs. get_elem? hs 0) k.slots ∙ ap some home.1);
        has = home.2;
        leads = (opening, mine.begins (omega arith), run);
        owns = (let P : List (Event M E R) → Type 0 = λ z. AreAllPositions (length z) v.known.own in subst P (sym same) owns);
        read = (let P : List (Event M E R) → Type 0 = λ z. v.known.number ≤ length z in subst P (sym same) mine.before);
      }

  -- the slot that was taken out has the machine
  pub taken_has : (opening : M) (v : V) (slots : List S) (slot : S) (whole : Whole opening v slots) → get_elem? slots 0 ≡ some slot → machine_in slot ≡ Some whole.machine
  taken_has opening v slots slot whole at = ap machine_in (some-injective slot whole.slot (sym at ∙ whole.there)) ∙ whole.has

  pub whole_leads : (opening : M) (v : V) (slots : List S) (whole : Whole opening v slots) (m : M) → Some whole.machine ≡ Some m → LeadsTo steps v.known m
  whole_leads opening v slots whole m is = let same : whole.machine ≡ m = cc in let P : M → Type 0 = λ x. LeadsTo steps v.known x in subst P same whole.leads
