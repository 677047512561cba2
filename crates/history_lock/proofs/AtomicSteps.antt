-- What each kind of step owes.
use Rattle.std.proofs.Common.{◌≡◌, ◌≢◌, ℕ, ◌+◌, ◌^◌, ◌%◌, ◌<◌, ◌≤◌, nat_lt, inl, inr, Bool, true, false, IsTrue, List, [], ◌∷◌, ◌++◌, length, length-append, set, slice_index, sym, refl, ap, ◌∙◌, subst, arith, append-nil, Some, mod-eq_of_lt}
use Rattle.std.proofs.lemmas.List.{set-get_or}
use Rattle.std.proofs.lemmas.Bool.Decides.{nat_tests}
use mathlib.Core.Logic.{dite}
use native.Mathlib.Decide.{ℕ_discrete}
use mathlib.Core.Option.{Option as Maybe, some, none}
use lib.ListN.{get_elem?}
use Rattle.atomic_table.specs.Table.{State, Me, Act, Valid, homes_after, carried_after, step, keeps, takes, gives, rest, Allows}
use Rattle.atomic_table.proofs.Lists.{set_else, set_again}
use Rattle.history_lock.specs.declared.view.Event.{Event}
use Rattle.history_lock.specs.declared.view.Slot.{Slot}
use Rattle.history_lock.specs.declared.view.Standing.{Standing}
use Rattle.history_lock.specs.declared.view.Standing.TheVariants.{Idle, Looked, Waits, Turn, Recorded}
use Rattle.history_lock.specs.declared.view.View.{View}
use Rattle.history_lock.specs.Histories.{times, once_below, event, state_behind, Replays, IsAllowed}
use Rattle.history_lock.specs.Rule.{total, waiting, pending, HasTicket, HasTurn, InStep, look_stage, machine_in, staged, reads, records, IsHome, Kept, Looks, Draws, Turns, Writes, Hands, Compares, Answered, calls_of, machines_of}
use Rattle.history_lock.proofs.Totals.{total_le, one_le}
use Rattle.history_lock.proofs.Lists.{times_more, once_more, below_more, are_positions, starts_short, starts_more, starts_of, at_set_same, same_at}
use Rattle.history_lock.proofs.Stages.{turn_ticket, stands_next, stands_else, stands_on, ticket_below, fewer_one, pends_idle, no_turn}
use Rattle.history_lock.proofs.States.{replays_more, replays_begins}
use Rattle.history_lock.proofs.Leads.{not_leading, since_same, since_more, since_rest, since_cut, leads_alone, all_seen}
use Rattle.history_lock.proofs.Keeps.{Moves, kept_set}

module _ {M E R : Type 0} (steps : M → E → R → M → Type 0) (allows : List (Event M E R) → E → Type 0) where
  abbrev V : Type 0
  V = View M E R

  abbrev S : Type 0
  S = Slot M E R

  abbrev Held : Type 0
  Held = List (ℕ × S)

  -- the machine stays where it is while a pass without the turn steps
  pub home_stays : (m : M) (views : List V) (home : Maybe S) (id : ℕ) (v w : V) → get_elem? views id ≡ some v → (HasTurn v.stage → HasTurn w.stage)
      → IsHome steps m views home → IsHome steps m (set views id w) home
  home_stays m views home id v w at turn (inl there) = inl there
  home_stays m views home id v w at turn (inr (gone, port, u, there, has)) = inr (dite (ℕ_discrete port id)
      (λ e. (gone, id, w, at_set_same views id w v at, turn (let P : V → Type 0 = λ x. HasTurn x.stage in subst P (same_at views id port u v e there at) has)))
      (λ ne. (gone, port, u, set_else views id port w ne ∙ there, has)))

  -- the table is as it was
  kept_again : (opening : M) (s : State S V) (k : Kept steps allows opening s) (id : ℕ) (v : V) → get_elem? s.views id ≡ some v → (words : List ℕ) → words ≡ s.words → Kept steps allows opening record { words = words; homes = s.homes; views = set s.views id v }
  kept_again opening s k id v at words are = let P : State S V → Type 0 = Kept steps allows opening in subst P (λ i. record { words = sym are i; homes = s.homes; views = sym (set_again s.views id v at) i }) k

  -- the length is read
  look_moves : (opening : M) (s : State S V) (k : Kept steps allows opening s) (id : ℕ) (v : V) → get_elem? s.views id ≡ some v → v.stage ≡ Idle → 0 < v.known.parts
      → (r : ℕ) → r ≡ length k.log → (words : List ℕ) → words ≡ s.words → (stage : Standing M) → waiting stage ≡ 0 → (HasTurn stage → ⊥) → ((t : ℕ) → HasTicket stage t → ⊥) → InStep k.machine k.turn k.next stage
      → ((m n : ℕ) → n ≡ m + pending stage → r + m ≤ 2 ^ 62 + 1024 → n ≤ 1024 → r + n ≤ 2 ^ 62 + 1024)
      → Moves steps allows opening s k id v (record v { known = record (v.known) { number = r }; stage = stage }) k.log k.machine k.next k.turn k.home words s.homes
  look_moves opening s k id v at idle some_part r is words are stage waits turn ticket in_step small =
      let mine = k.knows id v at in
      let none_waits : waiting v.stage ≡ 0 = ap waiting idle in
      let none_pends : pending v.stage ≡ 0 = ap pending idle in
      record {
        are = are ∙ k.words;
        slots = k.slots;
        replays = k.replays;
        is_home = home_stays k.machine s.views k.home id v _ at (λ h. absurd (no_turn v.stage idle h)) k.is_home;
        knows = record { begins = mine.begins; prefix = mine.prefix; heard = mine.heard; below = mine.below; before = omega arith; spent = mine.spent };
        stands = record { in_step = in_step; out = λ h. absurd (turn h); spent = λ z. absurd (omega arith) };
        others_know = λ known told f. f;
        others_stand = λ j u o e f. f;
        apart = λ j u t o e h h'. ticket t h;
        led = k.led id v at;
        others_led = λ j u o e f. f;
        leads = refl;
        order = k.order;
        parts = refl;
        owners = λ x. refl;
        tickets = omega arith;
        room = λ m n e f g. (let a = small m n (omega arith) (omega arith) g in omega arith);
      }

  look_cases : (opening : M) (s : State S V) (k : Kept steps allows opening s) (id : ℕ) (v : V) → get_elem? s.views id ≡ some v → v.stage ≡ Idle → 0 < v.known.parts
      → (r : ℕ) → r ≡ length k.log → (words : List ℕ) → words ≡ s.words → (b : Bool) → nat_lt r (2 ^ 62) ≡ b
      → Moves steps allows opening s k id v (record v { known = record (v.known) { number = r }; stage = look_stage b }) k.log k.machine k.next k.turn k.home words s.homes
  look_cases opening s k id v at idle some_part r is words are true below =
      let small : r < 2 ^ 62 = grind (arith, nat_tests) in
      look_moves opening s k id v at idle some_part r is words are Looked refl (λ h. h) (λ t h. h) tt (λ m n e f g. omega arith)
  look_cases opening s k id v at idle some_part r is words are false below =
      look_moves opening s k id v at idle some_part r is words are Idle refl (λ h. h) (λ t h. h) tt (λ m n e f g. omega arith)

  pub looks : (opening : M) (count id : ℕ) (v : V) (c : Held) → v.stage ≡ Idle → 0 < v.known.parts → Allows (Kept steps allows opening) count id (v, c) 0 (λ n. n) (Looks steps (step count 0 0 0 none) (v, c))
  looks opening count id v c idle some_part s k slots at fits =
      let r : ℕ = slice_index s.words 0 in (
        reads v r,
        keeps,
        tt,
        kept_set steps allows opening s k id v (reads v r) k.log k.machine k.next k.turn k.home _ s.homes at
            (look_cases opening s k id v at idle some_part r (ap (λ ws. slice_index ws 0) k.words) _ (set-get_or s.words 0 0) (nat_lt r (2 ^ 62)) refl),
        refl,
      )

  -- the tickets that are out are few
  next_small : (opening : M) (s : State S V) (k : Kept steps allows opening s) → k.next + 1 < 2 ^ 64
  next_small opening s k =
      let fewer : total (λ (u : V). waiting u.stage) s.views ≤ total (λ (u : V). pending u.stage) s.views = total_le (λ (u : V). waiting u.stage) (λ (u : V). pending u.stage) s.views (λ j u e. fewer_one u.stage) in
      let a = k.tickets in let b = k.room in omega arith

  -- a ticket is drawn
  draw_moves : (opening : M) (s : State S V) (k : Kept steps allows opening s) (id : ℕ) (v : V) → get_elem? s.views id ≡ some v → v.stage ≡ Looked
      → (r : ℕ) → r ≡ k.next → (words : List ℕ) → words ≡ length k.log ∷ (k.next + 1) ∷ k.turn ∷ []
      → Moves steps allows opening s k id v (staged v (Waits r)) k.log k.machine (k.next + 1) k.turn k.home words s.homes
  draw_moves opening s k id v at looked r is words are =
      let no_waits : waiting v.stage ≡ 0 = ap waiting looked in
      let one_pends : pending v.stage ≡ 1 = ap pending looked in
      let turns = k.order in
      record {
        are = are;
        slots = k.slots;
        replays = k.replays;
        is_home = home_stays k.machine s.views k.home id v _ at (λ h. let P : Standing M → Type 0 = HasTurn in absurd (subst P looked h)) k.is_home;
        knows = k.knows id v at;
        stands = record { in_step = (omega arith, omega arith); out = λ h. absurd h; spent = λ z. absurd (pends_idle v.stage one_pends ((k.stands id v at).spent z)) };
        others_know = λ known told f. f;
        others_stand = λ j u o e f. record { in_step = stands_next k.machine k.turn k.next u.stage f.in_step; out = f.out; spent = f.spent };
        apart = λ j u t o e h h'. let low = ticket_below k.machine k.turn k.next t u.stage (k.stands j u e).in_step h' in let h'' : r ≡ t = h in omega arith;
        led = k.led id v at;
        others_led = λ j u o e f. f;
        leads = refl;
        order = omega arith;
        parts = refl;
        owners = λ x. refl;
        tickets = omega arith;
        room = λ m n e f g. omega arith;
      }

  pub draws : (opening : M) (count id : ℕ) (v : V) (c : Held) → v.stage ≡ Looked → Allows (Kept steps allows opening) count id (v, c) 1 (λ n. (n + 1) % 2 ^ 64) (Draws steps (step count 1 1 0 none) (v, c))
  draws opening count id v c looked s k slots at fits =
      let r : ℕ = slice_index s.words 1 in
      let is : r ≡ k.next = ap (λ ws. slice_index ws 1) k.words in
      let small = next_small opening s k in
      let wraps : (r + 1) % 2 ^ 64 ≡ k.next + 1 = ap (λ n. (n + 1) % 2 ^ 64) is ∙ mod-eq_of_lt small in (
        staged v (Waits r),
        keeps,
        tt,
        kept_set steps allows opening s k id v (staged v (Waits r)) k.log k.machine (k.next + 1) k.turn k.home _ s.homes at
            (draw_moves opening s k id v at looked r is _ (ap (λ n. set s.words 1 n) wraps ∙ ap (λ ws. set ws 1 (k.next + 1)) k.words)),
        (refl, (let P : ℕ → Type 0 = λ n. n + 1 < 2 ^ 64 in subst P (sym is) small)),
      )

  -- another pass hasn't the turn
  others_wait : (opening : M) (s : State S V) (k : Kept steps allows opening s) (id : ℕ) (v : V) → get_elem? s.views id ≡ some v → HasTicket v.stage k.turn
      → (j : ℕ) (u : V) → j ≢ id → get_elem? s.views j ≡ some u → HasTicket u.stage k.turn → ⊥
  others_wait opening s k id v at mine j u other e theirs = other (k.apart j id u v k.turn e at theirs mine)

  others_free : (opening : M) (s : State S V) (k : Kept steps allows opening s) (id : ℕ) (v : V) → get_elem? s.views id ≡ some v → HasTicket v.stage k.turn
      → (j : ℕ) (u : V) → j ≢ id → get_elem? s.views j ≡ some u → HasTurn u.stage → ⊥
  others_free opening s k id v at mine j u other e turn = others_wait opening s k id v at mine j u other e (turn_ticket k.machine k.turn k.next u.stage (k.stands j u e).in_step turn)

  -- the turn is read, and the machine taken
  take_moves : (opening : M) (s : State S V) (k : Kept steps allows opening s) (id : ℕ) (v : V) → get_elem? s.views id ≡ some v → (t : ℕ) → v.stage ≡ Waits t → t ≡ k.turn
      → (words : List ℕ) → words ≡ s.words → (homes : List (Maybe S)) → homes ≡ none ∷ []
      → Moves steps allows opening s k id v (staged v (Turn t k.machine)) k.log k.machine k.next k.turn none words homes
  take_moves opening s k id v at t waits now words are homes out =
      let there = k.stands id v at in
      let has : HasTicket v.stage k.turn = (let P : Standing M → Type 0 = λ x. HasTicket x k.turn in subst P (sym waits) now) in
      let one_waits : waiting v.stage ≡ 1 = ap waiting waits in
      let one_pends : pending v.stage ≡ 1 = ap pending waits in
      let low = ticket_below k.machine k.turn k.next k.turn v.stage there.in_step has in
      record {
        are = are ∙ k.words;
        slots = out;
        replays = k.replays;
        is_home = inr (refl, id, staged v (Turn t k.machine), at_set_same s.views id (staged v (Turn t k.machine)) v at, tt);
        knows = k.knows id v at;
        stands = record { in_step = (now, omega arith, refl); out = λ h. refl; spent = λ z. absurd (pends_idle v.stage one_pends (there.spent z)) };
        others_know = λ known told f. f;
        others_stand = λ j u o e f. record { in_step = f.in_step; out = λ h. refl; spent = f.spent };
        apart = λ j u t' o e h h'. others_wait opening s k id v at has j u o e (let P : ℕ → Type 0 = λ x. HasTicket u.stage x in subst P (sym h ∙ now) h');
        led = k.led id v at;
        others_led = λ j u o e f. f;
        leads = refl;
        order = k.order;
        parts = refl;
        owners = λ x. refl;
        tickets = omega arith;
        room = λ m n e f g. omega arith;
      }

  takes_home : (opening : M) (s : State S V) (k : Kept steps allows opening s) (count id : ℕ) (v : V) → get_elem? s.views id ≡ some v → 0 < v.known.parts → (t : ℕ) → v.stage ≡ Waits t
      → (r : ℕ) → r ≡ k.turn → (words : List ℕ) → words ≡ s.words → t ≡ r → IsHome steps k.machine s.views k.home
      → (w : V) × (a : Act S) × Valid s.homes [] a × Kept steps allows opening record { words = words; homes = homes_after s.homes [] a; views = set s.views id w } × Turns steps allows (step count 2 0 0 none) (v, []) r (w, carried_after [] a)
  takes_home opening s k count id v at some_part t waits r is words are now (inl (slot, there, has)) =
      let mine = k.knows id v at in
      let homes : s.homes ≡ some slot ∷ [] = k.slots ∙ ap (λ h. h ∷ []) there in
      let w : V = staged v (Turn t k.machine) in (
        w,
        takes 0 slot,
        ap (λ hs. get_elem? hs 0) homes,
        kept_set steps allows opening s k id v w k.log k.machine k.next k.turn none words _ at (take_moves opening s k id v at t waits (now ∙ is) words are _ (ap (λ hs. set hs 0 none) homes)),
        (
          (λ h. record {
            opening = opening;
            opens = mine.begins some_part;
            slot = slot;
            machine = k.machine;
            log = k.log;
            later = mine.prefix;
            legal = k.replays;
            led = λ lead. (k.led id v at lead).0;
            alone = λ all. sym (all_seen steps allows opening s k id v at all);
            has = has;
            mine = (let P : ℕ → Type 0 = λ x. Path (V × Held) (w, (0, slot) ∷ []) (staged v (Turn x k.machine), (0, slot) ∷ []) in subst P now refl);
          }),
          (λ ne. absurd (ne (let P : Standing M → Type 0 = λ x. HasTicket x r in subst P (sym waits) now))),
        ),
      )
  takes_home opening s k count id v at some_part t waits r is words are now (inr (gone, port, u, there, turn)) =
      let has : HasTicket v.stage k.turn = (let P : Standing M → Type 0 = λ x. HasTicket x k.turn in subst P (sym waits) (now ∙ is)) in
      absurd (dite (ℕ_discrete port id)
      (λ e. (let P : Standing M → Type 0 = HasTurn in subst P waits (let Q : V → Type 0 = λ x. HasTurn x.stage in subst Q (same_at s.views id port u v e there at) turn)))
      (λ ne. others_free opening s k id v at has port u ne there turn))

  takes_turn : (opening : M) (count id : ℕ) (v : V) (t : ℕ) → v.stage ≡ Waits t → 0 < v.known.parts → Allows (Kept steps allows opening) count id (v, []) 2 (λ n. n) (Turns steps allows (step count 2 0 0 none) (v, []))
  takes_turn opening count id v t waits some_part s k slots at fits =
      let r : ℕ = slice_index s.words 2 in
      dite (ℕ_discrete t r)
      (λ e. takes_home opening s k count id v at some_part t waits r (ap (λ ws. slice_index ws 2) k.words) _ (set-get_or s.words 2 0) e k.is_home)
      (λ ne. (v, keeps, tt, kept_again opening s k id v at _ (set-get_or s.words 2 0), ((λ h. absurd (ne (let P : Standing M → Type 0 = λ x. HasTicket x r in subst P waits h))), λ h. refl)))

  pub takes_me : (opening : M) (count id : ℕ) (me : Me S V) (t : ℕ) → me.1 ≡ [] → me.0.stage ≡ Waits t → 0 < me.0.known.parts → Allows (Kept steps allows opening) count id me 2 (λ n. n) (Turns steps allows (step count 2 0 0 none) me)
  takes_me opening count id (v, c) t none_held waits some_part =
      let P : Held → Type 0 = λ x. Allows (Kept steps allows opening) count id (v, x) 2 (λ n. n) (Turns steps allows (step count 2 0 0 none) (v, x)) in
      subst P (sym none_held) (takes_turn opening count id v t waits some_part)

  -- the entry is recorded
  write_moves : (opening : M) (s : State S V) (k : Kept steps allows opening s) (id : ℕ) (v : V) → get_elem? s.views id ≡ some v → (t : ℕ) (m : M) (call : Event M E R) → v.stage ≡ Turn t m
      → ((IsTrue v.known.leads → ⊥) → allows k.log call.entry) → Replays steps opening (k.log ++ call ∷ []) call.behind → (words : List ℕ) → words ≡ (length k.log + 1) ∷ k.next ∷ k.turn ∷ []
      → Moves steps allows opening s k id v (records v k.log call (Recorded t call.behind)) (k.log ++ call ∷ []) call.behind k.next k.turn k.home words s.homes
  write_moves opening s k id v at t m call turn entered legal words are =
      let mine = k.knows id v at in
      let there = k.stands id v at in
      let stands : (t ≡ k.turn) × (t < k.next) × (m ≡ k.machine) = (let P : Standing M → Type 0 = InStep k.machine k.turn k.next in subst P turn there.in_step) in
      let now : t ≡ k.turn = stands.0 in
      let has : HasTicket v.stage k.turn = (let P : Standing M → Type 0 = λ x. HasTicket x k.turn in subst P (sym turn) now) in
      let have : HasTurn v.stage = (let P : Standing M → Type 0 = HasTurn in subst P (sym turn) tt) in
      let one_waits : waiting v.stage ≡ 1 = ap waiting turn in
      let one_pends : pending v.stage ≡ 1 = ap pending turn in
      let busy : v.known.parts ≡ 0 → ⊥ = (λ z. pends_idle v.stage one_pends (there.spent z)) in
      let long : length (k.log ++ call ∷ []) ≡ length k.log + 1 = length-append k.log (call ∷ []) in
      let short = starts_short k.log v.known.seen mine.prefix in
      let w : V = records v k.log call (Recorded t call.behind) in
      let before = mine.before in
      record {
        are = are ∙ ap (λ n. n ∷ k.next ∷ k.turn ∷ []) (sym long);
        slots = k.slots;
        replays = legal;
        is_home = inr (there.out have, id, w, at_set_same s.views id w v at, tt);
        knows = record {
          begins = mine.begins;
          prefix = ([], sym (append-nil (k.log ++ call ∷ [])));
          heard = starts_more k.log v.told call mine.heard;
          below = λ x le. below_more x (length k.log) v.known.own (omega arith) (mine.below x (omega arith));
          before = omega arith;
          spent = λ z. absurd (busy z);
        };
        stands = record { in_step = (now, stands.1, refl); out = λ h. there.out have; spent = λ z. absurd (busy z) };
        others_know = λ known told f. record {
          begins = f.begins;
          prefix = starts_more k.log known.seen call f.prefix;
          heard = starts_more k.log told call f.heard;
          below = f.below;
          before = (let b = f.before in omega arith);
          spent = f.spent;
        };
        others_stand = λ j u o e f. record { in_step = stands_else k.machine call.behind k.turn k.next u.stage (others_free opening s k id v at has j u o e) f.in_step; out = f.out; spent = f.spent };
        apart = λ j u t' o e h h'. others_wait opening s k id v at has j u o e (let P : ℕ → Type 0 = λ x. HasTicket u.stage x in subst P (sym h ∙ now) h');
        led = λ lead. (since_same allows (k.log ++ call ∷ []), since_same allows (k.log ++ call ∷ []));
        others_led = λ j u o e f lead. (let ok = entered (leads_alone s.views id j v u o at e k.leaders lead) in let l = f lead in (since_more allows k.log u.known.seen call l.0 ok, since_more allows k.log u.mark call l.1 ok));
        leads = refl;
        order = k.order;
        parts = refl;
        owners = λ x. (let a = times_more x v.known.own (length k.log) in let b = once_more x (length k.log) (length (k.log ++ call ∷ [])) long in omega arith);
        tickets = omega arith;
        room = λ m n e f g. omega arith;
      }

  writes : (opening : M) (count id : ℕ) (v : V) (c : Held) (t : ℕ) (m : M) (call : Event M E R) → v.stage ≡ Turn t m → 0 < v.known.parts → calls_of c ≡ call ∷ [] → machines_of c ≡ Some call.behind
      → steps m call.entry call.reply call.behind → IsAllowed steps allows v.known call.entry → Allows (Kept steps allows opening) count id (v, c) 0 (λ n. (n + 1) % 2 ^ 64) (Writes steps allows (step count 0 1 0 none) (v, c))
  writes opening count id v c t m call turn some_part is_call is_machine steps' allowed s k slots at fits =
      let r : ℕ = slice_index s.words 0 in
      let is : r ≡ length k.log = ap (λ ws. slice_index ws 0) k.words in
      let a = k.room in
      let small : length k.log + 1 < 2 ^ 64 = omega arith in
      let wraps : (r + 1) % 2 ^ 64 ≡ length k.log + 1 = ap (λ n. (n + 1) % 2 ^ 64) is ∙ mod-eq_of_lt small in
      let mine = k.knows id v at in
      let w : V = records v k.log call (Recorded t call.behind) in
      let entered : (IsTrue v.known.leads → ⊥) → allows k.log call.entry = (λ unled. allowed (not_leading v.known.leads unled) opening k.machine k.log (mine.begins some_part) mine.prefix k.replays) in
      let stands : (t ≡ k.turn) × (t < k.next) × (m ≡ k.machine) = (let P : Standing M → Type 0 = InStep k.machine k.turn k.next in subst P turn (k.stands id v at).in_step) in
      let stepped : steps k.machine call.entry call.reply call.behind = (let P : M → Type 0 = λ x. steps x call.entry call.reply call.behind in subst P stands.2 steps') in
      let legal = replays_more steps opening k.log k.machine call k.replays stepped in (
        w,
        keeps,
        tt,
        kept_set steps allows opening s k id v w (k.log ++ call ∷ []) call.behind k.next k.turn k.home _ s.homes at
            (write_moves opening s k id v at t m call turn entered legal _ (ap (λ n. set s.words 0 n) wraps ∙ ap (λ ws. set ws 0 (length k.log + 1)) k.words)),
        record {
          opening = opening;
          opens = mine.begins some_part;
          log = k.log;
          call = call;
          ticket = t;
          machine = call.behind;
          has_ticket = (let P : Standing M → Type 0 = λ x. HasTicket x t in subst P (sym turn) refl);
          is_call = is_call;
          is_machine = is_machine;
          later = mine.prefix;
          before = k.machine;
          legal = k.replays;
          led = λ lead. since_rest allows k.log v.known.seen mine.prefix (k.led id v at lead).0;
          alone = λ all. sym (all_seen steps allows opening s k id v at all);
          step = stepped;
          mine = refl;
        },
      )

  pub writes_answered : (opening : M) (count id : ℕ) (v : V) (c : Held) (t : ℕ) (entry : E) (reply : R) → 0 < v.known.parts → Answered steps v c t entry reply → IsAllowed steps allows v.known entry
      → Allows (Kept steps allows opening) count id (v, c) 0 (λ n. (n + 1) % 2 ^ 64) (Writes steps allows (step count 0 1 0 none) (v, c))
  writes_answered opening count id v c t entry reply some_part a allowed =
      writes opening count id v c t a.before (event entry reply a.after) a.stage some_part (ap calls_of a.carries ∙ a.is_call) (ap machines_of a.carries ∙ a.has) a.stepped allowed

  -- the turn is handed on, and the machine is back in its place
  hand_moves : (opening : M) (s : State S V) (k : Kept steps allows opening s) (id : ℕ) (v : V) → get_elem? s.views id ≡ some v → (t : ℕ) (m : M) (slot : S) → v.stage ≡ Recorded t m
      → machine_in slot ≡ Some m → (words : List ℕ) → words ≡ length k.log ∷ k.next ∷ (t + 1) ∷ [] → (homes : List (Maybe S)) → homes ≡ some slot ∷ []
      → Moves steps allows opening s k id v (staged v Idle) k.log k.machine k.next (k.turn + 1) (some slot) words homes
  hand_moves opening s k id v at t m slot done holds words are homes back =
      let stands : (t ≡ k.turn) × (t < k.next) × (m ≡ k.machine) = (let P : Standing M → Type 0 = InStep k.machine k.turn k.next in subst P done (k.stands id v at).in_step) in
      let now : t ≡ k.turn = stands.0 in
      let below : t < k.next = stands.1 in
      let has : HasTicket v.stage k.turn = (let P : Standing M → Type 0 = λ x. HasTicket x k.turn in subst P (sym done) now) in
      let no_waits : waiting v.stage ≡ 0 = ap waiting done in
      let no_pends : pending v.stage ≡ 0 = ap pending done in
      let alone = others_free opening s k id v at has in
      record {
        are = are ∙ ap (λ n. length k.log ∷ k.next ∷ (n + 1) ∷ []) now;
        slots = back;
        replays = k.replays;
        is_home = inl (slot, refl, holds ∙ ap Some stands.2);
        knows = k.knows id v at;
        stands = record { in_step = tt; out = λ h. absurd h; spent = λ z. refl };
        others_know = λ known told f. f;
        others_stand = λ j u o e f. record {
          in_step = stands_on k.machine k.turn k.next u.stage (others_wait opening s k id v at has j u o e) (alone j u o e) f.in_step;
          out = λ h. absurd (alone j u o e h);
          spent = f.spent;
        };
        apart = λ j u t' o e h h'. h;
        led = k.led id v at;
        others_led = λ j u o e f. f;
        leads = refl;
        order = omega arith;
        parts = refl;
        owners = λ x. refl;
        tickets = omega arith;
        room = λ m n e f g. omega arith;
      }

  hands : (opening : M) (count id : ℕ) (v : V) (t : ℕ) (m : M) (slot : S) → v.stage ≡ Recorded t m → machine_in slot ≡ Some m
      → Allows (Kept steps allows opening) count id (v, (0, slot) ∷ []) 2 (λ _. t + 1) (λ _. Hands steps (step count 2 (t + 1) 0 none) (v, (0, slot) ∷ []) (t + 1))
  hands opening count id v t m slot done holds s k slots at fits = (
    staged v Idle,
    gives,
    tt,
    kept_set steps allows opening s k id v (staged v Idle) k.log k.machine k.next (k.turn + 1) (some slot) _ _ at
        (hand_moves opening s k id v at t m slot done holds _ (ap (λ ws. set ws 2 (t + 1)) k.words) _ (ap (λ hs. set hs 0 (some slot)) k.slots)),
    refl,
  )

  pub hands_me : (opening : M) (count id : ℕ) (me : Me S V) (t : ℕ) (m : M) (slot : S) → me.1 ≡ (0, slot) ∷ [] → me.0.stage ≡ Recorded t m → machine_in slot ≡ Some m
      → Allows (Kept steps allows opening) count id me 2 (λ _. t + 1) (λ _. Hands steps (step count 2 (t + 1) 0 none) me (t + 1))
  hands_me opening count id (v, c) t m slot held done holds =
      let P : Held → Type 0 = λ x. Allows (Kept steps allows opening) count id (v, x) 2 (λ _. t + 1) (λ _. Hands steps (step count 2 (t + 1) 0 none) (v, x) (t + 1)) in
      subst P (sym held) (hands opening count id v t m slot done holds)

  -- two histories are compared
  pub compares : (opening : M) (count id : ℕ) (me : Me S V) → Allows (Kept steps allows opening) count id me 0 (λ n. n) (Compares steps allows (step count 0 0 0 none) me)
  compares opening count id (v, c) s k slots at fits =
      let mine = k.knows id v at in
      let some_of : (x : ℕ) → times x v.known.own ≤ once_below x (length k.log) = (λ x. let a = one_le (λ (u : V). times x u.known.own) s.views id v at in let b = k.owners x in omega arith) in (
        v,
        keeps,
        tt,
        kept_again opening s k id v at _ (set-get_or s.words 0 0),
        (refl, starts_of k.log v.told v.known.seen mine.heard mine.prefix, (λ lead le. (since_cut allows k.log v.mark v.known.seen (k.led id v at lead).1 mine.prefix le).0), (λ some_part. (state_behind opening v.known.seen, (opening, mine.begins some_part, replays_begins steps opening k.log v.known.seen k.machine mine.prefix k.replays))), λ x. are_positions x (length v.known.seen) (length k.log) v.known.own (some_of x) (mine.below x) (nat_lt x (length v.known.seen)) refl),
      )

  pub slot_first : (me : Me S V) (v : V) (x : S) (r : Held) → me ≡ (v, (0, x) ∷ r) → me.1 ≡ (0, x) ∷ rest me.1
  slot_first me v x r e = let P : Me S V → Type 0 = λ z. z.1 ≡ (0, x) ∷ rest z.1 in subst P (sym e) refl
