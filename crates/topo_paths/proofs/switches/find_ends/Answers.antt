use Rattle.std.proofs.Common.{◌≡◌, ◌+◌, ◌≤◌, List, [], ◌∷◌, length, get_or, sym, ap, ◌∙◌, subst, ⊎_elim, arith}
use Rattle.std.proofs.lemmas.Bool.{cases_lt}
use Rattle.std.proofs.lemmas.List.{get_or_default, get_or_append_left, get_or_push, length_push}
use Rattle.env_cells.specs.Lists.{IsAmong}
use Rattle.topo_paths.specs.declared.rows.Ends.{Ends}
use Rattle.topo_paths.specs.Walks.{Link}
use Rattle.topo_paths.specs.Rows.{IsEnds}
use Rattle.topo_paths.proofs.Naming.{few_at, few_more, few_length, few_room, among_more, few_distinct, ends_kept}
use Rattle.topo_paths.proofs.switches.find_ends.Goals as goal
use Rattle.topo_paths.proofs.switches.find_ends.Goals.{After-name-end}

abbrev no_link : Link
no_link = (record { switch = 0; port = 0 }, record { switch = 0; port = 0 })

pub name-start-requires-clause-room : goal.name-start-requires-clause-room
name-start-requires-clause-room c =
    let f = few_at c.args.links.now c.loop-from.switches.items c.loop-from.from-index no_link c.requires.few c.loop-from.invariant.among c.loop-from-test.true in
    λ new'. omega (arith, few_room _ _ _ c.loop-from.invariant.distinct f f.both.start new', c.requires.room, c.clear.ensures.capacity, c.loop-from.invariant.capacity, c.loop-from.switches.ok.0)

pub name-end-requires-clause-room : goal.name-end-requires-clause-room
name-end-requires-clause-room c =
    let f = few_at c.args.links.now c.loop-from.switches.items c.loop-from.from-index no_link c.requires.few c.loop-from.invariant.among c.loop-from-test.true in
    let g = few_more _ c.name-start.new.switches.items _ _ c.name-start.ensures.only f f.both.start in
    λ new'. omega (arith, few_room _ _ _ c.name-start.ensures.distinct g g.both.end new', c.requires.room, c.clear.ensures.capacity, c.loop-from.invariant.capacity, c.name-start.ensures.capacity, c.name-start.new.switches.ok.0)

few : (c : After-name-end) → length c.name-end.new.switches.items ≤ 64
few c =
    let f = few_at c.args.links.now c.loop-from.switches.items c.loop-from.from-index no_link c.requires.few c.loop-from.invariant.among c.loop-from-test.true in
    let g = few_more _ c.name-start.new.switches.items _ _ c.name-start.ensures.only f f.both.start in
    few_length _ _ c.name-end.ensures.distinct (few_more _ c.name-end.new.switches.items _ _ c.name-end.ensures.only g g.both.end)

pub overflow_cast-hint : goal.overflow_cast-hint
overflow_cast-hint c = omega (arith, few c, c.name-start.ensures.place.0, c.name-end.ensures.kept.more)

pub overflow_cast-hint-in-loop-from : goal.overflow_cast-hint-in-loop-from
overflow_cast-hint-in-loop-from c = omega (arith, few c, c.name-end.ensures.place.0)

pub loop-from-preserved : goal.loop-from-preserved
loop-from-preserved c =
    let links = c.args.links.now in
    let i = c.loop-from.from-index in
    let mid = c.name-start.new.switches.items in
    let switches = c.name-end.new.switches.items in
    let s = c.name-start.ensures in
    let t = c.name-end.ensures in
    let e : Ends = record { from = c.name-start.result; to = c.name-end.result } in
    let items = c.push_reserved.ensures.items in
    let one : IsEnds switches (get_or links i no_link) e = record {
      within = (omega (arith, s.place.0, t.kept.more), t.place.0);
      from = t.kept.kept _ s.place.0 ∙ get_or_default mid _ 0 _ s.place.0 ∙ s.place.1;
      to = get_or_default switches _ 0 _ t.place.0 ∙ t.place.1;
    } in
    record {
      capacity = t.capacity ∙ s.capacity ∙ c.loop-from.invariant.capacity;
      capacity_of_ends = c.push_reserved.ensures.capacity ∙ c.loop-from.invariant.capacity_of_ends;
      distinct = t.distinct;
      among = λ names all.
          let both : IsAmong names (get_or links i no_link) = all i no_link c.loop-from-test.true in
          among_more names mid switches _ t.only (among_more names _ mid _ s.only (c.loop-from.invariant.among names all) both.start) both.end;
      long = ap length items ∙ length_push c.loop-from.ends.items e ∙ ap (λ n. n + 1) c.loop-from.invariant.long;
      each = λ k b d lt. ⊎_elim
          (λ less.
          let is = ap (λ (l : List Ends). get_or l k d) items ∙ get_or_append_left c.loop-from.ends.items (e ∷ []) d k (omega (arith, less, c.loop-from.invariant.long)) in
          subst (λ (x : Ends). IsEnds switches (get_or links k b) x) (sym is) (ends_kept mid switches _ _ t.kept (ends_kept _ mid _ _ s.kept (c.loop-from.invariant.each k b d less))))
          (λ more.
          let at : k ≡ i = omega (arith, lt, more) in
          let is_link : get_or links i no_link ≡ get_or links k b = get_or_default links i no_link b c.loop-from-test.true ∙ ap (λ j. get_or links j b) (sym at) in
          let is_e : e ≡ get_or c.push_reserved.new.self.items k d = sym (ap (λ (l : List Ends). get_or l k d) items ∙ get_or_push c.loop-from.ends.items e d k (c.loop-from.invariant.long ∙ sym at)) in
          subst (λ (x : Ends). IsEnds switches (get_or links k b) x) is_e (subst (λ (x : Link). IsEnds switches x e) is_link one))
          (cases_lt k i);
    }

pub returns-clause-ends : goal.returns-clause-ends
returns-clause-ends c =
    let (names, few, all) = c.requires.few in
    record {
      few = omega (arith, few, few_distinct c.loop-from.switches.items names c.loop-from.invariant.distinct (c.loop-from.invariant.among names all));
      apart = c.loop-from.invariant.distinct;
      each = λ k b d lt. c.loop-from.invariant.each k b d (omega (arith, lt, c.loop-from-test.false));
    }
