-- What a switch does at its place is a move of the world.
use Rattle.std.proofs.Common.{◌≡◌, ◌≢◌, ℕ, ◌<◌, true, false, cond, eqb, List, [], ◌∷◌, length, get_or, set, map, Some, None, refl, sym, ap, ◌∙◌, subst, arith}
use Rattle.std.specs.Prelude.{nat_lt}
use Rattle.std.specs.Option.{option_map, MatchOption}
use Rattle.std.specs.List.{find, position, slice_get}
use Rattle.std.proofs.lemmas.Bool.{eqb-true}
use Rattle.std.proofs.lemmas.List.{length-map, map-set, set-get_or}
use Rattle.std.proofs.lemmas.List.Quantifiers.{position-Some}
use Rattle.std.proofs.lemmas.Option.{same_Some, none-some, slice_get-map, slice_get_read, slice_get_within, get_or_from_slice_get, MatchOption-at_none, MatchOption-at_some}
use Rattle.of10_codec.specs.declared.message.Message.{Message}
use Rattle.machine_steps.specs.Machine.{State}
use Rattle.machine_parts.proofs.Keyed.{find_passes, first_there, position_of_map, set_by_key}
use Rattle.world_steps.specs.Worlds.{ActsAt, Link, World, at_link, link_at}
use Rattle.world_right.proofs.Links.{changed_there}
use Rattle.world_places.specs.declared.acting.Act.{Act}
use Rattle.world_places.specs.declared.acting.Act.TheVariants.{Take, Process, Refuse, Answer, Look}
use Rattle.world_places.specs.declared.acting.Acted.{Acted}
use Rattle.world_places.specs.declared.acting.Acted.TheVariants.{Done, Saw, NotThere, NoMemory}
use Rattle.world_places.specs.declared.place.Place.{Place}
use Rattle.world_places.specs.Acts.{ActsBy, PendsFree, begins_with_barrier}
use Rattle.world_places.specs.Places.{Keeps, switch_of, to_of}
use Rattle.world_model.specs.declared.moves.Moved.TheVariants as moved
use Rattle.world_model.specs.Acts.{move_of, moved_of}
use Rattle.world_model.specs.Kept.{IsAt}
use Rattle.world_model.specs.Moves.{CanProcess, Makes}
use Rattle.world_model.specs.Places.{AreOthers, is_of, link_of, links_of}

-- ---- the place of a connection

pub found_at : (c : ℕ) (ps : List Place) (at : ℕ) (p : Place) → position (λ (q : Place). is_of c (link_of q)) ps ≡ Some at → p ≡ get_or ps at p
    → IsAt c at (links_of ps) (link_of p)
found_at c ps at p e is =
    let within : at < length ps = (position-Some (λ (q : Place). is_of c (link_of q)) ps at p e).0 in
    let there : slice_get (links_of ps) at ≡ Some (link_of p) = slice_get-map link_of ps at ∙ ap (option_map link_of) (slice_get_read ps (length ps) at p refl within is) in
    let (l, same, found) = MatchOption-at_some (link_at c (links_of ps) ≡ None) (λ i. (l : Link) × (slice_get (links_of ps) i ≡ Some l) × (link_at c (links_of ps) ≡ Some l)) at
    (sym (position_of_map (is_of c) link_of ps) ∙ e) (first_there (is_of c) (links_of ps)) in
    record { there = there; found = found ∙ sym same ∙ there }

-- the place of this link is the one that stands there
pub is_there : (c at : ℕ) (ps : List Place) (p : Place) (l : Link) → IsAt c at (links_of ps) l → p ≡ get_or ps at p → link_of p ≡ l
is_there c at ps p l is e =
    let within : at < length ps = omega (arith, slice_get_within (links_of ps) at l is.there, length-map ps link_of) in
    same_Some (link_of p) l (sym (slice_get-map link_of ps at ∙ ap (option_map link_of) (slice_get_read ps (length ps) at p refl within e)) ∙ is.there)

pub at_within : (c at : ℕ) (ps : List Place) (l : Link) → IsAt c at (links_of ps) l → at < length ps
at_within c at ps l is = omega (arith, slice_get_within (links_of ps) at l is.there, length-map ps link_of)

pub found_some : (c : ℕ) (ps : List Place) (at : ℕ) → position (λ (q : Place). is_of c (link_of q)) ps ≡ Some at → (l : Link) × (link_at c (links_of ps) ≡ Some l)
found_some c ps at e =
    let found = MatchOption-at_some (link_at c (links_of ps) ≡ None) (λ i. (l : Link) × (slice_get (links_of ps) i ≡ Some l) × (link_at c (links_of ps) ≡ Some l)) at
    (sym (position_of_map (is_of c) link_of ps) ∙ e) (first_there (is_of c) (links_of ps)) in
    (found.0, found.2)

pub found_none : (c : ℕ) (ps : List Place) → position (λ (q : Place). is_of c (link_of q)) ps ≡ None → link_at c (links_of ps) ≡ None
found_none c ps e =
    MatchOption-at_none (link_at c (links_of ps) ≡ None) (λ i. (l : Link) × (slice_get (links_of ps) i ≡ Some l) × (link_at c (links_of ps) ≡ Some l))
    (sym (position_of_map (is_of c) link_of ps) ∙ e) (first_there (is_of c) (links_of ps))

module _ (c at : ℕ) (ls : List Link) (l : Link) (is : IsAt c at ls l) where
  within : at < length ls
  within = slice_get_within ls at l is.there

  pub of_connection : l.connection ≡ c
  of_connection = eqb-true l.connection c (find_passes (is_of c) ls l is.found)

  -- it is changed at its place as it is by its connection
  pub set_there : AreOthers ls → (k : Link) → k.connection ≡ l.connection → set ls at k ≡ at_link c (λ m. k) ls
  set_there others k e =
      sym (set_by_key (λ (m : Link). m.connection) ls at k within others (ap (λ (m : Link). m.connection) (get_or_from_slice_get ls at l k is.there) ∙ sym e))
      ∙ ap (λ n. map (λ (m : Link). cond (eqb m.connection n) k m) ls) (e ∙ of_connection)

  pub set_same : (k : Link) → k ≡ l → set ls at k ≡ ls
  set_same k e = ap (set ls at) (e ∙ sym (get_or_from_slice_get ls at l k is.there)) ∙ set-get_or ls at k

-- ---- a place, as its link

module _ (p q : Place) where
  pub kept_link : Keeps p q → link_of q ≡ link_of p
  kept_link k = λ i. record { connection = k.connection i; to = k.to i; switch = k.switch i }

  module _ (of : q.connection ≡ p.connection) where
    pub acts_link : to_of q ≡ to_of p → link_of q ≡ record (link_of p) { switch = switch_of q }
    acts_link to = λ i. record { connection = of i; to = to i; switch = switch_of q }

    pub takes_link : link_of q ≡ record (link_of p) { to = to_of q; switch = switch_of q }
    takes_link = λ i. record { connection = of i; to = to_of q; switch = switch_of q }

-- ---- the move

module _ (machine : State) (c : ℕ) (ls : List Link) where
  abbrev world : List Link → World
  world ks = record { machine = machine; links = ks }

  -- there is no such switch
  pub absent : (act : Act) → link_at c ls ≡ None → Makes (move_of c act) moved.NotThere (world ls) (world ls)
  absent Take none = (refl, λ m can. none-some can.link (sym none ∙ can.there))
  absent (Process at) none = (refl, λ m can. none-some can.link (sym none ∙ can.there))
  absent (Refuse at) none = (refl, λ m can. none-some can.stands.link (sym none ∙ can.stands.there))
  absent Answer none = (refl, λ m can. none-some can.link (sym none ∙ can.there))
  absent (Look key) none = (refl, λ can. none-some can.link (sym none ∙ can.there))

  module _ (p q : Place) (stays_of : q.connection ≡ p.connection) (there : link_at c ls ≡ Some (link_of p)) (ks : List Link)
      (now_is : ks ≡ at_link c (λ m. link_of q) ls) (of : q.connection ≡ c) (stays : link_of q ≡ link_of p → ks ≡ ls) where
    abbrev l : Link
    l = link_of p

    abbrev k : Link
    k = link_of q

    same : Keeps p q → world ks ≡ world ls
    same e = ap world (stays (kept_link p q e))

    goes : world ks ≡ world (at_link c (λ m. k) ls)
    goes = ap world now_is

    is_link : (m : Link) → link_at c ls ≡ Some m → m ≡ l
    is_link m e = same_Some m l (sym e ∙ there)

    now_there : link_at c ks ≡ Some k
    now_there = ap (link_at c) now_is ∙ changed_there c (λ m. k) (λ m e. of) ls ∙ ap (option_map (λ m. k)) there

    pends_free : (at : ℕ) (m : Message) → CanProcess c at (world ls) m → PendsFree at (switch_of p).pending m
    pends_free at m can =
        let x : PendsFree at can.link.switch.pending m = record { ahead = can.ahead; behind = can.behind; stands = can.stands; place = can.place; no_barrier = can.no_barrier } in
        subst (λ (y : Link). PendsFree at y.switch.pending m) (is_link can.link can.there) x

    pub makes : (act : Act) (answer : Acted) → ActsBy act answer p q → Makes (move_of c act) (moved_of answer) (world ls) (world ks)
    makes Take NoMemory e = same e
    makes Take Done (m, first, does) = (m, record { link = l; there = there; behind = k; does = (to_of q, first, switch_of q, does, takes_link p q stays_of); now_is = goes })
    makes Take NotThere (e, none) = (same e, λ m can. let to : can.link.to ≡ to_of p = ap (λ (x : Link). x.to) (is_link can.link can.there) in let first = can.first in cc)
    makes Take (Saw seen) h = absurd h
    makes (Process at) NoMemory (e, x) = (
      same e,
      record {
        message = x.message;
        there = record { link = l; there = there; ahead = x.pends.ahead; behind = x.pends.behind; stands = x.pends.stands; place = x.pends.place; no_barrier = x.pends.no_barrier };
        takes = x.takes;
      },
    )
    makes (Process at) Done (to, x) = record {
      message = x.message;
      there = record { link = l; there = there; ahead = x.pends.ahead; behind = x.pends.behind; stands = x.pends.stands; place = x.pends.place; no_barrier = x.pends.no_barrier };
      goes = record { link = l; there = there; behind = k; does = (switch_of q, x.does, acts_link p q stays_of to); now_is = goes };
      at_place = record { link = l; there = there; behind = k; now_there = now_there; ahead = x.loses.ahead; gone = x.loses.gone; rest = x.loses.rest; place = x.loses.place; pending = x.loses.pending; left = x.loses.left; sends = x.loses.sends };
    }
    makes (Process at) NotThere (e, none) = (same e, λ m can. none m (pends_free at m can))
    makes (Process at) (Saw seen) h = absurd h
    makes (Refuse at) NoMemory e = same e
    makes (Refuse at) Done (to, x) = record {
      message = x.message;
      there = record {
        stands = record { link = l; there = there; ahead = x.pends.ahead; behind = x.pends.behind; stands = x.pends.stands; place = x.pends.place; no_barrier = x.pends.no_barrier };
        change = x.change;
      };
      goes = record { link = l; there = there; behind = k; does = (switch_of q, x.does, acts_link p q stays_of to); now_is = goes };
      at_place = record { link = l; there = there; behind = k; now_there = now_there; ahead = x.loses.ahead; gone = x.loses.gone; rest = x.loses.rest; place = x.loses.place; pending = x.loses.pending; left = x.loses.left; sends = x.loses.sends };
    }
    makes (Refuse at) NotThere (e, none) = (same e, λ m can. none m (pends_free at m can.stands) can.change)
    makes (Refuse at) (Saw seen) h = absurd h
    makes Answer NoMemory e = same e
    makes Answer Done (to, (m, does)) = (m, record { link = l; there = there; behind = k; does = (switch_of q, does, acts_link p q stays_of to); now_is = goes })
    makes Answer NotThere (e, none) = (
      same e,
      λ m can.
          let first : begins_with_barrier (switch_of p).pending ≡ true = ap (λ (x : Link). begins_with_barrier x.switch.pending) (sym (is_link can.link can.there)) ∙ ap begins_with_barrier can.first ∙ can.barrier in cc,
    )
    makes Answer (Saw seen) h = absurd h
    makes (Look key) NoMemory h = absurd h
    makes (Look key) Done h = absurd h
    makes (Look key) NotThere (e, none) = (same e, λ can. let valid = can.valid in cc)
    makes (Look key) (Saw seen) (to, x) = record { hit = x.hit; goes = record { link = l; there = there; behind = k; does = (switch_of q, x.does, acts_link p q stays_of to); now_is = goes }; tells = x.tells }
