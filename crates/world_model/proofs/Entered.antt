-- The links behind an entry of the machine, where places follow it.
use Rattle.std.proofs.Common.{◌≡◌, ◌≢◌, ◌⊎◌, ℕ, zero, suc, ◌<◌, Bool, true, false, cond, eqb, List, [], ◌∷◌, ◌++◌, length, get_or, set, map, Some, None, refl, sym, ap, ◌∙◌, subst, inl, inr, ⊎_elim, arith}
use Rattle.std.specs.Prelude.{◌==◌, ◌≤◌, if◌then◌else◌, Decides, Option}
use Rattle.std.specs.List.{AllByRecursion, find, flat_map}
use Rattle.std.specs.Option.{option_or}
use Rattle.std.proofs.lemmas.Bool.{cases_Bool, cases_eq, eq-eqb, eqb-true}
use Rattle.std.proofs.lemmas.List.{get_or-map, length-map, map-set, same_lists}
use Rattle.std.proofs.lemmas.List.Folds.{find-append}
use Rattle.std.proofs.lemmas.Option.{get_or_from_slice_get, none-some, same_Some, slice_get_within}
use Rattle.of10_codec.specs.declared.message.Message.{Message}
use Rattle.of10_codec.specs.Written.{written}
use Rattle.device_port.specs.Switches.{IsFree}
use Rattle.machine_parts.proofs.Keyed.{elsewhere}
use Rattle.machine_steps.specs.declared.entry.Entry.{Entry}
use Rattle.machine_steps.specs.declared.entry.Entry.TheVariants as entries
use Rattle.machine_steps.specs.declared.entry.Input.{Input}
use Rattle.machine_steps.specs.declared.entry.Input.TheVariants.{Message as Whole, Bad}
use Rattle.machine_steps.specs.declared.reply.Reply.{Reply}
use Rattle.machine_steps.specs.declared.reply.Reply.TheVariants as replies
use Rattle.machine_steps.specs.Admitting.{Admits}
use Rattle.machine_steps.specs.Machine.{State, was_opened}
use Rattle.machine_steps.specs.Steps.{Steps, TakesMessages, kept_at}
use Rattle.switch_session.specs.Calls.{CanBeHeard}
use Rattle.world_steps.specs.Worlds.{EntersWorld, Goes, HearsLink, IsFirstFrom, Link, LinksBehind, World, at_link, heard_from, lacks_memory, link_at, messages_for, OpensLink, outbox_of, sent_to, unqueued}
use Rattle.world_steps.specs.Worlds.WorldStep.{Enters}
use Rattle.world_right.proofs.Moved.{came}
use Rattle.world_model.specs.declared.moves.Move.TheVariants as moves
use Rattle.world_model.specs.declared.moves.Moved.{Moved}
use Rattle.world_model.specs.declared.moves.Moved.TheVariants.{Done, NotThere, NoMemory, Replied}
use Rattle.world_places.specs.declared.place.Place.{Place}
use Rattle.world_places.specs.Places.{BeginsWith, Keeps, switch_of, to_of}
use Rattle.world_model.specs.Acts.{TakesHere}
use Rattle.world_model.specs.Kept.{IsAt, IsFirstAt}
use Rattle.world_model.specs.Moves.{Makes, OpensPlain}
use Rattle.world_model.specs.Places.{AreOthers, link_of, links_of, opened_link}
use Rattle.world_model.proofs.Carried.{kept_link, of_connection, set_same, set_there}

abbrev world : State → List Link → World
world m ls = record { machine = m; links = ls }

-- ---- the link at a place changes as the links of its connection do

-- there is only one
only : (c at : ℕ) (ls : List Link) (l : Link) → AreOthers ls → IsAt c at ls l → (k : ℕ) (d : Link) → k < length ls → (get_or ls k d).connection ≡ c → get_or ls k d ≡ l
only c at ls l others is k d within of =
    let there : get_or ls at d ≡ l = get_or_from_slice_get ls at l d is.there in
    ⊎_elim (λ (same : k ≡ at). ap (λ n. get_or ls n d) same ∙ there)
    (λ (ne : k ≢ at). absurd (elsewhere (λ (m : Link). m.connection) ls at k d others (slice_get_within ls at l is.there) within ne (of ∙ sym (ap (λ (m : Link). m.connection) there ∙ of_connection c at ls l is))))
    (cases_eq k at)

pub set_by : (c at : ℕ) (ls : List Link) (l : Link) → AreOthers ls → IsAt c at ls l → (f : Link → Link) → (f l).connection ≡ l.connection → set ls at (f l) ≡ at_link c f ls
set_by c at ls l others is f e =
    set_there c at ls l is others (f l) e
    ∙ same_lists _ _ (length-map ls _ ∙ sym (length-map ls _)) (λ k d h.
    let within : k < length ls = omega (arith, length-map ls (λ (m : Link). if m.connection == c then f l else m)) in
    get_or-map (λ (m : Link). if m.connection == c then f l else m) ls k d d within
    ∙ go (get_or ls k d) (only c at ls l others is k d within) ((get_or ls k d).connection == c) refl
    ∙ sym (get_or-map (λ (m : Link). if m.connection == c then f m else m) ls k d d within))
  where
    go : (m : Link) → (m.connection ≡ c → m ≡ l) → (own : Bool) → (m.connection == c) ≡ own → (if m.connection == c then f l else m) ≡ (if m.connection == c then f m else m)
    go m one true e = ap (λ b. if b then f l else m) e ∙ ap f (sym (one (eqb-true m.connection c e))) ∙ sym (ap (λ b. if b then f m else m) e)
    go m one false e = ap (λ b. if b then f l else m) e ∙ sym (ap (λ b. if b then f m else m) e)

-- where there is none, nothing changes
pub none_changes : (c : ℕ) (f : Link → Link) (ls : List Link) → link_at c ls ≡ None → at_link c f ls ≡ ls
none_changes c f [] none = refl
none_changes c f (l ∷ ls) none = go (l.connection == c) none (none_changes c f ls)
  where
    go : (own : Bool) → cond own (Some l) (link_at c ls) ≡ None → (link_at c ls ≡ None → at_link c f ls ≡ ls) → (if own then f l else l) ∷ at_link c f ls ≡ l ∷ ls
    go true none rest = absurd (none-some l (sym none))
    go false none rest = ap (λ ks. l ∷ ks) (rest none)

-- ---- what is opened is plain

plain_by : (w v : World) (entry : Entry) (reply : Reply) → LinksBehind w.machine entry reply w.links v.links → ((c : ℕ) → entry ≡ entries.Open c → ⊥) → OpensPlain w v
plain_by w v entry reply links other c l none there =
    ⊎_elim (λ was. absurd (none-some was.0 (sym none ∙ was.1))) (λ is. absurd (other c is.0)) (came c w.machine w.links v.links l there entry reply links)

plain_same : (w v : World) → v.links ≡ w.links → OpensPlain w v
plain_same w v e c l none there = absurd (none-some l (sym none ∙ ap (link_at c) (sym e) ∙ there))

-- ---- any entry that doesn't touch the links

pub enters : (m n : State) (ls : List Link) (entry : Entry) (reply : Reply) → ((c : ℕ) → entry ≡ entries.Open c → ⊥) → ((c : ℕ) (i : Input) → entry ≡ entries.Heard c i → ⊥)
    → ((c : ℕ) → entry ≡ entries.TakeOut c → ⊥) → Admits m entry → Steps m entry reply n → Makes (moves.Machine entry) (Replied reply) (world m ls) (world n ls)
enters m n ls (entries.Open c) reply opens hears takes admits steps = absurd (opens c refl)
enters m n ls (entries.Heard c i) reply opens hears takes admits steps = absurd (hears c i refl)
enters m n ls (entries.TakeOut c) reply opens hears takes admits steps = absurd (takes c refl)
enters m n ls entry reply opens hears takes admits steps = (record { admitted = admits; steps = steps; links = refl }, plain_same (world m ls) (world n ls) refl)

-- ---- a connection is opened

again_links : (m : State) (c : ℕ) (ls : List Link) (reply : Reply) → was_opened c m ≡ true → LinksBehind m (entries.Open c) reply ls ls
again_links m c ls replies.NoMemory was = refl
again_links m c ls reply was = subst (λ (old : Bool). OpensLink old c ls ls) (sym was) refl

-- once more
pub opens_again : (m n : State) (c : ℕ) (ls : List Link) (reply : Reply) → was_opened c m ≡ true → Steps m (entries.Open c) reply n → Makes (moves.Machine (entries.Open c)) (Replied reply) (world m ls) (world n ls)
opens_again m n c ls reply was steps = (record { admitted = tt; steps = steps; links = again_links m c ls reply was }, plain_same (world m ls) (world n ls) refl)

-- memory ran out
pub opens_none : (m n : State) (c : ℕ) (ls : List Link) → Steps m (entries.Open c) replies.NoMemory n → Makes (moves.Machine (entries.Open c)) (Replied replies.NoMemory) (world m ls) (world n ls)
opens_none m n c ls steps = (record { admitted = tt; steps = steps; links = refl }, plain_same (world m ls) (world n ls) refl)

new_links : (m : State) (c : ℕ) (ls ks : List Link) (reply : Reply) → was_opened c m ≡ false → ks ≡ ls ++ opened_link c ∷ [] → (reply ≡ replies.NoMemory → ⊥) → LinksBehind m (entries.Open c) reply ls ks
new_links m c ls ks replies.NoMemory fresh e some = absurd (some refl)
new_links m c ls ks reply fresh e some =
    subst (λ (old : Bool). OpensLink old c ls ks) (sym fresh) (opened_link c, record { connection = refl; to = refl; pending = refl; sent = refl }, e)

newest : (c d : ℕ) (ls : List Link) (l : Link) → link_at d ls ≡ None → link_at d (ls ++ opened_link c ∷ []) ≡ Some l → (l.switch.dpid ≡ d) × (l.switch.table ≡ [])
newest c d ls l none there = go (c == d) refl (sym (find-append (λ (k : Link). k.connection == d) ls (opened_link c ∷ []) ∙ ap (λ o. option_or o (link_at d (opened_link c ∷ []))) none) ∙ there)
  where
    go : (own : Bool) → (c == d) ≡ own → cond own (Some (opened_link c)) None ≡ Some l → (l.switch.dpid ≡ d) × (l.switch.table ≡ [])
    go true e is = let same = same_Some (opened_link c) l is in (ap (λ (k : Link). k.switch.dpid) (sym same) ∙ eqb-true c d e, ap (λ (k : Link). k.switch.table) (sym same))
    go false e is = absurd (none-some l is)

-- for the first time
pub opens_new : (m n : State) (c : ℕ) (ls ks : List Link) (reply : Reply) → was_opened c m ≡ false → ks ≡ ls ++ opened_link c ∷ [] → (reply ≡ replies.NoMemory → ⊥) → Steps m (entries.Open c) reply n
    → Makes (moves.Machine (entries.Open c)) (Replied reply) (world m ls) (world n ks)
opens_new m n c ls ks reply fresh e some steps =
    (record { admitted = tt; steps = steps; links = new_links m c ls ks reply fresh e some }, λ d l none there. newest c d ls l none (ap (link_at d) (sym e) ∙ there))

-- ---- a message is heard

hears : (m n : State) (c : ℕ) (x : Message) (ls ks : List Link) (reply : Reply) → CanBeHeard x → Steps m (entries.Heard c (Whole x)) reply n → HearsLink c x (lacks_memory reply) ls ks
    → Makes (moves.Machine (entries.Heard c (Whole x))) (Replied reply) (world m ls) (world n ks)
hears m n c x ls ks reply can steps links =
    (record { admitted = can; steps = steps; links = links }, plain_by (world m ls) (world n ks) (entries.Heard c (Whole x)) reply links (λ d e. cc))

pub hears_free : (m n : State) (c : ℕ) (x : Message) (ls : List Link) (reply : Reply) → CanBeHeard x → Steps m (entries.Heard c (Whole x)) reply n → IsFree x
    → Makes (moves.Machine (entries.Heard c (Whole x))) (Replied reply) (world m ls) (world n ls)
hears_free m n c x ls reply can steps free = hears m n c x ls ls reply can steps (inr (free, refl))

module _ (m n : State) (c at : ℕ) (x : Message) (ls : List Link) (can : CanBeHeard x) (first : IsFirstAt c at x ls) where
  from : IsFirstFrom c x ls
  from = record { link = first.link; there = first.is.found; later = first.first.0; first = first.first.1 }

  pub hears_none : Steps m (entries.Heard c (Whole x)) replies.NoMemory n → Makes (moves.Machine (entries.Heard c (Whole x))) (Replied replies.NoMemory) (world m ls) (world n ls)
  hears_none steps = hears m n c x ls ls replies.NoMemory can steps (inl (from, refl))

  pub hears_first : (ks : List Link) (reply : Reply) → AreOthers ls → ks ≡ set ls at (record (first.link) { switch = unqueued first.link.switch }) → (reply ≡ replies.NoMemory → ⊥) → Steps m (entries.Heard c (Whole x)) reply n
      → Makes (moves.Machine (entries.Heard c (Whole x))) (Replied reply) (world m ls) (world n ks)
  hears_first ks reply others e some steps = hears m n c x ls ks reply can steps (inl (from, go reply some))
    where
      gone : ks ≡ heard_from c ls
      gone = e ∙ set_by c at ls first.link others first.is (λ (l : Link). record l { switch = unqueued l.switch }) refl

      go : (r : Reply) → (r ≡ replies.NoMemory → ⊥) → ks ≡ (if lacks_memory r then ls else heard_from c ls)
      go replies.NoMemory some = absurd (some refl)
      go r some = gone

pub hears_bad : (m n : State) (c : ℕ) (i : Input) (ls : List Link) (reply : Reply) → ((x : Message) → i ≡ Whole x → ⊥) → Admits m (entries.Heard c i) → Steps m (entries.Heard c i) reply n
    → Makes (moves.Machine (entries.Heard c i)) (Replied reply) (world m ls) (world n ls)
hears_bad m n c (Whole x) ls reply other admits steps = absurd (other x refl)
hears_bad m n c (Bad place bad) ls reply other admits steps = (record { admitted = admits; steps = steps; links = refl }, plain_same (world m ls) (world n ls) refl)

pub hears_not : (m : State) (c : ℕ) (x : Message) (ls : List Link) → (IsFirstFrom c x ls → ⊥) → (IsFree x → ⊥) → Makes (moves.Machine (entries.Heard c (Whole x))) NotThere (world m ls) (world m ls)
hears_not m c x ls first free = (refl, λ can. ⊎_elim first free can)

-- ---- messages are taken out

out_bytes : (m n : State) (c : ℕ) (bytes : List ℕ) → TakesMessages c m (replies.Out bytes) n → bytes ≡ flat_map written (messages_for c m)
out_bytes m n c bytes (inl (none, r, e)) = let same : bytes ≡ [] = cc in same ∙ sym (ap (λ o. flat_map written (outbox_of o)) none)
out_bytes m n c bytes (inr (inl (s, t, given, there, takes, r, e))) =
    let same : bytes ≡ given = cc in same ∙ takes.bytes_are ∙ sym (ap (λ o. flat_map written (outbox_of o)) there)
out_bytes m n c bytes (inr (inr (r, e))) = absurd (cc)

pub takes_out : (m n : State) (c : ℕ) (ls ks : List Link) (bytes : List ℕ) → Steps m (entries.TakeOut c) (replies.Out bytes) n → ks ≡ sent_to c (messages_for c m) ls
    → Makes (moves.Machine (entries.TakeOut c)) Done (world m ls) (world n ks)
takes_out m n c ls ks bytes steps e = record {
  admitted = tt;
  steps = subst (λ (bs : List ℕ). Steps m (entries.TakeOut c) (replies.Out bs) n) (out_bytes m n c bytes steps) steps;
  links = e;
}

lacks : (m n : State) (c : ℕ) (reply : Reply) → TakesMessages c m reply n → ((bytes : List ℕ) → reply ≡ replies.Out bytes → ⊥) → reply ≡ replies.NoMemory
lacks m n c reply (inl (none, r, e)) some = absurd (some [] r)
lacks m n c reply (inr (inl (s, t, given, there, takes, r, e))) some = absurd (some given r)
lacks m n c reply (inr (inr (r, e))) some = r

pub takes_none : (m n : State) (c : ℕ) (ls : List Link) (reply : Reply) → Steps m (entries.TakeOut c) reply n → ((bytes : List ℕ) → reply ≡ replies.Out bytes → ⊥)
    → Makes (moves.Machine (entries.TakeOut c)) (Replied reply) (world m ls) (world n ls)
takes_none m n c ls reply steps some =
    let lack = lacks m n c reply steps some in
    (lack, record { admitted = tt; steps = steps; links = subst (λ (r : Reply). LinksBehind m (entries.TakeOut c) r ls ls) (sym lack) refl })

-- by its place: there is no room, the block of messages is put, or the machine lacks memory
module _ (m n : State) (p r : Place) (same : Keeps p r) where
  pub takes_bytes : (bytes : List ℕ) (q : Place) (block : List Message) → Steps m (entries.TakeOut r.connection) (replies.Out bytes) n → block ≡ messages_for r.connection m → q.connection ≡ r.connection
      → to_of q ≡ to_of r ++ block → switch_of q ≡ switch_of r → TakesHere p.connection Done m n (link_of p) (link_of q)
  takes_bytes bytes q block steps is of to switch =
      let to_is : to_of q ≡ to_of p ++ messages_for p.connection m =
      to ∙ ap (λ (ms : List Message). ms ++ block) same.to ∙ ap (λ (b : List Message). to_of p ++ b) (is ∙ ap (λ c. messages_for c m) same.connection) in (
        bytes,
        subst (λ (c : ℕ). Steps m (entries.TakeOut c) (replies.Out bytes) n) same.connection steps,
        λ i. record { connection = (of ∙ same.connection) i; to = to_is i; switch = (switch ∙ same.switch) i },
      )

  pub takes_other : (reply : Reply) → Steps m (entries.TakeOut r.connection) reply n → ((bytes : List ℕ) → reply ≡ replies.Out bytes → ⊥) → TakesHere p.connection (Replied reply) m n (link_of p) (link_of r)
  takes_other reply steps some = (subst (λ (c : ℕ). Steps m (entries.TakeOut c) reply n) same.connection steps, some, kept_link p r same)

-- at the place of the connection
pub takes_here : (m n : State) (c at : ℕ) (ps qs : List Place) (p q : Place) (answer : Moved) → AreOthers (links_of ps) → IsAt c at (links_of ps) (link_of p) → qs ≡ set ps at q
    → TakesHere c answer m n (link_of p) (link_of q) → Makes (moves.Machine (entries.TakeOut c)) answer (world m (links_of ps)) (world n (links_of qs))
takes_here m n c at ps qs p q NoMemory others is e (same, stays) = λ i. world (same i) ((ap links_of e ∙ map-set link_of ps at q ∙ set_same c at (links_of ps) (link_of p) is (link_of q) stays) i)
takes_here m n c at ps qs p q Done others is e (bytes, steps, now_is) =
    takes_out m n c (links_of ps) (links_of qs) bytes steps
    (ap links_of e ∙ map-set link_of ps at q ∙ ap (set (links_of ps) at) now_is ∙ set_by c at (links_of ps) (link_of p) others is (λ (l : Link). record l { to = l.to ++ messages_for c m }) refl)
takes_here m n c at ps qs p q (Replied reply) others is e (steps, some, stays) =
    subst (λ (ks : List Link). Makes (moves.Machine (entries.TakeOut c)) (Replied reply) (world m (links_of ps)) (world n ks))
    (sym (ap links_of e ∙ map-set link_of ps at q ∙ set_same c at (links_of ps) (link_of p) is (link_of q) stays))
    (takes_none m n c (links_of ps) reply steps some)
takes_here m n c at ps qs p q answer others is e h = absurd h

-- where there is no such place
pub takes_gone : (m n : State) (c : ℕ) (ls : List Link) (bytes : List ℕ) → link_at c ls ≡ None → Steps m (entries.TakeOut c) (replies.Out bytes) n
    → Makes (moves.Machine (entries.TakeOut c)) Done (world m ls) (world n ls)
takes_gone m n c ls bytes none steps = takes_out m n c ls ls bytes steps (sym (none_changes c _ ls none))

-- ---- the first message that a switch sent

pub some_sent : (sent : List Message) (m : Message) → BeginsWith m sent → 0 < length sent
some_sent [] m (later, e) = cc
some_sent (s ∷ sent) m (later, e) = omega arith

pub not_first : (c at : ℕ) (ls : List Link) (l : Link) (m : Message) → IsAt c at ls l → (BeginsWith m l.switch.sent → ⊥) → IsFirstFrom c m ls → ⊥
not_first c at ls l m is other first =
    let same = same_Some first.link l (sym first.there ∙ is.found) in
    other (subst (λ (k : Link). BeginsWith m k.switch.sent) same (first.later, first.first))
