-- What an entry does to the links is what it does to each of them.
use Rattle.std.proofs.Common.{◌≡◌, ◌≢◌, ◌⊎◌, ℕ, Bool, true, false, List, [], ◌∷◌, ◌++◌, refl, sym, ap, ◌∙◌, subst, inl, inr, ⊎_elim}
use Rattle.std.specs.Prelude.{◌==◌, if◌then◌else◌, Option, Some, None}
use Rattle.std.specs.Option.{option_map}
use Rattle.std.proofs.lemmas.Bool.{cases_Bool, eqb-true}
use Rattle.std.proofs.lemmas.Option.{same_Some, none-some}
use Rattle.of10_codec.specs.declared.message.Message.{Message}
use Rattle.machine_steps.specs.declared.entry.Entry.{Entry}
use Rattle.machine_steps.specs.declared.entry.Entry.TheVariants as entries
use Rattle.machine_steps.specs.declared.entry.Input.TheVariants.{Message as Whole}
use Rattle.machine_steps.specs.declared.reply.Reply.{Reply}
use Rattle.machine_steps.specs.declared.reply.Reply.TheVariants.{NoMemory}
use Rattle.machine_steps.specs.Machine.{State, was_opened}
use Rattle.machine_steps.proofs.Sound.Zipped.{find_append}
use Rattle.world_steps.specs.Worlds.{Link, HearsLink, IsNew, LinksBehind, OpensLink, at_link, heard_from, lacks_memory, link_at, messages_for, sent_to}
use Rattle.world_stages.specs.FlightLaws.{heard, filled}
use Rattle.world_stages.specs.StageLaws.{HearsOwn, LinkBehind, TakesOwn}
use Rattle.world_right.proofs.Links.{behind_others, behind_there, changed_there, others_there}

-- the link of a connection behind an entry
pub record IsMoved (d : ℕ) (m : State) (entry : Entry) (reply : Reply) (l : Link) (ks : List Link) : Type 0 where
  pub behind : Link
  pub there : link_at d ks ≡ Some behind
  pub moves : LinkBehind d m entry reply l behind

-- a change that leaves each link to its connection
abbrev Keeps : ℕ → (Link → Link) → Type 0
Keeps c f = (l : Link) → l.connection ≡ c → (f l).connection ≡ c

module _ (d : ℕ) (m : State) (ls ks : List Link) where
  changed : (c : ℕ) (f : Link → Link) → Keeps c f → (c == d) ≡ true → ks ≡ at_link c f ls → link_at d ks ≡ option_map f (link_at d ls)
  changed c f keeps own e = ap (link_at d) e ∙ subst (λ n. link_at n (at_link c f ls) ≡ option_map f (link_at n ls)) (eqb-true c d own) (changed_there c f keeps ls)

  beside : (c : ℕ) (f : Link → Link) → Keeps c f → (c == d) ≡ false → ks ≡ at_link c f ls → link_at d ks ≡ link_at d ls
  beside c f keeps other e = ap (link_at d) e ∙ others_there c f keeps d other ls

  -- ---- each link that was there

  module _ (l : Link) (there : link_at d ls ≡ Some l) where
    stays : ks ≡ ls → link_at d ks ≡ Some l
    stays e = ap (link_at d) e ∙ there

    opens : (old : Bool) (c : ℕ) → OpensLink old c ls ks → link_at d ks ≡ Some l
    opens true c e = stays e
    opens false c (n, new, e) = ap (link_at d) e ∙ find_append (λ (k : Link). k.connection == d) ls (n ∷ []) l there

    abbrev IsBehind : (Link → Type 0) → Type 0
    IsBehind P = (k : Link) × (link_at d ks ≡ Some k) × P k

    hears : (c : ℕ) (x : Message) (lacks : Bool) → HearsLink c x lacks ls ks → IsBehind (HearsOwn (c == d) x lacks l)
    hears c x lacks (inl (first, e)) = go (c == d) lacks refl e
      where
        queue : (c == d) ≡ true → l.switch.sent ≡ x ∷ first.later
        queue own = subst (λ (k : Link). k.switch.sent ≡ x ∷ first.later) (same_Some first.link l (sym first.there ∙ ap (λ n. link_at n ls) (eqb-true c d own) ∙ there)) first.first

        go : (own lacks : Bool) → (c == d) ≡ own → ks ≡ (if lacks then ls else heard_from c ls) → IsBehind (HearsOwn own x lacks l)
        go true true own e = (l, stays e, inl (first.later, queue own, refl))
        go true false own e = (heard l, changed c heard (λ k h. h) own e ∙ ap (option_map heard) there, inl (first.later, queue own, refl))
        go false true other e = (l, stays e, refl)
        go false false other e = (l, beside c heard (λ k h. h) other e ∙ there, refl)
    hears c x lacks (inr (free, e)) = go (c == d)
      where
        go : (own : Bool) → IsBehind (HearsOwn own x lacks l)
        go true = (l, stays e, inr (free, refl))
        go false = (l, stays e, refl)

    takes : (c : ℕ) (ms : List Message) (lacks : Bool) → ks ≡ (if lacks then ls else sent_to c ms ls) → IsBehind (TakesOwn (c == d) ms lacks l)
    takes c ms lacks e = go (c == d) lacks refl e
      where
        go : (own lacks : Bool) → (c == d) ≡ own → ks ≡ (if lacks then ls else sent_to c ms ls) → IsBehind (TakesOwn own ms lacks l)
        go true true own e = (l, stays e, refl)
        go true false own e = (filled ms l, changed c (filled ms) (λ k h. h) own e ∙ ap (option_map (filled ms)) there, refl)
        go false true other e = (l, stays e, refl)
        go false false other e = (l, beside c (filled ms) (λ k h. h) other e ∙ there, refl)

    pub moved : (entry : Entry) (reply : Reply) → LinksBehind m entry reply ls ks → IsMoved d m entry reply l ks
    moved (entries.Open c) NoMemory e = record { behind = l; there = stays e; moves = refl }
    moved (entries.Open c) reply h = record { behind = l; there = opens (was_opened c m) c h; moves = refl }
    moved (entries.Heard c (Whole x)) reply h = let (k, at, own) = hears c x (lacks_memory reply) h in record { behind = k; there = at; moves = own }
    moved (entries.TakeOut c) reply e = let (k, at, own) = takes c (messages_for c m) (lacks_memory reply) e in record { behind = k; there = at; moves = own }
    moved entry reply e = record { behind = l; there = stays e; moves = refl }

  -- ---- each link that is there now

  module _ (k : Link) (there : link_at d ks ≡ Some k) where
    abbrev WasThere : Type 0
    WasThere = (l : Link) × (link_at d ls ≡ Some l)

    was_same : ks ≡ ls → WasThere
    was_same e = (k, sym (ap (link_at d) e) ∙ there)

    was_changed : (c : ℕ) (f : Link → Link) → Keeps c f → ks ≡ at_link c f ls → WasThere
    was_changed c f keeps e = ⊎_elim own (λ other. (k, sym (beside c f keeps other e) ∙ there)) (cases_Bool (c == d))
      where
        some_before : (o : Option Link) → link_at d ls ≡ o → option_map f o ≡ Some k → WasThere
        some_before None is f = absurd (none-some k f)
        some_before (Some l) is f = (l, is)

        own : (c == d) ≡ true → WasThere
        own h = some_before (link_at d ls) refl (sym (changed c f keeps h e) ∙ there)

    was_heard : (c : ℕ) (x : Message) (lacks : Bool) → HearsLink c x lacks ls ks → WasThere
    was_heard c x true (inl (first, e)) = was_same e
    was_heard c x false (inl (first, e)) = was_changed c heard (λ l h. h) e
    was_heard c x lacks (inr (free, e)) = was_same e

    was_taken : (c : ℕ) (ms : List Message) (lacks : Bool) → ks ≡ (if lacks then ls else sent_to c ms ls) → WasThere
    was_taken c ms true e = was_same e
    was_taken c ms false e = was_changed c (filled ms) (λ l h. h) e

    was_opened_now : (c : ℕ) (old : Bool) → OpensLink old c ls ks → WasThere ⊎ (c ≡ d)
    was_opened_now c true e = inl (was_same e)
    was_opened_now c false (n, new, e) =
        ⊎_elim (λ own. inr (sym new.connection ∙ eqb-true n.connection d own)) (λ other. inl (k, sym (ap (link_at d) e ∙ behind_others ls n d other) ∙ there)) (cases_Bool (n.connection == d))

    -- it was there, or this is the entry that opens its connection
    abbrev CameBy : Entry → Reply → Type 0
    CameBy entry reply = WasThere ⊎ ((entry ≡ entries.Open d) × (reply ≢ NoMemory))

    pub came : (entry : Entry) (reply : Reply) → LinksBehind m entry reply ls ks → CameBy entry reply
    came (entries.Open c) NoMemory e = inl (was_same e)
    came (entries.Open c) reply h = ⊎_elim (λ was. inl was) (λ same. inr (ap entries.Open same, λ lacked. absurd (cc))) (was_opened_now c (was_opened c m) h)
    came (entries.Heard c (Whole x)) reply h = inl (was_heard c x (lacks_memory reply) h)
    came (entries.TakeOut c) reply e = inl (was_taken c (messages_for c m) (lacks_memory reply) e)
    came entry reply e = inl (was_same e)

  -- a connection that is opened
  pub newcomer : (reply : Reply) → reply ≢ NoMemory → was_opened d m ≡ false → link_at d ls ≡ None → LinksBehind m (entries.Open d) reply ls ks → (n : Link) × IsNew d n × (link_at d ks ≡ Some n)
  newcomer NoMemory some fresh none h = absurd (some refl)
  newcomer reply some fresh none h = new_link (was_opened d m) fresh h
    where
      new_link : (old : Bool) → old ≡ false → OpensLink old d ls ks → (n : Link) × IsNew d n × (link_at d ks ≡ Some n)
      new_link true e h = absurd (cc)
      new_link false e (n, is, same) = (n, is, ap (link_at d) same ∙ subst (λ c. link_at c ls ≡ None → link_at c (ls ++ n ∷ []) ≡ Some n) is.connection (behind_there ls n) none)
