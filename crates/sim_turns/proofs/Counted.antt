-- How many sessions are open: none opens but by an Open.
use Rattle.std.proofs.Common.{◌≡◌, ℕ, zero, suc, ◌+◌, ◌<◌, ◌≤◌, Bool, true, false, List, [], ◌∷◌, length, refl, sym, ap, ◌∙◌, subst, arith}
use Rattle.std.specs.Prelude.{if◌then◌else◌, Option, Some, None, is_some}
use Rattle.std.specs.List.{slice_get}
use Rattle.std.proofs.lemmas.Option.{none-some, same_Some}
use Rattle.device_port.specs.Devices.{Meaning}
use Rattle.machine_steps.specs.declared.entry.Entry.{Entry}
use Rattle.machine_steps.specs.declared.entry.Entry.TheVariants as entries
use Rattle.machine_steps.specs.declared.reply.Reply.{Reply}
use Rattle.machine_steps.specs.Histories.{IsTurn}
use Rattle.machine_steps.specs.Machine.{Session, State, session_at}
use Rattle.machine_steps.specs.Sound.{IsSound}
use Rattle.sim_steps.specs.Benches.{Bench, is_plugged}
use Rattle.sim_steps.specs.Deeds.{Deed, Event, Runs, entry_in, reply_in}
use Rattle.sim_steps.specs.Deeds.Deed.{Enters, Calls}
use Rattle.sim_steps.specs.Parts.{asked_of, asks, is_asked}
use Rattle.sim_steps.specs.Stretches.{Carried}
use Rattle.sim_steps.proofs.Turned.{is_turn}
use Rattle.machine_desk.specs.Hearing.{is_live}
use Rattle.sim_channels.specs.Channels.{Fits, bench}
use Rattle.machine_desk.specs.Driving.{DrivingLaws}
use Rattle.sim_channels.specs.declared.channel.Channel.{Channel}
use Rattle.sim_channels.specs.declared.driver.Driver.{Driver}
use Rattle.sim_channels.proofs.Keeping.{reached_sound}
use Rattle.sim_channels.proofs.Kept.{staged_at}
use Rattle.sim_turns.specs.Taking.{plugged_count}

-- ---- counts

-- an open session was open before
abbrev pub NoneOpens : List Channel → List Channel → Type 0
NoneOpens ks ls = (n : ℕ) (k l : Channel) → slice_get ks n ≡ Some k → slice_get ls n ≡ Some l → is_live l.inbound.stage ≡ true → is_live k.inbound.stage ≡ true

one_by : Bool → ℕ
one_by b = if b then 1 else 0

one_less : (a b : Bool) → (b ≡ true → a ≡ true) → one_by b ≤ one_by a
unfolding one_by
one_less true true h = omega arith
one_less true false h = omega arith
one_less false true h = (let f : false ≡ true = h refl in absurd (cc))
one_less false false h = omega arith

counted : (k : Channel) (ks : List Channel) → plugged_count (k ∷ ks) ≡ one_by (is_live k.inbound.stage) + plugged_count ks
unfolding one_by
counted k ks = refl

pub count_le : (ks ls : List Channel) → length ls ≡ length ks → NoneOpens ks ls → plugged_count ls ≤ plugged_count ks
count_le [] [] long h = omega arith
count_le [] (l ∷ ls) long h = absurd (omega arith)
count_le (k ∷ ks) [] long h = absurd (omega arith)
count_le (k ∷ ks) (l ∷ ls) long h =
    let one = one_less (is_live k.inbound.stage) (is_live l.inbound.stage) (h zero k l refl refl) in
    let more = count_le ks ls (omega arith) (λ n x y e f. h (suc n) x y e f) in
    omega (arith, counted k ks, counted l ls)

one_fewer : (a b : Bool) → a ≡ true → b ≡ false → one_by b < one_by a
unfolding one_by
one_fewer true false e f = omega arith
one_fewer true true e f = absurd (cc)
one_fewer false b e f = absurd (cc)

-- and one was open that isn't now
pub count_lt : (ks ls : List Channel) (at : ℕ) (k l : Channel) → length ls ≡ length ks → NoneOpens ks ls → slice_get ks at ≡ Some k → slice_get ls at ≡ Some l
    → is_live k.inbound.stage ≡ true → is_live l.inbound.stage ≡ false → plugged_count ls < plugged_count ks
count_lt [] ls at k l long h e f open_before shut = absurd (none-some k e)
count_lt (x ∷ ks) [] at k l long h e f open_before shut = absurd (none-some l f)
count_lt (x ∷ ks) (y ∷ ls) zero k l long h e f open_before shut =
    let one =
    one_fewer (is_live x.inbound.stage) (is_live y.inbound.stage) (ap (λ (z : Channel). is_live z.inbound.stage) (same_Some x k e) ∙ open_before)
    (ap (λ (z : Channel). is_live z.inbound.stage) (same_Some y l f) ∙ shut) in
    let more = count_le ks ls (omega arith) (λ n z w g i. h (suc n) z w g i) in
    omega (arith, counted x ks, counted y ls)
count_lt (x ∷ ks) (y ∷ ls) (suc n) k l long h e f open_before shut =
    let one = one_less (is_live x.inbound.stage) (is_live y.inbound.stage) (h zero x y refl refl) in
    let more = count_lt ks ls n k l (omega arith) (λ m z w g i. h (suc m) z w g i) e f open_before shut in
    omega (arith, counted x ks, counted y ls)

-- ---- deeds of which none was asked for

opens_asked : (deed : Deed) (c : ℕ) → is_asked deed ≡ false → entry_in deed ≡ entries.Open c → ⊥
opens_asked (Enters entry reply) c unasked e = (let f : true ≡ false = sym (ap asks e) ∙ unasked in cc)
opens_asked (Calls d call reply) c unasked e = cc

none_asked : (e : Event) (es : List Event) → asked_of (e ∷ es) ≡ [] → (is_asked e.deed ≡ false) × (asked_of es ≡ [])
none_asked e es none = go (is_asked e.deed) none
  where
    go : (b : Bool) → (if b then e ∷ asked_of es else asked_of es) ≡ [] → (b ≡ false) × (asked_of es ≡ [])
    go true f = absurd (cc)
    go false f = (refl, f)

module _ (laws : DrivingLaws) (c : ℕ) where
  was_plugged : (old : State) (entry : Entry) (reply : Reply) (new : State) → IsSound old
      → IsTurn (record { before = old; entry = entry; reply = reply; behind = new })
      → (entry ≡ entries.Open c → ⊥) → is_plugged c new ≡ true → is_plugged c old ≡ true
  was_plugged old entry reply new sound turn other plugged = go (session_at c old) refl (session_at c new) refl
    where
      go : (o : Option Session) → session_at c old ≡ o → (p : Option Session) → session_at c new ≡ p → is_plugged c old ≡ true
      go (Some s) e p f = ap is_some e
      go None e None f = (let g : true ≡ false = sym plugged ∙ ap is_some f in absurd (cc))
      go None e (Some t) f = absurd (other (laws.sessions old entry reply new sound turn.steps c t e f).entry_is)

  plugged_along : (a : Bench) (es : List Event) (b : Bench) → IsSound a.machine → Runs a es b → asked_of es ≡ [] → is_plugged c b.machine ≡ true
      → is_plugged c a.machine ≡ true
  plugged_along a [] b sound e none plugged = ap (λ (x : Bench). is_plugged c x.machine) (sym e) ∙ plugged
  plugged_along a (e ∷ es) b sound (same, happens, rest) none plugged =
      let begins : IsSound e.before.machine = subst (λ (x : Bench). IsSound x.machine) (sym same) sound in
      let turn = is_turn e.before e.deed e.behind happens in
      let unasked = none_asked e es none in
      let goes = laws.keeps e.before.machine (entry_in e.deed) (reply_in e.deed) e.behind.machine begins turn.admitted turn.steps in
      let later = plugged_along e.behind es b goes rest unasked.1 plugged in
      ap (λ (x : Bench). is_plugged c x.machine) (sym same)
      ∙ was_plugged e.before.machine (entry_in e.deed) (reply_in e.deed) e.behind.machine begins turn (opens_asked e.deed c unasked.0) later

-- behind them no more sessions are open
pub carried_count : DrivingLaws → (old new : Driver) (before behind : List Meaning) → Fits old before → Fits new behind → length before ≡ length behind
    → Carried (bench old before) (bench new behind) → plugged_count new.channels.items ≤ plugged_count old.channels.items
carried_count laws old new before behind h k long carried =
    count_le old.channels.items new.channels.items (k.places ∙ sym long ∙ sym h.places)
    (λ n x y e f open_now.
    sym (staged_at old n x h.kept e)
    ∙ plugged_along laws (n + 1) (bench old before) carried.events (bench new behind) (reached_sound laws old.desk.now h.kept.reached) carried.runs
    carried.asked_is
    (staged_at new n y k.kept f ∙ open_now))
