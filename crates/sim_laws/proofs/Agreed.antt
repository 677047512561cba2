-- Each device agrees with the deeds: for one place, along a run from any slot.
use Rattle.std.proofs.Common.{◌≡◌, ℕ, true, false, List, [], ◌∷◌, ◌++◌, append-nil, refl, sym, ap, ◌∙◌, subst, inl, inr}
use Rattle.std.specs.Prelude.{map, Option, Some, None, is_some}
use Rattle.std.specs.List.{flat_map}
use Rattle.std.proofs.lemmas.Grind.{flat_map-append}
use Rattle.std.proofs.lemmas.List.{append_assoc, map-append}
use Rattle.std.proofs.lemmas.Option.{same_Some}
use Rattle.of10_codec.specs.Written.{written}
use Rattle.of10_stream.specs.declared.reassembly.Next.{Next}
use Rattle.of10_stream.specs.declared.reassembly.Next.TheVariants as next
use Rattle.of10_stream.specs.Cut.{IsBad}
use Rattle.of10_stream.specs.Steps.{Answers, AnswersBehind, Stream, appended, fed}
use Rattle.device_port.specs.Devices.{Call}
use Rattle.machine_steps.specs.declared.entry.Input.{Input}
use Rattle.machine_steps.specs.declared.entry.Input.TheVariants.{Message as Whole, Bad}
use Rattle.machine_steps.specs.Laws.{KeepsSound, OpensSound}
use Rattle.machine_steps.specs.Machine.{Session, State, is_of, session_at, was_opened}
use Rattle.machine_steps.specs.Sound.{IsInOrder, IsSound}
use Rattle.machine_steps.proofs.Sound.Zipped.{find_all, find_passes}
use Rattle.machine_moves.specs.MoveLaws.{ConnectionsOpen, SessionsOpen}
use Rattle.machine_moves.proofs.Found.{its_connection}
use Rattle.sim_steps.specs.Agreeing.{AreCut, appended_by, appended_of, call_in, calls_of, heard_in, heard_of, logged, sent_in, sent_of, taken_by}
use Rattle.sim_steps.specs.Benches.{Bench, Slot, is_plugged, opening_bench, slot_at}
use Rattle.sim_steps.specs.Deeds.{Event, Happens, NextIs, Runs, entry_in, reply_in}
use Rattle.sim_steps.proofs.Turned.{is_turn}
use Rattle.sim_laws.specs.Laws.{AgreeLaw}
use Rattle.sim_laws.proofs.Changes.{EndsBy, Feeds, Flows, Hears, IsQuiet, deed_changes, logged_nothing}
use Rattle.sim_laws.proofs.Places.{opening_slot}

-- ---- what holds along a run, for one place

-- its calls and its messages
record Stands (c : ℕ) (es : List Event) (s t : Slot) : Type 0 where
  log : t.device.log ≡ logged (calls_of c es) s.device.log
  sent : map written s.to ++ map written (sent_of c es) ≡ flat_map taken_by (calls_of c es) ++ map written t.to

-- nothing more comes from there
record IsOver (c : ℕ) (es : List Event) (s t : Stream) : Type 0 where
  heard : heard_of c es ≡ []
  appends : appended_of c es ≡ []
  same : t ≡ s

abbrev Cuts : ℕ → List Event → Stream → Stream → Type 0
Cuts c es s t = AreCut s.place (heard_of c es) (s.rest ++ appended_of c es) t.rest

-- ---- calls and messages

logged_more : (xs ys : List Call) (log : Option (List Call)) → logged (xs ++ ys) log ≡ logged ys (logged xs log)
logged_more xs ys None = refl
logged_more xs ys (Some calls) = ap Some (sym (append_assoc calls xs ys))

stands_along : (c : ℕ) (a : Bench) (es : List Event) (b : Bench) → Runs a es b → (s t : Slot) → slot_at c a.slots ≡ Some s → slot_at c b.slots ≡ Some t → Stands c es s t
stands_along c a [] b e s t first last =
    let same : t ≡ s = same_Some t s (sym last ∙ ap (λ (x : Bench). slot_at c x.slots) e ∙ first) in
    record {
      log = ap (λ (x : Slot). x.device.log) same ∙ logged_nothing s.device.log;
      sent = append-nil (map written s.to) ∙ ap (λ (x : Slot). map written x.to) (sym same);
    }
stands_along c a (e ∷ es) b (same, happens, rest) s t first last =
    let h = deed_changes c e.deed e.before e.behind s (ap (λ (x : Bench). slot_at c x.slots) same ∙ first) happens in
    let u = h.behind in
    let later = stands_along c e.behind es b rest u t h.there last in
    let now = sent_in c e.before.machine e.deed in
    let calls = call_in c e.deed in
    record {
      log = later.log ∙ ap (logged (calls_of c es)) h.changes.log ∙ sym (logged_more calls (calls_of c es) s.device.log);
      sent =
          ap (λ ms. map written s.to ++ ms) (map-append written now (sent_of c es))
          ∙ sym (append_assoc (map written s.to) (map written now) (map written (sent_of c es)))
          ∙ ap (λ ms. ms ++ map written (sent_of c es)) h.changes.sent
          ∙ append_assoc (flat_map taken_by calls) (map written u.to) (map written (sent_of c es))
          ∙ ap (λ ms. flat_map taken_by calls ++ ms) later.sent
          ∙ sym (append_assoc (flat_map taken_by calls) (flat_map taken_by (calls_of c es)) (map written t.to))
          ∙ ap (λ ms. ms ++ map written t.to) (sym (flat_map-append taken_by calls (calls_of c es)));
    }

-- ---- what is heard

-- what a deed appends stands ahead of the rest
appended_more : (c : ℕ) (e : Event) (es : List Event) (bytes : List ℕ) → flat_map appended_by (call_in c e.deed) ≡ bytes → appended_of c (e ∷ es) ≡ bytes ++ appended_of c es
appended_more c e es bytes are = flat_map-append appended_by (call_in c e.deed) (calls_of c es) ∙ ap (λ bs. bs ++ appended_of c es) are

heard_more : (c : ℕ) (e : Event) (es : List Event) (inputs : List Input) → heard_in c e.deed ≡ inputs → heard_of c (e ∷ es) ≡ inputs ++ heard_of c es
heard_more c e es inputs are = ap (λ is. is ++ heard_of c es) are

recut : (p q : ℕ) (is js : List Input) (xs ys : List ℕ) (rest : List ℕ) → p ≡ q → is ≡ js → xs ≡ ys → AreCut p is xs rest → AreCut q js ys rest
recut p q is js xs ys rest f g h cut =
    subst (λ n. AreCut n js ys rest) f (subst (λ ks. AreCut p ks ys rest) g (subst (λ zs. AreCut p is zs rest) h cut))

none_plugged : (c : ℕ) (m : State) → session_at c m ≡ None → is_plugged c m ≡ true → ⊥
none_plugged c m none plugged = let f : true ≡ false = sym plugged ∙ ap is_some none in cc

-- an unbroken stream gets longer
fed_whole : (s : Stream) (bytes : List ℕ) → s.broken ≡ None → fed bytes s ≡ record s { rest = s.rest ++ bytes }
fed_whole s bytes unbroken = ap (λ broken. appended broken bytes s) unbroken

answers_so : (s t : Stream) (n : Next) → s.broken ≡ None → AnswersBehind s.broken n s t → Answers n s t
answers_so s t n unbroken h = subst (λ broken. AnswersBehind broken n s t) unbroken h

-- what other crates prove
pub record AgreeLaws : Type 0 where
  pub opens : OpensSound
  pub keeps : KeepsSound
  pub sessions : SessionsOpen
  pub connections : ConnectionsOpen

-- a connection was opened and is closed
record IsShut (c : ℕ) (m : State) : Type 0 where
  none : session_at c m ≡ None
  was : was_opened c m ≡ true

plugged_opened : (c : ℕ) (m : State) → IsSound m → is_plugged c m ≡ true → was_opened c m ≡ true
plugged_opened c m h plugged = go (session_at c m) refl
  where
    go : (o : Option Session) → session_at c m ≡ o → was_opened c m ≡ true
    go None e = absurd (none_plugged c m e plugged)
    go (Some s) e =
        ap (λ k. was_opened k m) (sym (its_connection c s (find_passes (is_of c) m.sessions s e))) ∙ (find_all (IsInOrder m) (is_of c) m.sessions s h.sessions e).opened

module _ (laws : AgreeLaws) (c : ℕ) where
  sound_on : (e : Event) → Happens e → IsSound e.before.machine → IsSound e.behind.machine
  sound_on e happens h =
      let turn = is_turn e.before e.deed e.behind happens in
      laws.keeps e.before.machine (entry_in e.deed) (reply_in e.deed) e.behind.machine h turn.admitted turn.steps

  opened_on : (e : Event) → Happens e → was_opened c e.before.machine ≡ true → was_opened c e.behind.machine ≡ true
  opened_on e happens was =
      let turn = is_turn e.before e.deed e.behind happens in
      (laws.connections e.before.machine (entry_in e.deed) (reply_in e.deed) e.behind.machine turn.steps).stay c was

  shut_on : (e : Event) → Happens e → IsSound e.before.machine → IsShut c e.before.machine → IsShut c e.behind.machine
  shut_on e happens h shut = record { none = go (session_at c e.behind.machine) refl; was = opened_on e happens shut.was }
    where
      go : (o : Option Session) → session_at c e.behind.machine ≡ o → session_at c e.behind.machine ≡ None
      go None f = f
      go (Some s) f =
          let turn = is_turn e.before e.deed e.behind happens in
          let opened = laws.sessions e.before.machine (entry_in e.deed) (reply_in e.deed) e.behind.machine h turn.steps c s shut.none f in
          let g : false ≡ true = sym opened.new_one ∙ shut.was in
          absurd (cc)

  -- ---- behind the end of the session

  over_next : (e : Event) (es : List Event) (s u t : Stream) → IsShut c e.before.machine → Flows c e.before.machine e.deed e.behind.machine s u → IsOver c es u t → IsOver c (e ∷ es) s t
  over_next e es s u t shut (inl q) later = record {
    heard = heard_more c e es [] q.heard ∙ later.heard;
    appends = appended_more c e es [] q.calls ∙ later.appends;
    same = later.same ∙ q.same;
  }
  over_next e es s u t shut (inr (inl f)) later = absurd (none_plugged c e.before.machine shut.none f.plugged)
  over_next e es s u t shut (inr (inr h)) later = absurd (none_plugged c e.before.machine shut.none h.plugged)

  over_along : (a : Bench) (es : List Event) (b : Bench) → Runs a es b → IsSound a.machine → IsShut c a.machine → (s t : Slot) → slot_at c a.slots ≡ Some s → slot_at c b.slots ≡ Some t
      → IsOver c es s.from t.from
  over_along a [] b e sound shut s t first last =
      record { heard = refl; appends = refl; same = ap (λ (x : Slot). x.from) (same_Some t s (sym last ∙ ap (λ (x : Bench). slot_at c x.slots) e ∙ first)) }
  over_along a (e ∷ es) b (same, happens, rest) sound shut s t first last =
      let h = deed_changes c e.deed e.before e.behind s (ap (λ (x : Bench). slot_at c x.slots) same ∙ first) happens in
      let sound_before = subst (λ (x : Bench). IsSound x.machine) (sym same) sound in
      let shut_before = subst (λ (x : Bench). IsShut c x.machine) (sym same) shut in
      let later = over_along e.behind es b rest (sound_on e happens sound_before) (shut_on e happens sound_before shut_before) h.behind t h.there last in
      over_next e es s.from h.behind.from t.from shut_before h.changes.flows later

  -- ---- ahead of it

  -- what the later deeds cut, where the stream is unbroken, and where the session has ended
  record Later (e : Event) (es : List Event) (u t : Stream) : Type 0 where
    cuts : u.broken ≡ None → Cuts c es u t
    over : IsShut c e.behind.machine → IsOver c es u t

  cuts_quiet : (e : Event) (es : List Event) (s u t : Stream) → s.broken ≡ None → IsQuiet c e.deed s u → Later e es u t → Cuts c (e ∷ es) s t
  cuts_quiet e es s u t unbroken q later =
      recut u.place s.place (heard_of c es) (heard_of c (e ∷ es)) (u.rest ++ appended_of c es) (s.rest ++ appended_of c (e ∷ es)) t.rest
      (ap (λ (x : Stream). x.place) q.same) (sym (heard_more c e es [] q.heard))
      (ap (λ (x : Stream). x.rest ++ appended_of c es) q.same ∙ ap (λ bs. s.rest ++ bs) (sym (appended_more c e es [] q.calls)))
      (later.cuts (ap (λ (x : Stream). x.broken) q.same ∙ unbroken))

  cuts_fed : (e : Event) (es : List Event) (s u t : Stream) → s.broken ≡ None → Feeds c e.before.machine e.deed s u → Later e es u t → Cuts c (e ∷ es) s t
  cuts_fed e es s u t unbroken f later =
      let is : u ≡ record s { rest = s.rest ++ f.bytes } = f.feeds ∙ fed_whole s f.bytes unbroken in
      recut u.place s.place (heard_of c es) (heard_of c (e ∷ es)) (u.rest ++ appended_of c es) (s.rest ++ appended_of c (e ∷ es)) t.rest
      (ap (λ (x : Stream). x.place) is) (sym (heard_more c e es [] f.heard))
      (ap (λ (x : Stream). x.rest ++ appended_of c es) is ∙ append_assoc s.rest f.bytes (appended_of c es)
      ∙ ap (λ bs. s.rest ++ bs) (sym (appended_more c e es f.bytes f.calls)))
      (later.cuts (ap (λ (x : Stream). x.broken) is ∙ unbroken))

  -- a message is taken from the stream, or a fault ends it
  cuts_heard : (e : Event) (es : List Event) (s u t : Stream) (input : Input) → IsSound e.before.machine → Happens e → s.broken ≡ None
      → (h : Hears c e.before.machine e.deed e.behind.machine s u) → h.input ≡ input → Later e es u t → AreCut s.place (input ∷ heard_of c es) (s.rest ++ appended_of c es) t.rest
  cuts_heard e es s u t (Whole x) sound happens unbroken h is later =
      let takes = answers_so s u (next.Message x) unbroken (subst (λ i. NextIs i s u) is h.next) in (
        takes.front,
        u.rest ++ appended_of c es,
        ap (λ bs. bs ++ appended_of c es) takes.parts ∙ append_assoc takes.front u.rest (appended_of c es),
        takes.spelled,
        subst (λ p. AreCut p (heard_of c es) (u.rest ++ appended_of c es) t.rest) takes.place_after (later.cuts takes.unbroken),
      )
  cuts_heard e es s u t (Bad place bad) sound happens unbroken h is later =
      let (at, fault, broken_now) = answers_so s u (next.Bad place bad) unbroken (subst (λ i. NextIs i s u) is h.next) in
      let ends : session_at c e.behind.machine ≡ None = subst (λ i. EndsBy i c e.behind.machine) is h.ends in
      let over = later.over (record { none = ends; was = opened_on e happens (plugged_opened c e.before.machine sound h.plugged) }) in
      let whole : s.rest ≡ s.rest ++ appended_of c es = sym (ap (λ bs. s.rest ++ bs) over.appends ∙ append-nil s.rest) in
      (at, subst (IsBad bad) whole fault, over.heard, ap (λ (x : Stream). x.rest) (over.same ∙ broken_now) ∙ whole)

  cuts_next : (e : Event) (es : List Event) (s u t : Stream) → IsSound e.before.machine → Happens e → s.broken ≡ None → Flows c e.before.machine e.deed e.behind.machine s u → Later e es u t
      → Cuts c (e ∷ es) s t
  cuts_next e es s u t sound happens unbroken (inl q) later = cuts_quiet e es s u t unbroken q later
  cuts_next e es s u t sound happens unbroken (inr (inl f)) later = cuts_fed e es s u t unbroken f later
  cuts_next e es s u t sound happens unbroken (inr (inr h)) later =
      recut s.place s.place (h.input ∷ heard_of c es) (heard_of c (e ∷ es)) (s.rest ++ appended_of c es) (s.rest ++ appended_of c (e ∷ es)) t.rest refl
      (sym (heard_more c e es (h.input ∷ []) h.heard)) (ap (λ bs. s.rest ++ bs) (sym (appended_more c e es [] h.calls)))
      (cuts_heard e es s u t h.input sound happens unbroken h refl later)

  cuts_along : (a : Bench) (es : List Event) (b : Bench) → Runs a es b → IsSound a.machine → (s t : Slot) → slot_at c a.slots ≡ Some s → slot_at c b.slots ≡ Some t → s.from.broken ≡ None
      → Cuts c es s.from t.from
  cuts_along a [] b e sound s t first last unbroken =
      ap (λ (x : Slot). x.from.rest) (same_Some t s (sym last ∙ ap (λ (x : Bench). slot_at c x.slots) e ∙ first)) ∙ sym (append-nil s.from.rest)
  cuts_along a (e ∷ es) b (same, happens, rest) sound s t first last unbroken =
      let h = deed_changes c e.deed e.before e.behind s (ap (λ (x : Bench). slot_at c x.slots) same ∙ first) happens in
      let sound_before = subst (λ (x : Bench). IsSound x.machine) (sym same) sound in
      let sound_behind = sound_on e happens sound_before in
      cuts_next e es s.from h.behind.from t.from sound_before happens unbroken h.changes.flows (record {
        cuts = λ whole. cuts_along e.behind es b rest sound_behind h.behind t h.there last whole;
        over = λ shut. over_along e.behind es b rest sound_behind shut h.behind t h.there last;
      })

-- ---- from the opening

-- a place stays there
stays_there : (c : ℕ) (a : Bench) (es : List Event) (b : Bench) → Runs a es b → (s : Slot) → slot_at c a.slots ≡ Some s → (t : Slot) × (slot_at c b.slots ≡ Some t)
stays_there c a [] b e s first = (s, ap (λ (x : Bench). slot_at c x.slots) e ∙ first)
stays_there c a (e ∷ es) b (same, happens, rest) s first =
    let h = deed_changes c e.deed e.before e.behind s (ap (λ (x : Bench). slot_at c x.slots) same ∙ first) happens in
    stays_there c e.behind es b rest h.behind h.there

pub agree_law : AgreeLaws → AgreeLaw
agree_law laws policy settings devices es b ranges runs c s first =
    let a = opening_bench policy settings devices in
    let (t, last) = stays_there c a es b runs s first in
    let (d, is) = opening_slot devices c s first in
    let sound = laws.opens policy settings ranges in
    let stands = stands_along c a es b runs s t first last in
    let cut = cuts_along laws c a es b runs sound s t first last (ap (λ (x : Slot). x.from.broken) is) in (
      t,
      last,
      record {
        log = stands.log;
        sent = ap (λ (x : Slot). map written x.to ++ map written (sent_of c es)) (sym is) ∙ stands.sent;
        heard = subst (λ (x : Stream). AreCut x.place (heard_of c es) (x.rest ++ appended_of c es) t.from.rest) (ap (λ (x : Slot). x.from) is) cut;
      },
    )
