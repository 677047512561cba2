-- One stretch behind another.
use Rattle.std.proofs.Common.{◌≡◌, ℕ, List, [], ◌∷◌, ◌++◌, append-nil, refl, sym, ap, ◌∙◌, subst, inl, inr}
use Rattle.std.specs.Prelude.{Option, Some, None}
use Rattle.std.specs.List.{AllByRecursion}
use Rattle.std.proofs.lemmas.Grind.{flat_map-append}
use Rattle.std.proofs.lemmas.List.Elements.{filter-append}
use Rattle.script_text.specs.Orders.{Order}
use Rattle.sim_steps.specs.Agreeing.{taken_report, taken_text}
use Rattle.sim_steps.specs.Benches.{Bench, IsSolo}
use Rattle.sim_steps.specs.Deeds.{Event, Runs}
use Rattle.sim_steps.specs.Parts.{FaultsEnd, HadMemory, IsCalm, IsDrained, IsInOrder, IsStill, Obeys, asked_of, failed_in, is_asked}
use Rattle.sim_steps.specs.Stretches.{Carried, Obeyed, Stretch}

-- ---- lists of deeds

pub all_append : {X : Type 0} (P : X → Type 0) (xs ys : List X) → AllByRecursion P xs → AllByRecursion P ys → AllByRecursion P (xs ++ ys)
all_append P [] ys h k = k
all_append P (x ∷ xs) ys h k = (h.0, all_append P xs ys h.1 k)

pub runs_then : (a : Bench) (xs : List Event) (b : Bench) (ys : List Event) (c : Bench) → Runs a xs b → Runs b ys c → Runs a (xs ++ ys) c
runs_then a [] b ys c e k = subst (λ (x : Bench). Runs x ys c) e k
runs_then a (e ∷ es) b ys c (same, happens, rest) k = (same, happens, runs_then e.behind es b ys c rest k)

pub faults_then : (o : Option ℕ) (xs ys : List Event) → FaultsEnd o xs → FaultsEnd None ys → FaultsEnd o (xs ++ ys)
faults_then None [] ys h k = k
faults_then (Some c) [] ys h k = absurd h
faults_then None (e ∷ es) ys h k = (h.0, faults_then (failed_in e.deed) es ys h.1 k)
faults_then (Some c) (e ∷ es) ys (inl (ends, rest)) k = inl (ends, faults_then None es ys rest k)
faults_then (Some c) (e ∷ es) ys (inr (beside, rest)) k = inr (beside, faults_then (Some c) es ys rest k)

pub asked_then : (xs ys : List Event) → asked_of (xs ++ ys) ≡ asked_of xs ++ asked_of ys
asked_then xs ys = filter-append (λ (e : Event). is_asked e.deed) xs ys

pub report_then : (xs ys : List Event) → taken_report (xs ++ ys) ≡ taken_report xs ++ taken_report ys
report_then xs ys = flat_map-append (λ (e : Event). taken_text e.deed) xs ys

-- ---- stretches

pub stretch_empty : (a : Bench) → Stretch [] [] a a
stretch_empty a = record { events = []; runs = refl; asked_is = refl; drained = tt; in_order = tt; memory = tt; faults = tt; text_is = refl }

pub stretch_then : (xs ys : List Event) (s t : List ℕ) (a b c : Bench) → Stretch xs s a b → Stretch ys t b c → Stretch (xs ++ ys) (s ++ t) a c
stretch_then xs ys s t a b c h k = record {
  events = h.events ++ k.events;
  runs = runs_then a h.events b k.events c h.runs k.runs;
  asked_is = asked_then h.events k.events ∙ ap (λ (es : List Event). es ++ asked_of k.events) h.asked_is ∙ ap (λ (es : List Event). xs ++ es) k.asked_is;
  drained = all_append IsDrained xs ys h.drained k.drained;
  in_order = all_append IsInOrder h.events k.events h.in_order k.in_order;
  memory = all_append HadMemory h.events k.events h.memory k.memory;
  faults = faults_then None h.events k.events h.faults k.faults;
  text_is = report_then h.events k.events ∙ ap (λ (bs : List ℕ). bs ++ taken_report k.events) h.text_is ∙ ap (λ (bs : List ℕ). s ++ bs) k.text_is;
}

pub carried_none : (a : Bench) → Carried a a
carried_none a = stretch_empty a

pub carried_then : (a b c : Bench) → Carried a b → Carried b c → Carried a c
carried_then a b c h k = stretch_then [] [] [] [] a b c h k

-- what is carried stands ahead of a stretch, or behind it
pub carried_ahead : (ys : List Event) (t : List ℕ) (a b c : Bench) → Carried a b → Stretch ys t b c → Stretch ys t a c
carried_ahead ys t a b c h k = stretch_then [] ys [] t a b c h k

pub carried_behind : (xs : List Event) (s : List ℕ) (a b c : Bench) → Stretch xs s a b → Carried b c → Stretch xs s a c
carried_behind xs s a b c h k =
    subst (λ (es : List Event). Stretch es s a c) (append-nil xs) (subst (λ (bs : List ℕ). Stretch (xs ++ []) bs a c) (append-nil s) (stretch_then xs [] s [] a b c h k))

-- both benches, as they are otherwise known
pub stretch_between : (xs : List Event) (s : List ℕ) (a b c d : Bench) → a ≡ c → b ≡ d → Stretch xs s a b → Stretch xs s c d
stretch_between xs s a b c d e f h = subst (λ (x : Bench). Stretch xs s x d) e (subst (λ (y : Bench). Stretch xs s a y) f h)

-- ---- orders

pub obeyed : (o : Order) (xs : List Event) (a b : Bench) → Stretch xs [] a b → Obeys o a xs → IsCalm b → (IsSolo b.machine → IsStill b) → Obeyed o a b
obeyed o xs a b h obeys calm still = record {
  events = h.events;
  part = record {
    runs = h.runs;
    obeys = subst (Obeys o a) (sym h.asked_is) obeys;
    drained = subst (AllByRecursion IsDrained) (sym h.asked_is) h.drained;
    in_order = h.in_order;
    memory = h.memory;
    faults = h.faults;
    calm = calm;
    still = still;
  };
  none = h.text_is;
}
