-- The parts of orders, one behind the other.
use Rattle.std.proofs.Common.{◌≡◌, ℕ, List, [], ◌∷◌, ◌++◌, append-nil, append_assoc, refl, sym, ap, ◌∙◌, subst}
use Rattle.std.specs.Prelude.{Option, Some, None}
use Rattle.std.specs.List.{AllByRecursion}
use Rattle.script_text.specs.Orders.{Order}
use Rattle.script_text.specs.Orders.Order.{Nothing}
use Rattle.sim_steps.specs.Benches.{Bench, IsSolo}
use Rattle.sim_steps.specs.Deeds.{Event, Runs}
use Rattle.sim_steps.specs.Parts.{Follows, HadMemory, IsCalm, IsDrained, IsInOrder, IsPart, IsStill, Obeys, asked_of}
use Rattle.sim_steps.specs.Stretches.{Carried, Stretch}
use Rattle.sim_steps.proofs.Joining.{all_append, asked_then, faults_then, runs_then}
use Rattle.sim_driver.specs.Runs.{just, of_part}

-- nothing is left to do that comes of what was asked for
abbrev pub Stands : Bench → Type 0
Stands b = IsCalm b × (IsSolo b.machine → IsStill b)

-- deeds of which none was asked for are a part for no order
pub carried_part : (a b : Bench) → (k : Carried a b) → Stands b → IsPart Nothing a k.events b
carried_part a b k stands = record {
  runs = k.runs;
  obeys = k.asked_is;
  drained = subst (AllByRecursion IsDrained) (sym k.asked_is) tt;
  in_order = k.in_order;
  memory = k.memory;
  faults = k.faults;
  calm = stands.0;
  still = stands.1;
}

pub nothing_part : (a : Bench) → Stands a → IsPart Nothing a [] a
nothing_part a stands =
    record { runs = refl; obeys = refl; drained = tt; in_order = tt; memory = tt; faults = tt; calm = stands.0; still = stands.1 }

-- the parts of these orders, and nothing behind them
abbrev pub Parts : List Order → Bench → List Event → Bench → Type 0
Parts [] a es b = (es ≡ []) × (b ≡ a)
Parts (o ∷ os) a es b = (part rest : List Event) × (between : Bench) × (es ≡ part ++ rest) × IsPart o a part between × Parts os between rest b

pub parts_run : (os : List Order) (a : Bench) (es : List Event) (b : Bench) → Parts os a es b → Runs a es b
parts_run [] a es b (none, same) = subst (λ (xs : List Event). Runs a xs b) (sym none) same
parts_run (o ∷ os) a es b (part, rest, between, is, h, k) =
    subst (λ (xs : List Event). Runs a xs b) (sym is) (runs_then a part between rest b h.runs (parts_run os between rest b k))

module _ (b : Bench) (fs : List Event) (c : Bench) where
  -- the part of one order more
  pub parts_then : (os : List Order) (a : Bench) (es : List Event) (o : Order) → Parts os a es b → IsPart o b fs c → Parts (os ++ o ∷ []) a (es ++ fs) c
  parts_then [] a es o (none, same) h =
      (fs, [], c, ap (λ (xs : List Event). xs ++ fs) none ∙ sym (append-nil fs), subst (λ (x : Bench). IsPart o x fs c) same h, (refl, refl))
  parts_then (q ∷ os) a es o (part, rest, between, is, h, k) i =
      (part, rest ++ fs, between, ap (λ (xs : List Event). xs ++ fs) is ∙ append_assoc part rest fs, h, parts_then os between rest o k i)

  -- the part behind all orders
  parts_end : (os : List Order) (a : Bench) (es : List Event) → Parts os a es b → IsPart Nothing b fs c → Follows os a (es ++ fs) c
  parts_end [] a es (none, same) h =
      subst (λ (xs : List Event). IsPart Nothing a (xs ++ fs) c) (sym none) (subst (λ (x : Bench). IsPart Nothing x fs c) same h)
  parts_end (q ∷ os) a es (part, rest, between, is, h, k) i =
      (part, rest ++ fs, between, ap (λ (xs : List Event). xs ++ fs) is ∙ append_assoc part rest fs, h, parts_end os between rest k i)

pub parts_follow : (os : List Order) (a : Bench) (es : List Event) (b : Bench) → Parts os a es b → Stands b → Follows os a es b
parts_follow os a es b h stands =
    subst (λ (xs : List Event). Follows os a xs b) (append-nil es) (parts_end b [] b os a es h (nothing_part b stands))

-- with a part more, of an order or behind all of them
pub part_follows : (o : Option Order) (os : List Order) (a : Bench) (es : List Event) (b : Bench) (fs : List Event) (c : Bench) → Parts os a es b
    → IsPart (of_part o) b fs c
    → Follows (os ++ just o) a (es ++ fs) c
part_follows None os a es b fs c h k = subst (λ (qs : List Order). Follows qs a (es ++ fs) c) (sym (append-nil os)) (parts_end b fs c os a es h k)
part_follows (Some o) os a es b fs c h k =
    parts_follow (os ++ o ∷ []) a (es ++ fs) c (parts_then b fs c os a es o h k) (k.calm, k.still)

-- what wasn't asked for belongs to the part of the order ahead of it
pub part_longer : (o : Order) (a : Bench) (es : List Event) (b : Bench) (text : List ℕ) (c : Bench) → IsPart o a es b → (k : Stretch [] text b c) → Stands c
    → IsPart o a (es ++ k.events) c
part_longer o a es b text c h k stands =
    let same = asked_then es k.events ∙ ap (λ (xs : List Event). asked_of es ++ xs) k.asked_is ∙ append-nil (asked_of es) in
    record {
      runs = runs_then a es b k.events c h.runs k.runs;
      obeys = subst (Obeys o a) (sym same) h.obeys;
      drained = subst (AllByRecursion IsDrained) (sym same) h.drained;
      in_order = all_append IsInOrder es k.events h.in_order k.in_order;
      memory = all_append HadMemory es k.events h.memory k.memory;
      faults = faults_then None es k.events h.faults k.faults;
      calm = stands.0;
      still = stands.1;
    }
