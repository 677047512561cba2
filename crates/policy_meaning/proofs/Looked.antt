-- Cells that were read.
use Rattle.std.proofs.Common.{◌≡◌, Bool, true, false, cond, List, [], ◌∷◌, ◌++◌, refl, sym, ap, ◌∙◌, subst, append_assoc}
use Rattle.std.specs.Prelude.{if◌then◌else◌, ◌==◌, Option, Some, None}
use Rattle.std.specs.Str.{bytes_eq}
use Rattle.std.proofs.lemmas.Bool.{eq-eqb, and_from}
use Rattle.std.proofs.lemmas.Slice.Eq.{bytes_eq-Decides}
use Rattle.maple_base.specs.declared.key.Key.{Key}
use Rattle.maple_base.specs.declared.cells.Cell.{Cell}
use Rattle.maple_base.specs.declared.cells.Cell.TheVariants.{Host, Hop, Up, Num}
use Rattle.maple_base.specs.declared.cells.Value.{Value}
use Rattle.maple_base.specs.declared.decision.Outcome.{Outcome}
use Rattle.policy_meaning.specs.Cells.{same_cell, given, Gives, SomeGives, AreGiven}
use Rattle.policy_meaning.specs.Asking.{Asking}
use Rattle.policy_meaning.specs.Readings.{outcome_in, items_of, cells_of}
use Rattle.policy_meaning.specs.Through.{Seen, looked, settled_cell}
use Rattle.policy_meaning.specs.Notes.{Same, Looked}
use Rattle.policy_meaning.proofs.Settled.{gives_more, gives_fewer}

abbrev Cells : Type 0
Cells = List (Cell × Value)

same_cell_own : (c : Cell) → same_cell c c ≡ true
same_cell_own (Host m) = eq-eqb m m refl
same_cell_own (Hop from to) = and_from (from == from) (to == to) (eq-eqb from from refl) (eq-eqb to to refl)
same_cell_own (Up switch port) = and_from (switch == switch) (port == port) (eq-eqb switch switch refl) (eq-eqb port port refl)
same_cell_own (Num table key) = and_from (bytes_eq table table) (key == key) ((bytes_eq-Decides table table).1 refl) (eq-eqb key key refl)

-- an environment, but for what it has in a cell
with_cell : (Cell → Value) → Cell → Value → Cell → Value
with_cell env c v d = if same_cell c d then v else env d

apart : (b : Bool) (w : Value) (o : Option Value) → cond b (Some w) o ≡ None → (b ≡ false) × (o ≡ None)
apart true w o h = absurd (cc)
apart false w o h = (refl, h)

gives_still : (cs : Cells) (env : Cell → Value) (c : Cell) (v : Value) → given c cs ≡ None → Gives env cs → Gives (with_cell env c v) cs
unfolding with_cell
gives_still [] env c v new g = tt
gives_still (d ∷ cs) env c v new g =
    let q = apart (same_cell c d.0) d.1 (given c cs) new in
    (ap (λ b. if b then v else env d.0) q.0 ∙ g.0, gives_still cs env c v q.1 g.1)

some_more : (cs : Cells) (c : Cell) (v : Value) → given c cs ≡ None → SomeGives cs → SomeGives (cs ++ (c, v) ∷ [])
unfolding with_cell
some_more cs c v new (env, g) =
    let now = with_cell env c v in
    (now, gives_more cs now c v (gives_still cs env c v new g) (ap (λ b. if b then v else env c) (same_cell_own c)))

-- a cell that was read before gives the same
pub looked_before : (k : Key) (s : Seen) (c : Cell) (v : Value) → given c s.cells ≡ Some v → Looked k s c s v
looked_before k s c v h = record {
  some = λ x. x;
  kept = λ env g. g;
  same = λ env g next. subst (λ o. Same k env s (settled_cell o c s next) s (next v s)) (sym h) (record { items = refl; cells = refl; outcome = refl });
}

last_gives : (cs : Cells) (env : Cell → Value) (c : Cell) (v : Value) → Gives env (cs ++ (c, v) ∷ []) → env c ≡ v
last_gives [] env c v g = g.0
last_gives (d ∷ cs) env c v g = last_gives cs env c v g.1

-- one that was not is read, and noted
pub looked_new : (k : Key) (s : Seen) (c : Cell) (v : Value) → given c s.cells ≡ None → Looked k s c (looked s c v) v
looked_new k s c v h = record {
  some = λ x. some_more s.cells c v h x;
  kept = λ env g. gives_fewer s.cells env (c, v) g;
  same = λ env g next.
      let e : env c ≡ v = last_gives s.cells env c v g in
      let d : Asking Outcome = next v (looked s c v) in
      subst (λ o. Same k env s (settled_cell o c s next) (looked s c v) d) (sym h)
      (record {
        items = ap (λ w. s.items ++ items_of (next w (looked s c w)) k env) e;
        cells = ap (λ w. s.cells ++ ((c, w) ∷ cells_of (next w (looked s c w)) k env)) e ∙ sym (append_assoc s.cells ((c, v) ∷ []) (cells_of d k env));
        outcome = ap (λ w. outcome_in (next w (looked s c w)) k env) e;
      });
}

pub given_all : (gave : Cell → Value → Type 0) (cs : Cells) (c : Cell) (v : Value) → AreGiven gave cs → gave c v → AreGiven gave (cs ++ (c, v) ∷ [])
given_all gave [] c v h g = (g, tt)
given_all gave (d ∷ cs) c v h g = (h.0, given_all gave cs c v h.1 g)

pub given_still : (gave now : Cell → Value → Type 0) (cs : Cells) → ((c : Cell) (v : Value) → gave c v → now c v) → AreGiven gave cs → AreGiven now cs
given_still gave now [] f h = tt
given_still gave now (d ∷ cs) f h = (f d.0 d.1 h.0, given_still gave now cs f h.1)
