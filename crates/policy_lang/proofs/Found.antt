-- Loops over expressions and statements whose names and types are looked at.
use Rattle.std.proofs.Common.{◌≡◌, ℕ, ◌+◌, ◌<◌, ◌≤◌, Bool, true, false, cond, List, [], ◌∷◌, ◌++◌, take, drop, length, get_or, append_assoc, refl, sym, ap, ◌∙◌, subst, arith}
use Rattle.std.specs.Prelude.{Option, Some, None, is_some}
use Rattle.std.proofs.lemmas.List.{drop_all, append-nil}
use Rattle.std.proofs.Math.Seq.{take-append_seam}
use Rattle.policy_lang.specs.declared.Expr.{Expr}
use Rattle.policy_lang.specs.declared.Statement.{Statement}
use Rattle.policy_lang.specs.declared.types.Found.{Found}
use Rattle.policy_lang.specs.Tree.{Term, Ask, Binds, Holds, Act, Acts}
use Rattle.policy_lang.specs.TreeOf.{term_of, terms_of, act_of, acts_of, if_or_else}
use Rattle.policy_lang.specs.Sizes.{size_of, sizes_of, ask_size, act_size, acts_size, else_size}
use Rattle.policy_lang.specs.Faults.{Fault, Names, Meaning, Type_, type_faults, expr_faults, NumberType, TruthType, Variable, bound_type, names_behind, names_after, operand_faults, numbers_faults, ask_faults, act_faults, acts_faults, Site, first_by, meaning_of, with_name}
use Rattle.policy_lang.specs.Walks.{merged_by, told}
use Rattle.policy_lang.specs.Found.{IsInner, IsFound, AreTwoFound, else_faults, if_faults}
use Rattle.policy_lang.proofs.LeftOver.{rest_of}
use Rattle.policy_lang.proofs.Order.{merged_none, merged_append, first_both, first_three, first_parts}

-- what was found so far, and what is wrong in the expressions left
pub record NumbersFound (place : Site → ℕ) (es : List Expr) (names : Names) (n : ℕ) (left : List Expr) (found : Option Fault) (next : ℕ) : Type 0 where
  pub fault : merged_by place found (first_by place (numbers_faults (terms_of left) names next)) ≡ first_by place (numbers_faults (terms_of es) names n)
  pub size : next + sizes_of (terms_of left) ≡ n + sizes_of (terms_of es)

pub exprs_found : (place : Site → ℕ) (es : List Expr) (names : Names) (n : ℕ) → NumbersFound place es names n (drop 0 es) None n
exprs_found place es names n = record { fault = refl; size = refl }

pub exprs_fit : (place : Site → ℕ) (es : List Expr) (names : Names) (n i : ℕ) (e : Expr) (found : Option Fault) (next : ℕ) → i < length es → e ≡ get_or es i e → NumbersFound place es names n (drop i es) found next
    → next + size_of (term_of e) ≤ n + sizes_of (terms_of es)
exprs_fit place es names n i e found next h q left =
    let before = subst (λ l. NumbersFound place es names n l found next) (rest_of es i e h q) left in
    let z = before.size in omega arith

pub exprs_more : (place : Site → ℕ) (es : List Expr) (names : Names) (n i : ℕ) (e : Expr) (found new : Option Fault) (next after : ℕ) → i < length es → e ≡ get_or es i e → NumbersFound place es names n (drop i es) found next
    → new ≡ merged_by place found (first_by place (operand_faults NumberType (term_of e) names next)) → after ≡ next + size_of (term_of e) → NumbersFound place es names n (drop (i + 1) es) new after
exprs_more place es names n i e found new next after h q left new_is after_is =
    let before = subst (λ l. NumbersFound place es names n l found next) (rest_of es i e h q) left in
    let others : ℕ → List Fault = λ m. numbers_faults (terms_of (drop (i + 1) es)) names m in
    record {
      fault = ap (λ o. merged_by place o (first_by place (others after))) new_is
          ∙ ap (λ m. merged_by place (merged_by place found (first_by place (operand_faults NumberType (term_of e) names next))) (first_by place (others m))) after_is
          ∙ sym (merged_append place found (operand_faults NumberType (term_of e) names next) (others (next + size_of (term_of e))))
          ∙ before.fault;
      size = let z = before.size in omega arith;
    }

pub exprs_last : (place : Site → ℕ) (es : List Expr) (names : Names) (n i : ℕ) (found : Option Fault) (next : ℕ) → length es ≤ i → NumbersFound place es names n (drop i es) found next
    → (found ≡ first_by place (numbers_faults (terms_of es) names n)) × (next ≡ n + sizes_of (terms_of es))
exprs_last place es names n i found next h left =
    let done = subst (λ l. NumbersFound place es names n l found next) (drop_all i es h) left in
    (sym (merged_none place found) ∙ done.fault, let z = done.size in omega arith)

-- ---- names

pub inner_none : (names : Names) → IsInner names names
inner_none names = record { declared = []; is = sym (append-nil names) }

pub inner_same : (new old : Names) → new ≡ old → IsInner new old
inner_same new old e = subst (λ l. IsInner l old) (sym e) (inner_none old)

pub inner_named : (x : List ℕ) (m : Meaning) (names : Names) → IsInner (with_name x m names) names
inner_named x m names = by (is_some (meaning_of x names))
  where
    by : (b : Bool) → IsInner (cond b names (names ++ (x, m) ∷ [])) names
    by true = inner_none names
    by false = record { declared = (x, m) ∷ []; is = refl }

pub inner_trans : (a b c : Names) → IsInner a b → IsInner b c → IsInner a c
inner_trans a b c h k = record { declared = k.declared ++ h.declared; is = h.is ∙ ap (λ l. l ++ h.declared) k.is ∙ append_assoc c k.declared h.declared }

-- what was in force ahead of a block's own names stands first
front_of : (inner outer : Names) → IsInner inner outer → take (length outer) inner ≡ outer
front_of inner outer h = ap (take (length outer)) h.is ∙ take-append_seam outer h.declared

-- ---- statements

-- what was found so far, and what is wrong in the statements left, where these names are in force
pub record AllFound (place : Site → ℕ) (ss : List Statement) (outer : Names) (n : ℕ) (left : List Statement) (names : Names) (found : Option Fault) (next : ℕ) : Type 0 where
  pub fault : merged_by place found (first_by place (acts_faults (acts_of left) names next)) ≡ first_by place (acts_faults (acts_of ss) outer n)
  pub size : next + acts_size (acts_of left) ≡ n + acts_size (acts_of ss)
  pub inner : IsInner names outer

pub all_found : (place : Site → ℕ) (ss : List Statement) (names : Names) (n : ℕ) → AllFound place ss names n (drop 0 ss) names None n
all_found place ss names n = record { fault = refl; size = refl; inner = inner_none names }

pub all_fit : (place : Site → ℕ) (ss : List Statement) (outer names : Names) (n i : ℕ) (s : Statement) (found : Option Fault) (next : ℕ) → i < length ss → s ≡ get_or ss i s → AllFound place ss outer n (drop i ss) names found next
    → next + act_size (act_of s) ≤ n + acts_size (acts_of ss)
all_fit place ss outer names n i s found next h q left =
    let before = subst (λ l. AllFound place ss outer n l names found next) (rest_of ss i s h q) left in
    let z = before.size in omega arith

pub all_more_found : (place : Site → ℕ) (ss : List Statement) (outer names after_names : Names) (n i : ℕ) (s : Statement) (found new : Option Fault) (next after : ℕ) → i < length ss → s ≡ get_or ss i s
    → AllFound place ss outer n (drop i ss) names found next
    → new ≡ merged_by place found (first_by place (act_faults (act_of s) names next)) → after ≡ next + act_size (act_of s) → after_names ≡ names_after (act_of s) names → IsInner after_names names
    → AllFound place ss outer n (drop (i + 1) ss) after_names new after
all_more_found place ss outer names after_names n i s found new next after h q left new_is after_is names_are inner =
    let before = subst (λ l. AllFound place ss outer n l names found next) (rest_of ss i s h q) left in
    let c : Act = act_of s in
    let others : Names → ℕ → List Fault = λ ns m. acts_faults (acts_of (drop (i + 1) ss)) ns m in
    record {
      fault = ap (λ o. merged_by place o (first_by place (others after_names after))) new_is
          ∙ ap (λ m. merged_by place (merged_by place found (first_by place (act_faults c names next))) (first_by place (others after_names m))) after_is
          ∙ ap (λ ns. merged_by place (merged_by place found (first_by place (act_faults c names next))) (first_by place (others ns (next + act_size c)))) names_are
          ∙ sym (merged_append place found (act_faults c names next) (others (names_after c names) (next + act_size c)))
          ∙ before.fault;
      size = let z = before.size in omega arith;
      inner = inner_trans after_names names outer inner before.inner;
    }

pub all_all_found : (place : Site → ℕ) (ss : List Statement) (outer names : Names) (n i : ℕ) (found : Option Fault) (next : ℕ) → length ss ≤ i → AllFound place ss outer n (drop i ss) names found next
    → (found ≡ first_by place (acts_faults (acts_of ss) outer n)) × (next ≡ n + acts_size (acts_of ss)) × (take (length outer) names ≡ outer)
all_all_found place ss outer names n i found next h left =
    let done = subst (λ l. AllFound place ss outer n l names found next) (drop_all i ss h) left in
    (sym (merged_none place found) ∙ done.fault, (let z = done.size in omega arith), front_of names outer done.inner)

inner_behind : (q : Ask) (names : Names) → IsInner (names_behind q names) names
inner_behind (Binds t e x) names = inner_named x (Variable (Some (bound_type t))) names
inner_behind (Holds e) names = inner_none names

-- behind the first block of an `if` the name that its head binds is not in force
pub left_behind : (q : Ask) (names : Names) → take (length names) (names_behind q names) ≡ names
left_behind q names = front_of (names_behind q names) names (inner_behind q names)

-- ---- parts of a statement

-- what was found in a block's statements is what is wrong in the block
block_found : (place : Site → ℕ) (b c : Acts) (inner names : Names) (next n : ℕ) (found : Found) → c ≡ b → inner ≡ names → next ≡ n
    → IsFound place found (acts_faults c inner next) (next + acts_size c) → IsFound place found (acts_faults b names n) (n + acts_size b)
block_found place b c inner names next n found items_are inner_is next_is h = record {
  fault = h.fault ∙ ap (λ c. first_by place (acts_faults c inner next)) items_are ∙ ap (λ ns. first_by place (acts_faults b ns next)) inner_is ∙ ap (λ m. first_by place (acts_faults b names m)) next_is;
  next = h.next ∙ ap (λ c. next + acts_size c) items_are ∙ ap (λ m. m + acts_size b) next_is;
}

pub while_found : (place : Site → ℕ) (e : Term) (b c : Acts) (names : Names) (n : ℕ) (asked found done : Found)
    → IsFound place asked (operand_faults TruthType e names n) (n + size_of e) → c ≡ b
    → IsFound place found (acts_faults c names asked.next) (asked.next + acts_size c)
    → told done.fault ≡ merged_by place (told asked.fault) (told found.fault) → done.next ≡ found.next
    → IsFound place done (operand_faults TruthType e names n ++ acts_faults b names (n + size_of e)) (n + size_of e + acts_size b)
while_found place e b c names n asked found done asked_is items_are found_is fault_is next_is =
    let inside = block_found place b c names names asked.next (n + size_of e) found items_are refl asked_is.next found_is in
    record {
      fault = fault_is ∙ ap (λ o. merged_by place o (told found.fault)) asked_is.fault ∙ ap (merged_by place (first_by place (operand_faults TruthType e names n))) inside.fault
          ∙ sym (first_both place (operand_faults TruthType e names n) (acts_faults b names (n + size_of e)));
      next = next_is ∙ inside.next;
    }

left_names : (q : Ask) (names inner : Names) (outer : ℕ) → inner ≡ names_behind q names → outer ≡ length names → take outer inner ≡ names
left_names q names inner outer inner_is outer_is = ap (take outer) inner_is ∙ ap (λ k. take k (names_behind q names)) outer_is ∙ left_behind q names

pub if_found : (place : Site → ℕ) (q : Ask) (b c : Acts) (o : Option Acts) (names : Names) (n : ℕ) (asked first second done : Found) (inner behind after : Names) (outer : ℕ)
    → IsFound place asked (ask_faults q names n) (n + ask_size q) → c ≡ b → inner ≡ names_behind q names
    → IsFound place first (acts_faults c inner asked.next) (asked.next + acts_size c)
    → behind ≡ inner → outer ≡ length names → after ≡ take outer behind
    → IsFound place second (else_faults o after first.next) (first.next + else_size o)
    → told done.fault ≡ merged_by place (merged_by place (told asked.fault) (told first.fault)) (told second.fault) → done.next ≡ second.next
    → IsFound place done (if_faults q b o names n) (n + ask_size q + acts_size b + else_size o)
if_found place q b c o names n asked first second done inner behind after outer asked_is items_are inner_is first_is behind_is outer_is after_is second_is fault_is next_is =
    let m : ℕ = n + ask_size q in
    let k : ℕ = m + acts_size b in
    let inside = block_found place b c inner (names_behind q names) asked.next m first items_are inner_is asked_is.next first_is in
    let names_are : after ≡ names = after_is ∙ left_names q names behind outer (behind_is ∙ inner_is) outer_is in
    let other : told second.fault ≡ first_by place (else_faults o names k) =
    second_is.fault ∙ ap (λ ns. first_by place (else_faults o ns first.next)) names_are ∙ ap (λ j. first_by place (else_faults o names j)) inside.next in
    record {
      fault = fault_is
          ∙ ap (λ a. merged_by place (merged_by place a (told first.fault)) (told second.fault)) asked_is.fault
          ∙ ap (λ a. merged_by place (merged_by place (first_by place (ask_faults q names n)) a) (told second.fault)) inside.fault
          ∙ ap (merged_by place (merged_by place (first_by place (ask_faults q names n)) (first_by place (acts_faults b (names_behind q names) m)))) other
          ∙ first_three place (ask_faults q names n) (acts_faults b (names_behind q names) m) (else_faults o names k);
      next = next_is ∙ second_is.next ∙ ap (λ j. j + else_size o) inside.next;
    }

-- an `if` with or without a second block
pub if_act : (place : Site → ℕ) (s : Act) (q : Ask) (b : Acts) (o : Option Acts) (names : Names) (n : ℕ) (found : Found) → if_or_else q b o ≡ s
    → IsFound place found (if_faults q b o names (n + 1)) (n + 1 + ask_size q + acts_size b + else_size o) → IsFound place found (act_faults s names n) (n + act_size s)
if_act place s q b o names n found h f = subst (λ s. IsFound place found (act_faults s names n) (n + act_size s)) h (by o f)
  where
    by : (o : Option Acts) → IsFound place found (if_faults q b o names (n + 1)) (n + 1 + ask_size q + acts_size b + else_size o)
        → IsFound place found (act_faults (if_or_else q b o) names n) (n + act_size (if_or_else q b o))
    by None f = record {
      fault = f.fault ∙ ap (first_by place) (append-nil (ask_faults q names (n + 1) ++ acts_faults b (names_behind q names) (n + 1 + ask_size q)));
      next = (let e = f.next in omega (arith, e));
    }
    by (Some c) f = record { fault = f.fault; next = (let e = f.next in omega (arith, e)) }

-- a statement has no more nodes than all of them, and behind an `if` the same names are in force
pub if_size : (s : Act) (q : Ask) (b : Acts) (o : Option Acts) → if_or_else q b o ≡ s → act_size s ≡ 1 + (ask_size q + acts_size b + else_size o)
if_size s q b None h = sym (ap act_size h) ∙ omega arith
if_size s q b (Some c) h = sym (ap act_size h) ∙ omega arith

pub if_names : (s : Act) (q : Ask) (b : Acts) (o : Option Acts) (names : Names) → if_or_else q b o ≡ s → names_after s names ≡ names
if_names s q b None names h = sym (ap (λ s. names_after s names) h)
if_names s q b (Some c) names h = sym (ap (λ s. names_after s names) h)

-- two expressions that are to be of a type
pub two_found : (place : Site → ℕ) (w : Type_) (l r : Term) (names : Names) (n : ℕ) (found second done : Found)
    → IsFound place found (operand_faults w l names n) (n + size_of l) → IsFound place second (operand_faults w r names found.next) (found.next + size_of r)
    → told done.fault ≡ merged_by place (told found.fault) (told second.fault) → done.next ≡ second.next → AreTwoFound place done w l r names n
two_found place w l r names n found second done f s fault next =
    let right : ℕ → List Fault = λ m. operand_faults w r names m in
    record {
      fault = fault ∙ ap (λ o. merged_by place o (told second.fault)) f.fault ∙ ap (merged_by place (first_by place (operand_faults w l names n))) (s.fault ∙ ap (λ m. first_by place (right m)) f.next)
          ∙ first_parts place (type_faults w l names n) (expr_faults l names n) (type_faults w r names (n + size_of l)) (expr_faults r names (n + size_of l));
      next = next ∙ s.next ∙ ap (λ m. m + size_of r) f.next;
    }
