-- Cells that a pass reads, and a round that reads them.
use Rattle.std.proofs.Common.{◌≡◌, ℕ, List, [], ◌∷◌, ◌++◌, length, slice_get, sym, refl, ap, ◌∙◌, subst, append-nil, append_assoc, Some, inl}
use Rattle.maple_base.specs.declared.cells.Cell.{Cell}
use Rattle.maple_base.specs.declared.cells.Value.{Value}
use Rattle.policy_lang.specs.declared.Policy.{Policy}
use Rattle.policy_meaning.specs.Cells.{AreGiven}
use Rattle.machine_steps.specs.Waiting.{Waiting}
use Rattle.machine_sharing.specs.Sharing.{Call}
use Rattle.packet_workers.specs.declared.worked.Worked.{Worked}
use Rattle.packet_workers.specs.Adding.{PassView, Adds}
use Rattle.packet_workers.specs.Rounds.{Told, IsAmong, IsReadOf, Reads}
use Rattle.packet_workers.specs.Pieces.{AreReads, HasRead, HasTold}
use Rattle.packet_workers.proofs.Passing.{adds_none, adds_then, adds_same, get_more}

-- ---- calls that read

pub are_snoc : (es : List Call) (told : Told) (e : Call) (x : Cell × Value) → AreReads es told → IsReadOf x e → AreReads (es ++ e ∷ []) (told ++ x ∷ [])
are_snoc [] [] e x are is = (is, refl)
are_snoc [] (y ∷ told) e x are is = cc
are_snoc (d ∷ es) [] e x are is = absurd are
are_snoc (d ∷ es) (y ∷ told) e x (one, are) is = (one, are_snoc es told e x are is)

pair_same : (x y : Cell × Value) → x.0 ≡ y.0 → x.1 ≡ y.1 → x ≡ y
pair_same (c, v) (d, w) p q = cc

read_same : (x y : Cell × Value) (e : Call) → IsReadOf x e → IsReadOf y e → x ≡ y
read_same x y e a b =
    let cells : x.0 ≡ y.0 = (let p = a.entry in let q = b.entry in cc) in
    let values : x.1 ≡ y.1 = (let p = a.reply in let q = b.reply in cc) in
    pair_same x y cells values

are_same : (es : List Call) (s t : Told) → AreReads es s → AreReads es t → s ≡ t
are_same [] s t a b = a ∙ sym b
are_same (e ∷ es) [] t a b = absurd a
are_same (e ∷ es) (x ∷ s) [] a b = absurd b
are_same (e ∷ es) (x ∷ s) (y ∷ t) (h, a) (k, b) = let tails = are_same es s t a b in let heads : x ≡ y = read_same x y e h k in cc

-- ---- what a pass has read

pub read_none : (u : PassView) → HasRead u u
read_none u = record { calls = []; told = []; adds = adds_none u; are = refl }

pub read_at_start : (start u : PassView) → start ≡ u → HasRead start u
read_at_start start u same = let P : PassView → Type 0 = λ x. HasRead x u in subst P (sym same) (read_none u)

abbrev pub read_more : (start old new : PassView) (e : Call) (x : Cell × Value) → HasRead start old → Adds old (e ∷ []) new → IsReadOf x e → HasRead start new
read_more start old new e x h a is =
    record { calls = h.calls ++ e ∷ []; told = h.told ++ x ∷ []; adds = adds_then start old new h.calls (e ∷ []) h.adds a; are = are_snoc h.calls h.told e x h.are is }

-- a call that was refused adds none
abbrev pub read_kept : (start old new : PassView) → HasRead start old → Adds old [] new → HasRead start new
read_kept start old new h a =
    let P : List Call → Type 0 = λ es. Adds start es new in
    record { calls = h.calls; told = h.told; adds = subst P (append-nil h.calls) (adds_then start old new h.calls [] h.adds a); are = h.are }

get_last : {X : Type 0} (xs : List X) (x : X) → slice_get (xs ++ x ∷ []) (length xs) ≡ Some x
get_last [] x = refl
get_last (y ∷ xs) x = get_last xs x

pub told_more : (start old new : PassView) (e : Call) (x : Cell × Value) → Adds old (e ∷ []) new → IsReadOf x e → (c : Cell) (v : Value) → HasTold start old c v → HasTold start new c v
told_more start old new e x a is c v (h, (p, at)) = (read_more start old new e x h a is, (p, get_more h.told (x ∷ []) p (c, v) at))

pub told_kept : (start old new : PassView) → Adds old [] new → (c : Cell) (v : Value) → HasTold start old c v → HasTold start new c v
told_kept start old new a c v (h, among) = (read_kept start old new h a, among)

pub told_last : (start old new : PassView) (e : Call) (c : Cell) (v : Value) → HasRead start old → Adds old (e ∷ []) new → IsReadOf (c, v) e → HasTold start new c v
told_last start old new e c v h a is = (read_more start old new e (c, v) h a is, (length h.told, get_last h.told (c, v)))

-- what was told since is determined
told_same : (start now : PassView) (a b : HasRead start now) → a.told ≡ b.told
told_same start now a b =
    let same : a.calls ≡ b.calls = adds_same start now a.calls b.calls a.adds b.adds in
    let P : List Call → Type 0 = λ es. AreReads es a.told in
    are_same b.calls a.told b.told (subst P same a.are) b.are

pub given_among : (start now : PassView) (h : HasRead start now) (cells : List (Cell × Value)) → AreGiven (HasTold start now) cells → AreGiven (IsAmong h.told) cells
given_among start now h [] all = tt
given_among start now h (x ∷ cells) ((g, among), all) =
    ((let P : Told → Type 0 = λ t. IsAmong t x.0 x.1 in subst P (told_same start now g h) among), given_among start now h cells all)

-- ---- a round

-- reads stand ahead of what comes behind them
pub reads_lead : (item : Waiting) (budget : ℕ) (next : List Call → Worked → Type 0) (number : ℕ) (policy : Policy) (es : List Call) (before told : Told) (rest : List Call) (worked : Worked)
    → AreReads es told → Reads item budget next number policy (before ++ told) rest worked → Reads item budget next number policy before (es ++ rest) worked
reads_lead item budget next number policy [] before told rest worked are r =
    let P : Told → Type 0 = λ t. Reads item budget next number policy t rest worked in
    subst P (ap (λ t. before ++ t) are ∙ append-nil before) r
reads_lead item budget next number policy (e ∷ es) before [] rest worked are r = absurd are
reads_lead item budget next number policy (e ∷ es) before (x ∷ told) rest worked (one, are) r =
    let P : Told → Type 0 = λ t. Reads item budget next number policy t rest worked in
    inl (x, one, reads_lead item budget next number policy es (before ++ x ∷ []) told rest worked are (subst P (sym (append_assoc before (x ∷ []) told)) r))
