-- Messages at a place of a list, and how many stand ahead of the first barrier.
use Rattle.std.proofs.Common.{◌≡◌, ℕ, zero, suc, ◌+◌, ◌<◌, ◌≤◌, Bool, true, false, List, [], ◌∷◌, ◌++◌, length, map, take, drop, get_or, ◌≢◌, ◌⊎◌, inl, inr, ⊎_elim, refl, sym, ap, ◌∙◌, eq-eqb, add-one, arith}
use Rattle.std.specs.Prelude.{if◌then◌else◌, not, ◌&&◌, ◌==◌}
use Rattle.std.proofs.lemmas.Bool.{false≢true, eqb-true}
use Rattle.std.specs.List.{AllByRecursion, remove}
use Rattle.std.proofs.lemmas.List.{take-append-drop, drop_more, at_drop_more, get_or-map, length-map, nil_from_length}
use Rattle.of10_codec.specs.declared.message.Message.{Message}
use Rattle.device_port.specs.Switches.{is_barrier}
use Rattle.device_port.specs.Devices.{IsOfController}
use Rattle.model_switch.specs.States.{free_count, IsNext}
use Rattle.model_switch.specs.Kept.{FromController}

abbrev pub NoBarrier : Message → Type 0
NoBarrier m = is_barrier m.body ≡ false

-- one step of the count
pub free_here : {B : Type 0} (f : B → Message) (bs : List B) (i : ℕ) (b : B) → i < length bs → b ≡ get_or bs i b
    → free_count (drop i (map f bs)) ≡ (if is_barrier (f b).body then 0 else suc (free_count (drop (i + 1) (map f bs))))
free_here f bs i b h e =
    let n : i < length (map f bs) = rw length-map h in
    at_drop_more free_count (map f bs) i (f b) n ∙ ap (λ m. free_count (m ∷ drop (i + 1) (map f bs))) (get_or-map f bs i b (f b) h ∙ ap f (sym e))

-- the message at a place, with those ahead of it and behind it
pub parted : (ms : List Message) (i : ℕ) (m : Message) → i < length ms → m ≡ get_or ms i m → ms ≡ take i ms ++ m ∷ drop (suc i) ms
parted ms i m h e =
    let next : drop i ms ≡ m ∷ drop (suc i) ms = drop_more ms i m h ∙ ap (λ x. x ∷ drop (i + 1) ms) (sym e) ∙ rw add-one refl in
    sym (take-append-drop i ms) ∙ ap (λ rest. take i ms ++ rest) next

pub all_without : (ms : List Message) (i : ℕ) → FromController ms → FromController (remove ms i)
all_without [] zero all = tt
all_without [] (suc i) all = tt
all_without (m ∷ ms) zero all = all.1
all_without (m ∷ ms) (suc i) all = (all.0, all_without ms i all.1)

pub all_push : (ms : List Message) (m : Message) → FromController ms → IsOfController m.body → FromController (ms ++ m ∷ [])
all_push [] m all h = (h, tt)
all_push (a ∷ more) m all h = (all.0, all_push more m all.1 h)

if_no : (b : Bool) (n : ℕ) → 0 < (if b then 0 else n) → b ≡ false
if_no true n h = absurd (omega arith)
if_no false n h = refl

pub free_without : (ms : List Message) (i : ℕ) → i < free_count ms → suc (free_count (remove ms i)) ≡ free_count ms
free_without [] i h = absurd (omega arith)
free_without (m ∷ ms) zero h =
    let no = if_no (is_barrier m.body) (suc (free_count ms)) h in sym (ap (λ b. if b then 0 else suc (free_count ms)) no)
free_without (m ∷ ms) (suc i) h =
    let no = if_no (is_barrier m.body) (suc (free_count ms)) (omega arith) in
    let one : free_count (m ∷ ms) ≡ suc (free_count ms) = ap (λ b. if b then 0 else suc (free_count ms)) no in
    let two : free_count (m ∷ remove ms i) ≡ suc (free_count (remove ms i)) = ap (λ b. if b then 0 else suc (free_count (remove ms i))) no in
    ap suc two ∙ ap suc (free_without ms i (omega arith)) ∙ sym one

-- ahead of the first barrier
pub free_apart : (ahead : List Message) (m : Message) (behind : List Message) → length ahead < free_count (ahead ++ m ∷ behind)
    → AllByRecursion NoBarrier ahead × NoBarrier m × (free_count (ahead ++ m ∷ behind) ≡ suc (free_count (ahead ++ behind)))
free_apart [] m behind h =
    let no = if_no (is_barrier m.body) (suc (free_count behind)) h in
    (tt, no, ap (λ b. if b then 0 else suc (free_count behind)) no)
free_apart (a ∷ more) m behind h =
    let no = if_no (is_barrier a.body) (suc (free_count (more ++ m ∷ behind))) (omega arith) in
    let one : free_count (a ∷ more ++ m ∷ behind) ≡ suc (free_count (more ++ m ∷ behind)) = ap (λ b. if b then 0 else suc (free_count (more ++ m ∷ behind))) no in
    let two : free_count (a ∷ more ++ behind) ≡ suc (free_count (more ++ behind)) = ap (λ b. if b then 0 else suc (free_count (more ++ behind))) no in
    let rest = free_apart more m behind (omega arith) in
    ((no, rest.0), rest.1, one ∙ ap suc rest.2 ∙ ap suc (sym two))

-- how many there are behind a push
pub free_push_barrier : (ms : List Message) (m : Message) → is_barrier m.body ≡ true → free_count (ms ++ m ∷ []) ≡ free_count ms
free_push_barrier [] m h = ap (λ b. if b then 0 else 1) h
free_push_barrier (a ∷ more) m h = ap (λ n. if is_barrier a.body then 0 else suc n) (free_push_barrier more m h)

pub free_push_all : (ms : List Message) (m : Message) → NoBarrier m → free_count ms ≡ length ms → free_count (ms ++ m ∷ []) ≡ suc (length ms)
free_push_all [] m h e = ap (λ b. if b then 0 else 1) h
free_push_all (a ∷ more) m h e =
    let no = if_no (is_barrier a.body) (suc (free_count more)) (omega arith) in
    let one : free_count (a ∷ more) ≡ suc (free_count more) = ap (λ b. if b then 0 else suc (free_count more)) no in
    ap (λ b. if b then 0 else suc (free_count (more ++ m ∷ []))) no ∙ ap suc (free_push_all more m h (omega arith))

some_of : (b : Bool) (f l g : ℕ) → (f < l → g ≡ f) → (if b then 0 else suc f) < suc l → (if b then 0 else suc g) ≡ (if b then 0 else suc f)
some_of true f l g more h = refl
some_of false f l g more h = ap suc (more (omega arith))

pub free_push_some : (ms : List Message) (m : Message) → free_count ms < length ms → free_count (ms ++ m ∷ []) ≡ free_count ms
free_push_some [] m h = absurd (omega arith)
free_push_some (a ∷ more) m h = some_of (is_barrier a.body) (free_count more) (length more) (free_count (more ++ m ∷ [])) (λ lt. free_push_some more m lt) h

within_of : (b : Bool) (f l : ℕ) → f ≤ l → (if b then 0 else suc f) ≤ suc l
within_of true f l h = omega arith
within_of false f l h = omega arith

pub free_within : (ms : List Message) → free_count ms ≤ length ms
free_within [] = omega arith
free_within (m ∷ ms) = within_of (is_barrier m.body) (free_count ms) (length ms) (free_within ms)

both_of : (b t : Bool) → (not b && t) ≡ true → (b ≡ false) × (t ≡ true)
both_of true t h = absurd (false≢true h)
both_of false t h = (refl, h)

either_of : (b t : Bool) → (not b && t) ≡ false → (b ≡ true) ⊎ (t ≡ false)
either_of true t h = inl refl
either_of false t h = inr h

-- a message is pushed that stands ahead of the first barrier, or does not
pub free_push_free : (ms : List Message) (m : Message) (free len : ℕ) → free ≡ free_count ms → len ≡ length ms → (not (is_barrier m.body) && (free == len)) ≡ true
    → free_count (ms ++ m ∷ []) ≡ suc (length ms)
free_push_free ms m free len f l h =
    let both = both_of (is_barrier m.body) (free == len) h in
    let same : free ≡ len = eqb-true free len both.1 in
    free_push_all ms m both.0 (sym f ∙ same ∙ l)

pub free_push_other : (ms : List Message) (m : Message) (free len : ℕ) → free ≡ free_count ms → len ≡ length ms → (not (is_barrier m.body) && (free == len)) ≡ false
    → free_count (ms ++ m ∷ []) ≡ free_count ms
free_push_other ms m free len f l h =
    ⊎_elim (λ b. free_push_barrier ms m b)
    (λ t. let other : free ≢ len = λ e. false≢true (sym t ∙ eq-eqb free len e) in let most = free_within ms in free_push_some ms m (omega arith))
    (either_of (is_barrier m.body) (free == len) h)

-- where the list has no message at a place that may be next, it has none
pub none_next : (ms : List Message) (i : ℕ) → IsNext i ms → length ms ≤ i → ms ≡ []
none_next ms i next past = let most = free_within ms in nil_from_length ms (omega arith)

-- each message of the list is a controller's
pub all_at : (ms : List Message) (i : ℕ) (d : Message) → FromController ms → i < length ms → IsOfController (get_or ms i d).body
all_at [] i d all h = absurd (omega arith)
all_at (m ∷ ms) zero d all h = all.0
all_at (m ∷ ms) (suc i) d all h = all_at ms i d all.1 (omega arith)
