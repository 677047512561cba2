-- The pieces of a queue.
use Rattle.std.proofs.Common.{◌≡◌, ℕ, ◌+◌, ◌-◌, ◌<◌, ◌≤◌, Bool, true, false, eqb, List, [], ◌∷◌, ◌++◌, length, take, drop, get_or, refl, sym, ap, ◌∙◌, arith, append-nil, length-append, length-drop}
use Rattle.std.specs.List.{concat}
use Rattle.std.specs.Prelude.{IsTrue}
use Rattle.std.proofs.lemmas.Bool.Decides.{nat_tests}
use Rattle.std.proofs.lemmas.List.{drop-drop, drop-append-le, take_rest}
use Rattle.std.proofs.lemmas.List.Folds.{concat-append}
use Rattle.maple_io.specs.declared.act.Act.{Act}
use Rattle.maple_io.specs.declared.act.Act.TheVariants.{Takes}
use Rattle.maple_io.specs.declared.board.Sent.TheVariants.{Took}
use Rattle.board_lines.specs.Deliveries.{StepsOn}
use Rattle.board_lines.specs.Queues.{AreFilled, IsQueued, QueueView, unsent}
use Rattle.board_lines.proofs.Sends.{one_send, passes}

pub first_unsent : (p : List ℕ) (ps : List (List ℕ)) (at : ℕ) → at ≤ length p → unsent (p ∷ ps) at ≡ drop at p ++ concat ps
first_unsent p ps at h = drop-append-le at p (concat ps) h

-- where there is a piece there is something left
pub some_unsent : (p : List ℕ) (ps : List (List ℕ)) (at : ℕ) → at < length p → 0 < length (unsent (p ∷ ps) at)
some_unsent p ps at h = omega (arith, length-drop at (p ++ concat ps), length-append p (concat ps))

within_all : (pieces : List (List ℕ)) (at : ℕ) → IsQueued pieces at → at ≤ length (concat pieces)
within_all [] at h = omega (arith, h)
within_all (p ∷ ps) at h = omega (arith, h.0, length-append p (concat ps))

filled_more : (ps : List (List ℕ)) (q : List ℕ) → AreFilled ps → 0 < length q → AreFilled (ps ++ q ∷ [])
filled_more [] q h some = (some, tt)
filled_more (p ∷ ps) q h some = (h.0, filled_more ps q h.1 some)

pub queued_more : (pieces : List (List ℕ)) (q : List ℕ) (at : ℕ) → IsQueued pieces at → 0 < length q → IsQueued (pieces ++ q ∷ []) at
queued_more [] q at h some = (omega (arith, h, some), tt)
queued_more (p ∷ ps) q at h some = (h.0, filled_more ps q h.1 some)

pub unsent_more : (pieces : List (List ℕ)) (q : List ℕ) (at : ℕ) → IsQueued pieces at → unsent (pieces ++ q ∷ []) at ≡ unsent pieces at ++ q
unsent_more pieces q at h =
    ap (drop at) (concat-append pieces (q ∷ []) ∙ ap (λ b. concat pieces ++ b) (append-nil q)) ∙ drop-append-le at (concat pieces) q (within_all pieces at h)

-- the first piece is sent
pub queued_behind : (ps : List (List ℕ)) → AreFilled ps → IsQueued ps 0
queued_behind [] h = refl
queued_behind (p ∷ ps) h = h

-- no piece is there exactly where nothing is left
pub empty_queue : (items : List (List ℕ)) (at n : ℕ) (b : Bool) → n ≡ length items → b ≡ eqb n 0 → IsQueued items at → (IsTrue b → unsent items at ≡ []) × (unsent items at ≡ [] → IsTrue b)
empty_queue [] at n b e f h =
    let none : b ≡ true = f ∙ ap (λ k. eqb k 0) e in
    (λ t. ap (λ k. drop k []) h, λ t. none)
empty_queue (p ∷ ps) at n b e f h =
    let some = some_unsent p ps at h.0 in
    let full : b ≡ false = grind (arith, nat_tests) in
    (λ t. absurd (cc (sym full ∙ t)), λ t. absurd (let none = ap length t in omega (arith, some, none)))

pub some_bytes : (b : Bool) (x y : List ℕ) → b ≡ false → b ≡ eqb (length x) 0 → x ≡ y → 0 < length y
some_bytes b x [] e f g = let none = ap length g in absurd (grind (arith, nat_tests))
some_bytes b x (c ∷ cs) e f g = omega arith

pub not_empty : (b : Bool) (rest : List ℕ) → b ≡ false → (rest ≡ [] → IsTrue b) → 0 < length rest
not_empty b [] e f = absurd (cc (sym e ∙ f refl))
not_empty b (c ∷ cs) e f = omega arith

abbrev queue_of : ℕ → List ℕ → Bool → QueueView
queue_of c rest failed = record { number = c; rest = rest; failed = failed }

-- a part of the first piece is sent
pub part_sent : (items : List (List ℕ)) (at count : ℕ) (bytes : List ℕ) (c : ℕ) (f : Bool) (log new : List Act) → IsQueued items at → 0 < length (unsent items at)
    → bytes ≡ get_or items 0 bytes → new ≡ log ++ Takes c (take count (take (length bytes - at) (drop at bytes))) (Took count) ∷ [] → at + count ≤ length bytes
    → StepsOn (queue_of c (unsent items at) f) (queue_of c (unsent items (at + count)) f) log new
part_sent [] at count bytes c f log new h some e l few = absurd (let none = ap (λ k. length (drop {A = ℕ} k [])) h in omega (arith, some, none))
part_sent (p ∷ ps) at count bytes c f log new h some e l few =
    let piece : take (length bytes - at) (drop at bytes) ≡ drop at p = take_rest bytes at ∙ ap (drop at) e in
    let acts : new ≡ log ++ Takes c (take count (drop at p)) (Took count) ∷ [] = l ∙ ap (λ x. log ++ Takes c (take count x) (Took count) ∷ []) piece in
    let long = ap length e in
    record {
      number = refl;
      failed = refl;
      own = passes c count (drop at p) (concat ps) (unsent (p ∷ ps) at) (unsent (p ∷ ps) (at + count)) (Took count) log new acts (first_unsent p ps at (omega (arith, h.0)))
          (first_unsent p ps (at + count) (omega (arith, few, long)) ∙ ap (λ x. x ++ concat ps) (sym (drop-drop count at p)));
      acts = one_send c (take count (drop at p)) (Took count) log new acts;
    }
