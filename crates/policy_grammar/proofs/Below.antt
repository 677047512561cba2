-- What lies on a stack below some things, and what ends ahead of a token.
use Rattle.std.proofs.Common.{◌≡◌, ℕ, ◌+◌, ◌-◌, ◌<◌, cond, List, [], ◌∷◌, ◌++◌, Some, length, drop, get_or, reverse, refl, sym, ap, subst, ◌∙◌, append_assoc, arith}
use Rattle.std.proofs.lemmas.Bool.{lt-ltb}
use Rattle.std.proofs.lemmas.List.{get_or-reverse, length-reverse, drop_more, drop-drop}
use Rattle.std.proofs.lemmas.Bool.Decides.{nat_tests}
use Rattle.policy_grammar.specs.declared.event.Event.{Event}
use Rattle.policy_grammar.specs.declared.stage.Around.{Around}
use Rattle.policy_grammar.specs.declared.stage.Shape.{Shape}
use Rattle.policy_grammar.specs.Automaton.{least, made, settle}
use Rattle.policy_grammar.specs.Events.{ended, endings}
use Rattle.policy_grammar.specs.Reading.{HasGrown}
use Rattle.policy_grammar.specs.Stacks.{top_of}

pub top_below : {A : Type 0} (xs ys : List A) (n d : ℕ) (x : A) → reverse xs ≡ ys → n ≡ length xs → d < n → x ≡ get_or xs (n - 1 - d) x → Some x ≡ top_of (drop d ys)
top_below xs ys n d x r l h e =
    let lt : d < length xs = omega (arith, l, h) in
    let at_end : x ≡ get_or xs (length xs - 1 - d) x = subst (λ m. x ≡ get_or xs (m - 1 - d) x) l e in
    ap (λ y. Some y) (at_end ∙ sym (get_or-reverse xs d x lt)) ∙ sym (ap top_of (drop_more (reverse xs) d x (omega (arith, lt, length-reverse xs)))) ∙ ap (λ zs. top_of (drop d zs)) r

with_top : {A : Type 0} (xs : List A) (a : A) → top_of xs ≡ Some a → xs ≡ a ∷ drop 1 xs
with_top [] a h = absurd (cc)
with_top (x ∷ xs) a h = cc

drop_next : {A : Type 0} (xs : List A) (d : ℕ) (a : A) → top_of (drop d xs) ≡ Some a → drop d xs ≡ a ∷ drop (d + 1) xs
drop_next xs d a h = with_top (drop d xs) a h ∙ ap (λ ys. a ∷ ys) (drop-drop 1 d xs)

-- ---- what ends ahead of a token

-- where a part ends, it is the same whatever its shape is
stays_around : (n : ℕ) (as_ : List Around) (s r : Shape) → (settle n as_ s).around ≡ (settle n as_ r).around
stays_around n [] s r = refl
stays_around n (a ∷ as_) s r = grind (arith, nat_tests)

-- one more was added
grown_more : (start es : List Event) (e : Event) → HasGrown start es → HasGrown start (es ++ e ∷ [])
grown_more start es e g = record { more = g.more ++ e ∷ []; is = ap (λ us. us ++ e ∷ []) g.is ∙ append_assoc start g.more (e ∷ []) }

-- so many of what stands around have ended, and were added to what there was
pub record Ending (n : ℕ) (xs : List Around) (d : ℕ) (start es : List Event) : Type 0 where
  pub grown : HasGrown start es
  pub events : es ++ endings n (drop d xs) ≡ start ++ endings n xs
  pub around : (s : Shape) → (settle n (drop d xs) s).around ≡ (settle n xs s).around

pub ending_more : (n : ℕ) (xs : List Around) (d : ℕ) (start es : List Event) (a : Around) → top_of (drop d xs) ≡ Some a → n < least a → Ending n xs d start es
    → Ending n xs (d + 1) start (es ++ ended a ∷ [])
ending_more n xs d start es a t h k =
    let next = drop (d + 1) xs in
    let more : endings n (a ∷ next) ≡ ended a ∷ endings n next = ap (λ v. cond v (ended a ∷ endings n next) []) (lt-ltb n (least a) h) in
    record {
      grown = grown_more start es (ended a) k.grown;
      events = append_assoc es (ended a ∷ []) (endings n next) ∙ ap (λ us. es ++ us) (sym more ∙ ap (endings n) (sym (drop_next xs d a t))) ∙ k.events;
      around = λ s.
          let same : settle n (a ∷ next) s ≡ settle n next (made a) = ap (λ v. cond v (settle n next (made a)) (record { around = a ∷ next; shape = s })) (lt-ltb n (least a) h) in
          stays_around n next s (made a) ∙ ap (λ r. r.around) (sym same ∙ ap (λ zs. settle n zs s) (sym (drop_next xs d a t))) ∙ k.around s;
    }
