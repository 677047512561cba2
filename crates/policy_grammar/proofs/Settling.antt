-- What ends ahead of a token becomes a part of what stands around it: the tokens and the grammar stay.
use Rattle.std.proofs.Common.{◌≡◌, ℕ, ◌<◌, ◌≤◌, List, [], ◌∷◌, ◌++◌, refl, subst, append_assoc, arith}
use Rattle.std.specs.Prelude.{nat_lt}
use Rattle.std.proofs.lemmas.Bool.{cond_both, ltb-true, ltb-false}
use Rattle.policy_tokens.specs.declared.token.Token.{Token}
use Rattle.policy_grammar.specs.declared.stage.Around.{Around}
use Rattle.policy_grammar.specs.declared.stage.Around.TheVariants.{Left, Not, Is}
use Rattle.policy_grammar.specs.declared.stage.Shape.{Shape}
use Rattle.policy_grammar.specs.Grammar.{Phrase, Negation, Test, Pair, phrase_tokens, IsPhrase}
use Rattle.policy_grammar.specs.Automaton.{least, least_in, shape_level, made, Settled, settle}
use Rattle.policy_grammar.proofs.Written.{AroundOf, around_tokens, ShapedOf}

-- an expression of a level is one of each lesser level
pub IsPhrase-lesser : (j k : ℕ) (a : Phrase) → k ≤ j → IsPhrase j a → IsPhrase k a
IsPhrase-lesser j k (Negation a) le h = (omega (arith, h.0), h.1)
IsPhrase-lesser j k (Test f a) le h = (omega (arith, h.0), h.1)
IsPhrase-lesser j k (Pair o a b) le h = (omega (arith, h.0), h.1, h.2)
IsPhrase-lesser j k a le h = h

-- of what is settled: all of its tokens, and the level of what may stand there
pub record SettledOf (n : ℕ) (r : Settled) (ts : List Token) : Type 0 where
  pub around : AroundOf r.around
  pub shaped : ShapedOf r.shape (least_in r.around)
  pub low : least_in r.around ≤ n
  pub same : around_tokens r.around around ++ phrase_tokens shaped.phrase ≡ ts

-- an expression and the innermost thing around it are one expression
record JoinedOf (s : Shape) (as_ : List Around) (ts : List Token) : Type 0 where
  around : AroundOf as_
  shaped : ShapedOf s (least_in as_)
  same : around_tokens as_ around ++ phrase_tokens shaped.phrase ≡ ts

joined : (n : ℕ) (a : Around) (as_ : List Around) (s : Shape) (w : AroundOf (a ∷ as_)) (x : ShapedOf s (least a)) → n < least a
    → JoinedOf (made a) as_ (around_tokens (a ∷ as_) w ++ phrase_tokens x.phrase)
joined n (Left o) as_ s w x lt =
    record {
      around = w.0;
      shaped = record { phrase = Pair o w.1.phrase x.phrase; right = (omega arith, w.1.right, IsPhrase-lesser (shape_level s) (least (Left o)) x.phrase x.room x.right); alone = tt; room = w.2 };
      same = simp append_assoc;
    }
joined n Not as_ s w x lt =
    record {
      around = w.0;
      shaped = record { phrase = Negation x.phrase; right = (omega arith, IsPhrase-lesser (shape_level s) 2 x.phrase x.room x.right); alone = tt; room = w.1 };
      same = simp append_assoc;
    }
joined n Is as_ s w x lt =
    record {
      around = w.0;
      shaped = record { phrase = Test w.1 x.phrase; right = (omega arith, IsPhrase-lesser (shape_level s) 4 x.phrase x.room x.right); alone = tt; room = w.2 };
      same = simp append_assoc;
    }
joined n a as_ s w x lt = absurd (omega (arith, lt))

pub settled : (n : ℕ) (as_ : List Around) (s : Shape) (w : AroundOf as_) (x : ShapedOf s (least_in as_)) → SettledOf n (settle n as_ s) (around_tokens as_ w ++ phrase_tokens x.phrase)
settled n [] s w x = record { around = tt; shaped = x; low = omega arith; same = refl }
settled n (a ∷ as_) s w x =
    let ts = around_tokens (a ∷ as_) w ++ phrase_tokens x.phrase in
    cond_both (nat_lt n (least a)) (settle n as_ (made a)) (record { around = a ∷ as_; shape = s }) (λ r. SettledOf n r ts)
    (λ h. let y = joined n a as_ s w x (ltb-true n (least a) h) in subst (SettledOf n (settle n as_ (made a))) y.same (settled n as_ (made a) y.around y.shaped))
    (λ h. record { around = w; shaped = x; low = ltb-false n (least a) h; same = refl })
