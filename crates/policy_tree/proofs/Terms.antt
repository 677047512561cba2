-- An expression by its parts.
use Rattle.std.proofs.Common.{◌≡◌, ap, ◌∙◌}
use Rattle.maple_base.specs.declared.key.Field.{Field}
use Rattle.maple_base.specs.declared.operator.Operator.{Operator}
use Rattle.policy_lang.specs.Tree.{Callee, Term, Call, Is, Not, Pair}

pub call_is : (t : Term) (c : Callee) (l r m n : Term) → t ≡ Call c l r → l ≡ m → r ≡ n → t ≡ Call c m n
call_is t c l r m n h p q = h ∙ ap (λ x. Call c x r) p ∙ ap (Call c m) q

pub not_is : (t l m : Term) → t ≡ Not l → l ≡ m → t ≡ Not m
not_is t l m h p = h ∙ ap Not p

pub test_is : (t : Term) (f : Field) (l m : Term) → t ≡ Is f l → l ≡ m → t ≡ Is f m
test_is t f l m h p = h ∙ ap (Is f) p

pub pair_is : (t : Term) (o : Operator) (l r m n : Term) → t ≡ Pair o l r → l ≡ m → r ≡ n → t ≡ Pair o m n
pair_is t o l r m n h p q = h ∙ ap (λ x. Pair o x r) p ∙ ap (Pair o m) q
