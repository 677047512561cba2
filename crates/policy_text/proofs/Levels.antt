-- The grammar has what is written of an expression at each level up to its own, and at no other.
use Rattle.std.proofs.Common.{ℕ, ◌≤◌, refl, arith, All, List, [], ◌∷◌, map}
use Rattle.std.specs.Prelude.{nat_lt}
use Rattle.std.proofs.lemmas.Bool.{cond_both, ltb-false}
use Rattle.std.proofs.lemmas.List.Elements.{All-nil, All-cons}
use Rattle.maple_base.specs.Operators.{left_level, right_level}
use Rattle.policy_grammar.specs.Grammar as written
use Rattle.policy_grammar.specs.Grammar.{Phrase, Group, Negation, IsPhrase, IsQuestion}
use Rattle.policy_lang.specs.Nodes.{level_of}
use Rattle.policy_lang.specs.Tree.{Term, Number, Var, SwitchOf, PortOf, PacketSwitch, Packet, Single, Call, Is, Not, Pair, Host, Hop, Table, Ask, Binds, Holds}
use Rattle.policy_text.specs.Written.{in_group, phrase_of, question_of}
use Rattle.policy_text.specs.PrintLaws.{ParenthesesMustStand}

-- an expression at a level is one at each lesser level
lesser : (n m : ℕ) (a : Phrase) → n ≤ m → IsPhrase m a → IsPhrase n a
lesser n m (written.Single t) le h = h
lesser n m (written.Call c a b) le h = h
lesser n m (Group a) le h = h
lesser n m (Negation a) le h = (omega (arith, h.0), h.1)
lesser n m (written.Test f a) le h = (omega (arith, h.0), h.1)
lesser n m (written.Pair o a b) le h = (omega (arith, h.0), h.1, h.2)

whole : (level : ℕ) (a : Phrase) → IsPhrase level a → IsPhrase 0 a
whole level a h = lesser 0 level a (omega arith) h

part : (least level : ℕ) (a : Phrase) → IsPhrase level a → IsPhrase least (in_group least level a)
part least level a h = cond_both (nat_lt level least) (Group a) a (IsPhrase least) (λ _. whole level a h) (λ e. lesser least level a (ltb-false level least e) h)

fits : (e : Term) → IsPhrase (level_of e) (phrase_of e)
fits (Single (Number n)) = refl
fits (Single (Var x)) = refl
fits (Single (SwitchOf x)) = refl
fits (Single (PortOf x)) = refl
fits (Single PacketSwitch) = refl
fits (Single (Packet f)) = refl
fits (Call c l r) = (whole (level_of l) (phrase_of l) (fits l), whole (level_of r) (phrase_of r) (fits r))
fits (Is f e) = (omega arith, part 4 (level_of e) (phrase_of e) (fits e))
fits (Not e) = (omega arith, part 2 (level_of e) (phrase_of e) (fits e))
fits (Pair o l r) = (omega arith, part (left_level o) (level_of l) (phrase_of l) (fits l), part (right_level o) (level_of r) (phrase_of r) (fits r))

-- at a place of the least level 0 each expression stands as it is
pub stands : (e : Term) → IsPhrase 0 (phrase_of e)
stands e = whole (level_of e) (phrase_of e) (fits e)

pub within : (e : Term) (least : ℕ) → least ≤ 5 → IsPhrase least (phrase_of e) → least ≤ level_of e
within (Single a) least le h = le
within (Call c l r) least le h = le
within (Is f e) least le h = h.0
within (Not e) least le h = h.0
within (Pair o l r) least le h = h.0

pub must_stand : ParenthesesMustStand
must_stand e least le = (within e least le, λ h. lesser least (level_of e) (phrase_of e) h (fits e))

pub all_stand : (es : List Term) → All (IsPhrase 0) (map phrase_of es)
all_stand [] = All-nil (IsPhrase 0)
all_stand (e ∷ es) = All-cons (IsPhrase 0) (phrase_of e) (map phrase_of es) (stands e) (all_stand es)

pub is_question : (q : Ask) → IsQuestion (question_of q)
is_question (Binds Host e x) = stands e
is_question (Binds Hop e x) = stands e
is_question (Binds (Table t) e x) = stands e
is_question (Holds e) = stands e
