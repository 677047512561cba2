-- How many tokens there are in what is written.
use Rattle.std.proofs.Common.{◌≡◌, ℕ, ◌+◌, Bool, true, false, List, [], ◌∷◌, ◌++◌, map, length, refl, arith, length-append}
use Rattle.std.specs.Prelude.{◌&&◌, nat_lt, if◌then◌else◌}
use Rattle.std.proofs.lemmas.Bool.{false≢true, and_parts}
use Rattle.maple_base.specs.Operators.{left_level, right_level}
use Rattle.maple_base.specs.declared.operator.Operator.{Operator}
use Rattle.policy_tokens.specs.declared.token.Token.{Token}
use Rattle.policy_tokens.specs.declared.token.Token.TheVariants.{Keyword as keyword, Sign as sign}
use Rattle.policy_tokens.specs.declared.token.Keyword.TheVariants as word
use Rattle.policy_tokens.specs.declared.token.Sign.TheVariants as mark
use Rattle.policy_grammar.specs.Grammar as written
use Rattle.policy_grammar.specs.Grammar.{Phrase, Group, phrase_tokens, Question, question_tokens, Statements, Plain, statements_tokens, more_tokens, action_tokens, in_braces, if_tokens, while_tokens}
use Rattle.policy_lang.specs.Nodes.{level_of, length_of, part_length, lengths_of, ask_length, act_length, acts_length}
use Rattle.policy_lang.specs.Sound.{sound_term, sound_ask, sound_act, sound_acts}
use Rattle.policy_lang.specs.Tree.{Term, Single, Call, Is, Not, Pair, Host, Hop, Table, Ask, Binds, Holds, Act, Acts, Drop, Flood, Out, Route, Let, Assign, If, IfElse, While, Done, Then}
use Rattle.policy_outline.specs.FileNodes.{phrase_length, question_length, action_length, statements_length}
use Rattle.policy_text.specs.Written.{callee_written, in_group, phrase_of, question_of, put, statements_of}

-- ---- expressions

call_length : (c : written.Callee) (a b : Phrase) → phrase_length (written.Call c a b) ≡ 4 + phrase_length a + phrase_length b
call_length c a b = omega (arith, length-append {A = Token})

pair_length : (o : Operator) (a b : Phrase) → phrase_length (written.Pair o a b) ≡ phrase_length a + 1 + phrase_length b
pair_length o a b = omega (arith, length-append {A = Token})

-- with a pair of parentheses there are two tokens more
group_length : (v : Bool) (a : Phrase) (n : ℕ) → phrase_length a ≡ n → phrase_length (if v then Group a else a) ≡ (if v then 1 else 0) + n + (if v then 1 else 0)
group_length true a n h = omega (arith, h, length-append {A = Token})
group_length false a n h = omega (arith, h)

placed_length : (least : ℕ) (e : Term) → phrase_length (phrase_of e) ≡ length_of e → phrase_length (in_group least (level_of e) (phrase_of e)) ≡ part_length least e
placed_length least e h = group_length (nat_lt (level_of e) least) (phrase_of e) (length_of e) h

pub term_length : (e : Term) → phrase_length (phrase_of e) ≡ length_of e
term_length (Single a) = refl
term_length (Call c l r) = omega (arith, call_length (callee_written c) (phrase_of l) (phrase_of r), term_length l, term_length r)
term_length (Is f e) = omega (arith, placed_length 4 e (term_length e))
term_length (Not e) = omega (arith, placed_length 2 e (term_length e))
term_length (Pair o l r) =
    omega (
      arith,
      pair_length o (in_group (left_level o) (level_of l) (phrase_of l)) (in_group (right_level o) (level_of r) (phrase_of r)),
      placed_length (left_level o) l (term_length l),
      placed_length (right_level o) r (term_length r),
    )

pub written_length : (least : ℕ) (e : Term) → phrase_length (in_group least (level_of e) (phrase_of e)) ≡ part_length least e
written_length least e = placed_length least e (term_length e)

-- ---- statements

more_length : (e : Term) (es : List Term) → phrase_length (phrase_of e) + length (more_tokens (map phrase_of es)) + 1 ≡ lengths_of (e ∷ es)
more_length e [] = omega (arith, term_length e)
more_length e (f ∷ fs) =
    omega (arith, length-append (phrase_tokens (phrase_of f)) (more_tokens (map phrase_of fs)), more_length f fs, term_length e)

pub asked_length : (q : Ask) → question_length (question_of q) ≡ ask_length q
asked_length (Binds Host e x) = omega (arith, length-append {A = Token}, term_length e)
asked_length (Binds Hop e x) = omega (arith, length-append {A = Token}, term_length e)
asked_length (Binds (Table t) e x) = omega (arith, length-append {A = Token}, term_length e)
asked_length (Holds e) = term_length e

pub outs_length : (e : Term) (es : List Term) → action_length (written.Out (phrase_of e) (map phrase_of es)) ≡ 1 + lengths_of (e ∷ es)
outs_length e es = omega (arith, length-append {A = Token}, more_length e es)

pub route_length : (e : Term) → action_length (written.Route (phrase_of e)) ≡ 2 + length_of e
route_length e = omega (arith, length-append {A = Token}, term_length e)

pub let_length : (x : List ℕ) (e : Term) → action_length (written.Let x (phrase_of e)) ≡ 4 + length_of e
let_length x e = omega (arith, length-append {A = Token}, term_length e)

pub assign_length : (x : List ℕ) (e : Term) → action_length (written.Assign x (phrase_of e)) ≡ 3 + length_of e
assign_length x e = omega (arith, length-append {A = Token}, term_length e)

plain_length : (s : written.Action) (n : ℕ) (rest : Statements) → action_length s ≡ n → statements_length (Plain s rest) ≡ n + statements_length rest
plain_length s n rest h = omega (arith, h, length-append (action_tokens s) (statements_tokens rest))

-- a word, what is asked, a block, and what is behind it
braced_length : (t : Token) (asked inner behind : List Token) → length ((t ∷ (asked ++ in_braces inner)) ++ behind) ≡ 3 + length asked + length inner + length behind
braced_length t asked inner behind =
    omega (arith, length-append (t ∷ (asked ++ in_braces inner)) behind, length-append asked (in_braces inner), length-append inner (sign mark.CloseBrace ∷ []))

mutual
  put_length : (s : Act) → sound_act s ≡ true → (rest : Statements) → statements_length (put s rest) ≡ act_length s + statements_length rest
  put_length Drop h rest = plain_length written.Drop 2 rest refl
  put_length Flood h rest = plain_length written.Flood 2 rest refl
  put_length (Out []) h rest = absurd (false≢true h)
  put_length (Out (e ∷ es)) h rest =
      plain_length (written.Out (phrase_of e) (map phrase_of es)) (1 + lengths_of (e ∷ es)) rest (outs_length e es)
  put_length (Route e) h rest = plain_length (written.Route (phrase_of e)) (2 + length_of e) rest (route_length e)
  put_length (Let x e) h rest = plain_length (written.Let x (phrase_of e)) (4 + length_of e) rest (let_length x e)
  put_length (Assign x e) h rest = plain_length (written.Assign x (phrase_of e)) (3 + length_of e) rest (assign_length x e)
  put_length (If q b) h rest =
      let first = body_length b (and_parts (sound_ask q) (sound_acts b) h).1 in
      let all = braced_length (keyword word.If) (question_tokens (question_of q)) (statements_tokens (statements_of b)) (statements_tokens rest) in
      omega (arith, all, asked_length q, first)
  put_length (IfElse q b c) h rest =
      let both = and_parts (sound_ask q && sound_acts b) (sound_acts c) h in
      let first = body_length b (and_parts (sound_ask q) (sound_acts b) both.0).1 in
      let ts = statements_tokens (statements_of b) in
      let us = statements_tokens (statements_of c) in
      let other = keyword word.Else ∷ in_braces us in
      let all = length-append (if_tokens (question_of q) ts ++ other) (statements_tokens rest) in
      omega (arith, all, braced_length (keyword word.If) (question_tokens (question_of q)) ts other, length-append us (sign mark.CloseBrace ∷ []), asked_length q, first, body_length c both.1)
  put_length (While e b) h rest =
      let body = body_length b (and_parts (sound_term e) (sound_acts b) h).1 in
      let all = braced_length (keyword word.While) (phrase_tokens (phrase_of e)) (statements_tokens (statements_of b)) (statements_tokens rest) in
      omega (arith, all, term_length e, body)

  pub body_length : (b : Acts) → sound_acts b ≡ true → statements_length (statements_of b) ≡ acts_length b
  body_length Done h = refl
  body_length (Then s b) h =
      let both = and_parts (sound_act s) (sound_acts b) h in
      omega (arith, put_length s both.0 (statements_of b), body_length b both.1)
