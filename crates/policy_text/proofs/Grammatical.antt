-- What is written of sound statements is of the grammar, and its tree is the one that was printed.
use Rattle.std.proofs.Common.{◌≡◌, ◌≤◌, ℕ, true, List, [], ◌∷◌, map, length, refl, ap, arith}
use Rattle.std.specs.Prelude.{◌&&◌, nat_le, nat_lt}
use Rattle.std.specs.List.{list_all}
use Rattle.std.proofs.lemmas.Bool.{cond_both, false≢true, and_parts, leb-true}
use Rattle.std.proofs.lemmas.List.{length-map}
use Rattle.maple_base.specs.Operators.{left_level, right_level}
use Rattle.policy_grammar.specs.Grammar.{Phrase, Group, Statements, AreStatements}
use Rattle.policy_lang.specs.Nodes.{level_of}
use Rattle.policy_lang.specs.Sound.{sound_term, sound_ask, sound_act, sound_acts}
use Rattle.policy_lang.specs.Tree.{Callee, Up, At, Term, Number, Var, SwitchOf, PortOf, PacketSwitch, Packet, Single, Call, Is, Not, Pair, Host, Hop, Table, Ask, Binds, Holds, Act, Acts, Drop, Flood, Out, Route, Let, Assign, If, IfElse, While, Done, Then}
use Rattle.policy_tree.specs.Trees.{callee_in, phrase_term, question_ask, statements_acts}
use Rattle.policy_text.specs.Written.{callee_written, in_group, phrase_of, question_of, put, statements_of}
use Rattle.policy_text.proofs.Levels.{stands, all_stand, is_question}

-- ---- expressions

-- parentheses make no node
grouped : (least level : ℕ) (a : Phrase) (e : Term) → phrase_term a ≡ e → phrase_term (in_group least level a) ≡ e
grouped least level a e h = cond_both (nat_lt level least) (Group a) a (λ x. phrase_term x ≡ e) (λ _. h) (λ _. h)

same_callee : (c : Callee) → callee_in (callee_written c) ≡ c
same_callee Up = refl
same_callee At = refl

same_term : (e : Term) → phrase_term (phrase_of e) ≡ e
same_term (Single (Number n)) = refl
same_term (Single (Var x)) = refl
same_term (Single (SwitchOf x)) = refl
same_term (Single (PortOf x)) = refl
same_term (Single PacketSwitch) = refl
same_term (Single (Packet f)) = refl
same_term (Call c l r) = rw (same_callee c) (rw (same_term l) (rw (same_term r) refl))
same_term (Is f e) = ap (λ x. Is f x) (grouped 4 (level_of e) (phrase_of e) e (same_term e))
same_term (Not e) = ap (λ x. Not x) (grouped 2 (level_of e) (phrase_of e) e (same_term e))
same_term (Pair o l r) =
    rw (grouped (left_level o) (level_of l) (phrase_of l) l (same_term l)) (rw (grouped (right_level o) (level_of r) (phrase_of r) r (same_term r)) refl)

same_terms : (es : List Term) → map phrase_term (map phrase_of es) ≡ es
same_terms [] = refl
same_terms (e ∷ es) = rw (same_term e) (rw (same_terms es) refl)

-- ---- statements

same_ask : (q : Ask) → question_ask (question_of q) ≡ q
same_ask (Binds Host e x) = rw (same_term e) refl
same_ask (Binds Hop e x) = rw (same_term e) refl
same_ask (Binds (Table t) e x) = rw (same_term e) refl
same_ask (Holds e) = rw (same_term e) refl

few : (e : Term) (es : List Term) → sound_act (Out (e ∷ es)) ≡ true → length (map phrase_of es) ≤ 15
few e es h =
    let counted = and_parts (nat_le 1 (length (e ∷ es)) && nat_le (length (e ∷ es)) 16) (list_all sound_term (e ∷ es)) h in
    let most = and_parts (nat_le 1 (length (e ∷ es))) (nat_le (length (e ∷ es)) 16) counted.0 in
    let le : length (e ∷ es) ≤ 16 = leb-true (length (e ∷ es)) 16 most.1 in
    omega (arith, length-map es phrase_of)

-- the grammar has these statements, and they are of this tree
abbrev Right : Statements → Acts → Type 0
Right ss b = AreStatements ss × (statements_acts ss ≡ b)

mutual
  act_right : (s : Act) → sound_act s ≡ true → (rest : Statements) (b : Acts) → Right rest b → Right (put s rest) (Then s b)
  act_right Drop h rest b r = ((tt, r.0), ap (λ x. Then Drop x) r.1)
  act_right Flood h rest b r = ((tt, r.0), ap (λ x. Then Flood x) r.1)
  act_right (Out []) h rest b r = absurd (false≢true h)
  act_right (Out (e ∷ es)) h rest b r = (((stands e, all_stand es, few e es h), r.0), rw (same_term e) (rw (same_terms es) (rw r.1 refl)))
  act_right (Route e) h rest b r = ((stands e, r.0), rw (same_term e) (rw r.1 refl))
  act_right (Let x e) h rest b r = ((stands e, r.0), rw (same_term e) (rw r.1 refl))
  act_right (Assign x e) h rest b r = ((stands e, r.0), rw (same_term e) (rw r.1 refl))
  act_right (If q c) h rest b r =
      let first = acts_right c (and_parts (sound_ask q) (sound_acts c) h).1 in
      ((is_question q, first.0, r.0), rw (same_ask q) (rw first.1 (rw r.1 refl)))
  act_right (IfElse q c d) h rest b r =
      let both = and_parts (sound_ask q && sound_acts c) (sound_acts d) h in
      let first = acts_right c (and_parts (sound_ask q) (sound_acts c) both.0).1 in
      let second = acts_right d both.1 in
      ((is_question q, first.0, second.0, r.0), rw (same_ask q) (rw first.1 (rw second.1 (rw r.1 refl))))
  act_right (While e c) h rest b r =
      let body = acts_right c (and_parts (sound_term e) (sound_acts c) h).1 in
      ((stands e, body.0, r.0), rw (same_term e) (rw body.1 (rw r.1 refl)))

  pub acts_right : (b : Acts) → sound_acts b ≡ true → Right (statements_of b) b
  acts_right Done h = (tt, refl)
  acts_right (Then s b) h =
      let both = and_parts (sound_act s) (sound_acts b) h in
      act_right s both.0 (statements_of b) b (acts_right b both.1)
