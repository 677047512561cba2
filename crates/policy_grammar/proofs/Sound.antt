-- What the reader accepts is a text of the grammar.
use Rattle.std.proofs.Common.{◌≡◌, List, [], ◌∷◌, ◌++◌, Option, Some, None, refl, sym, subst, append_assoc, append-nil}
use Rattle.std.specs.Option.{option_and_then}
use Rattle.policy_tokens.specs.declared.token.Token.{Token}
use Rattle.policy_grammar.specs.declared.stage.Block.{Block}
use Rattle.policy_grammar.specs.declared.stage.Stage.{Stage}
use Rattle.policy_grammar.specs.declared.stage.Stage.TheVariants as at
use Rattle.policy_grammar.specs.Grammar.{IsText}
use Rattle.policy_grammar.specs.Automaton.{State, step, run, start}
use Rattle.policy_grammar.proofs.Written.{StageOf, OuterOf, outer_tokens, Written, Outer, Inner, tokens_of, Reached, Led}
use Rattle.policy_grammar.proofs.Stages.{step_leads}

-- on from the state behind a token, if there is one
onwards : (ts us : List Token) (end : State) (x : Option State) → Led ts x → ((next : State) → Reached ts next → run next us ≡ Some end → Reached (ts ++ us) end)
    → option_and_then (λ next. run next us) x ≡ Some end → Reached (ts ++ us) end
onwards ts us end None led further e = absurd (cc)
onwards ts us end (Some next) led further e = further next led e

-- what is read with more tokens
reaches : (us ts : List Token) (s end : State) → Reached ts s → run s us ≡ Some end → Reached (ts ++ us) end
reaches [] ts s end r e =
    let same : s ≡ end = cc in
    subst (λ us. Reached us end) (sym (append-nil ts)) (subst (Reached ts) same r)
reaches (t ∷ us) ts s end r e =
    let led : Led (ts ++ t ∷ []) (step s t) = subst (λ vs. Led (vs ++ t ∷ []) (step s t)) r.same (step_leads s r.written t).led in
    subst (λ vs. Reached vs end) (append_assoc ts (t ∷ []) us) (onwards (ts ++ t ∷ []) us end (step s t) led (λ next q f. reaches us (ts ++ t ∷ []) next end q f) e)

-- the tokens of a whole text
outer_text : (ts : List Token) (bs : List Block) (p : Stage) → p ≡ at.End → (w : OuterOf p bs) → outer_tokens p bs w ≡ ts → IsText ts
outer_text ts bs p e =
    subst (λ q. (w : OuterOf q bs) → outer_tokens q bs w ≡ ts → IsText ts) (sym e) (λ w same. record { file = w.file; body = w.right; same = sym same })

whole : (ts : List Token) (s : State) → s.stage ≡ at.End → (w : Written s) → tokens_of s w ≡ ts → IsText ts
whole ts s e (Outer w) same = outer_text ts s.blocks s.stage e w same
whole ts s e (Inner o ss w) same = absurd (subst (λ p. StageOf p s.around) e w)

pub sound : (ts : List Token) (s : State) → run start ts ≡ Some s → s.stage ≡ at.End → IsText ts
sound ts s e at_end =
    let r = reaches ts [] start s (record { written = Outer (tt, []); same = refl }) e in
    whole ts s at_end r.written r.same
