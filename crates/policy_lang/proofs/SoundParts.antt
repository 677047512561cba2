-- What the types of a tree's parts keep, over the parts left of a loop and over an `if`.
use Rattle.std.proofs.Common.{◌≡◌, ℕ, ◌+◌, ◌<◌, true, List, drop, length, get_or, sym, ap, ◌∙◌}
use Rattle.std.specs.Prelude.{◌&&◌, Option, Some, None}
use Rattle.std.specs.List.{list_all}
use Rattle.std.proofs.Math.Bool.{and-true}
use Rattle.policy_lang.specs.declared.Expr.{Expr}
use Rattle.policy_lang.specs.declared.Statement.{Statement}
use Rattle.policy_lang.specs.Tree.{Ask, Act, Acts}
use Rattle.policy_lang.specs.TreeOf.{term_of, terms_of, act_of, acts_of, if_or_else}
use Rattle.policy_lang.specs.Sound.{sound_term, sound_ask, sound_act, sound_acts}
use Rattle.policy_lang.specs.Found.{sound_if}
use Rattle.policy_lang.proofs.LeftOver.{rest_of}

pub exprs_sound : (es : List Expr) (k : ℕ) (e : Expr) → k < length es → e ≡ get_or es k e → sound_term (term_of e) ≡ true
    → list_all sound_term (terms_of (drop k es)) ≡ list_all sound_term (terms_of es) → list_all sound_term (terms_of (drop (k + 1) es)) ≡ list_all sound_term (terms_of es)
exprs_sound es k e h q s left =
    sym (ap (λ l. list_all sound_term (terms_of l)) (rest_of es k e h q) ∙ ap (λ b. b && list_all sound_term (terms_of (drop (k + 1) es))) s) ∙ left

pub acts_sound : (ss : List Statement) (k : ℕ) (s : Statement) → k < length ss → s ≡ get_or ss k s → sound_act (act_of s) ≡ true
    → sound_acts (acts_of (drop k ss)) ≡ sound_acts (acts_of ss) → sound_acts (acts_of (drop (k + 1) ss)) ≡ sound_acts (acts_of ss)
acts_sound ss k s h q t left =
    sym (ap (λ l. sound_acts (acts_of l)) (rest_of ss k s h q) ∙ ap (λ b. b && sound_acts (acts_of (drop (k + 1) ss))) t) ∙ left

pub if_sound : (s : Act) (q : Ask) (b : Acts) (o : Option Acts) → if_or_else q b o ≡ s → sound_if q b o ≡ true → sound_act s ≡ true
if_sound s q b None h t = sym (ap sound_act h) ∙ sym (and-true (sound_ask q && sound_acts b)) ∙ t
if_sound s q b (Some c) h t = sym (ap sound_act h) ∙ t
