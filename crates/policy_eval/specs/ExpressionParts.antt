-- For private functions: what the parts of an expression give.
use Rattle.std.specs.Prelude.{suc, Result, IfOk}
use Rattle.maple_base.specs.declared.key.Field.{Field}
use Rattle.maple_base.specs.declared.operator.Operator.{Operator}
use Rattle.policy_meaning.specs.Asking.{Goes, Run}
use Rattle.policy_meaning.specs.Leads.{Saying, Leads}
use Rattle.policy_lang.specs.declared.Expr.{Expr}
use Rattle.policy_lang.specs.Tree.{Callee, Call, Is, Not, Pair}
use Rattle.policy_lang.specs.TreeOf.{term_of}
use Rattle.policy_eval.specs.declared.datum.Datum.{Datum}
use Rattle.policy_eval.specs.Data.{datum_of}
use Rattle.policy_meaning.specs.Values.{Datum as Given}
use Rattle.policy_meaning.specs.Meaning.{value_of}
use Rattle.policy_eval.specs.declared.asker.Unanswered.{Unanswered}
use Rattle.policy_eval.specs.Walked.{InScope}

-- of a part that counts no step: what it gives, where its question was answered
abbrev pub GivesDatum : {S : Type 0} → Saying S → S → Run Given → S → Result Datum Unanswered → Type 0
GivesDatum said s m t r = IfOk r (λ d. Leads said s m t (Goes (datum_of d)))

-- expressions with parts, behind their own step
abbrev pub call_of : Callee → Expr → Expr → InScope Given
call_of c l r switch s left = value_of (Call c (term_of l) (term_of r)) switch s (suc left)

abbrev pub is_of : Field → Expr → InScope Given
is_of f e switch s left = value_of (Is f (term_of e)) switch s (suc left)

abbrev pub not_of : Expr → InScope Given
not_of e switch s left = value_of (Not (term_of e)) switch s (suc left)

abbrev pub pair_of : Operator → Expr → Expr → InScope Given
pair_of o l r switch s left = value_of (Pair o (term_of l) (term_of r)) switch s (suc left)
