-- Each file that the grammar has is read to its end, and what is read of its tokens is what its events are.
use Rattle.std.proofs.Common.{◌≡◌, ℕ, Bool, List, [], ◌∷◌, ◌++◌, map, Some, refl, ap, ◌∙◌, append-nil, arith}
use Rattle.policy_tokens.specs.declared.token.Token.{Token}
use Rattle.policy_tokens.specs.declared.token.Token.TheVariants.{Keyword as keyword, Sign as sign}
use Rattle.policy_tokens.specs.declared.token.Keyword.TheVariants as word
use Rattle.policy_tokens.specs.declared.token.Sign.TheVariants as mark
use Rattle.policy_grammar.specs.declared.event.Event.TheVariants as event
use Rattle.policy_grammar.specs.declared.stage.Stage.TheVariants as at
use Rattle.policy_grammar.specs.Grammar.{in_braces, statements_tokens, AreStatements, File, tables_tokens, learning_tokens, file_tokens}
use Rattle.policy_grammar.specs.Automaton.{run, start, end}
use Rattle.policy_grammar.specs.Events.{statements_events, learning_events, file_events, trace}
use Rattle.policy_grammar.proofs.Phrases.{Read, read, onto}
use Rattle.policy_grammar.proofs.Statements.{standing, statements_read}

tables_read : (names : List (List ℕ)) (rest : List Token) → read start (tables_tokens names ++ rest) ≡ onto (map event.Table names) (read start rest)
tables_read [] rest = refl
tables_read (x ∷ xs) rest = ap (onto (event.Table x ∷ [])) (tables_read xs rest)

learning_read : (learning : Bool) (rest : List Token)
    → read start (keyword word.Policy ∷ (learning_tokens learning ++ sign mark.OpenBrace ∷ rest)) ≡ onto (learning_events learning) (read (standing at.Statement []) rest)
learning_read learning rest = grind arith

file_read : (f : File) → AreStatements f.body → read start (file_tokens f) ≡ record { events = file_events f; state = Some end }
file_read f h =
    let body = statements_tokens f.body in
    let begun : Read → Read = λ r. onto (map event.Table f.tables) (onto (learning_events f.learning) r) in
    tables_read f.tables (keyword word.Policy ∷ (learning_tokens f.learning ++ in_braces body))
    ∙ ap (onto (map event.Table f.tables)) (learning_read f.learning (body ++ sign mark.CloseBrace ∷ []))
    ∙ ap begun (statements_read f.body [] [] h)
    ∙ ap (λ es. begun (record { events = es; state = Some end })) (append-nil (statements_events f.body))

pub complete : (f : File) → AreStatements f.body → run start (file_tokens f) ≡ Some end
complete f h = ap (λ r. r.state) (file_read f h)

pub traced : (f : File) → AreStatements f.body → trace start (file_tokens f) ≡ file_events f
traced f h = ap (λ r. r.events) (file_read f h)
