-- The laws of the grammar and its reader.
use Rattle.std.proofs.Common.{◌≡◌, List, ◌++◌, Option, Some, None, refl, sym, ap, ◌∙◌}
use Rattle.std.specs.Option.{option_and_then}
use Rattle.policy_tokens.specs.declared.token.Token.{Token}
use Rattle.policy_grammar.specs.Grammar.{IsText, Begins}
use Rattle.policy_grammar.specs.Automaton.{State, start, run, end}
use Rattle.policy_grammar.specs.Laws.{ReadsTexts, IsRead, ReadsBeginnings}
use Rattle.policy_grammar.specs.Reading.{RunsToEnd}
use Rattle.policy_grammar.proofs.Runs.{run_append}
use Rattle.policy_grammar.proofs.Complete.{complete}
use Rattle.policy_grammar.proofs.Sound.{sound}
use Rattle.policy_grammar.proofs.Finishing.{finishes}

pub read_to_end : (tokens : List Token) → IsText tokens → RunsToEnd tokens
read_to_end tokens t = record { state = end; run = ap (run start) t.same ∙ complete t.file t.body; ended = refl }

pub texts_read : ReadsTexts
texts_read tokens = (λ r. sound tokens r.state r.run r.ended, read_to_end tokens)

-- what is read first of tokens that are read
first_read : (s : Option State) (us : List Token) (n : State) → option_and_then (λ m. run m us) s ≡ Some n → (m : State) × (s ≡ Some m)
first_read None us n e = absurd (cc)
first_read (Some m) us n e = (m, refl)

pub begins_read : (tokens : List Token) → IsRead tokens → Begins tokens
begins_read tokens r =
    let (rest, n, on, last) = finishes r.state in
    let whole : run start (tokens ++ rest) ≡ Some n = run_append start tokens rest ∙ ap (option_and_then (λ m. run m rest)) r.reached ∙ on in
    record { rest = rest; whole = sound (tokens ++ rest) n whole last }

pub read_begins : (tokens : List Token) → Begins tokens → IsRead tokens
read_begins tokens b =
    let r = read_to_end (tokens ++ b.rest) b.whole in
    let (m, e) = first_read (run start tokens) b.rest r.state (sym (run_append start tokens b.rest) ∙ r.run) in
    record { state = m; reached = e }

pub beginnings_read : ReadsBeginnings
beginnings_read tokens = (begins_read tokens, read_begins tokens)
