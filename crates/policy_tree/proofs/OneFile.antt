-- Tokens are those of one file alone: what is read of them makes one file alone.
use Rattle.std.proofs.Common.{◌≡◌, Some, sym, ap, ◌∙◌}
use Rattle.policy_grammar.specs.Grammar.{File, AreStatements, file_tokens}
use Rattle.policy_grammar.specs.Automaton as reader
use Rattle.policy_grammar.specs.Events.{file_events, trace}
use Rattle.policy_grammar.proofs.Complete.{traced}
use Rattle.policy_tree.specs.Machine.{State, start, replay, whole}
use Rattle.policy_tree.proofs.Replays.{file_made}

abbrev file_of : State → File
file_of w = record { tables = w.tables; learning = w.learning; body = w.body }

-- what was read is of one file alone
pub one_origin : (f g : File) → AreStatements f.body → AreStatements g.body → file_events f ≡ file_events g → f ≡ g
one_origin f g h j same =
    let both : Some (whole f) ≡ Some (whole g) = sym (file_made f h) ∙ ap (λ es. replay es start) same ∙ file_made g j in
    let one : whole f ≡ whole g = cc in
    ap file_of one

pub one_file : (f g : File) → AreStatements f.body → AreStatements g.body → file_tokens f ≡ file_tokens g → f ≡ g
one_file f g h j same = one_origin f g h j (sym (traced f h) ∙ ap (trace reader.start) same ∙ traced g j)
