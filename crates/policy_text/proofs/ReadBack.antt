-- A policy is read back from its printed form.
use Rattle.std.proofs.Common.{sym, ap, ◌∙◌}
use Rattle.policy_lang.specs.declared.Policy.{Policy}
use Rattle.policy_lang.specs.Faults.{name_faults}
use Rattle.policy_lang.specs.PolicyTree.{policy_tree}
use Rattle.policy_text.specs.PrintLaws.{IsOfGrammar, IsTree, PassesNone, SpelledAsWritten}
use Rattle.policy_text.specs.Written.{file_of}
use Rattle.policy_text.specs.TextLaws.{IsReadBack}

pub read_back : IsOfGrammar → IsTree → PassesNone → SpelledAsWritten → (p : Policy) → IsReadBack p
read_back grammar tree limits spelled p short =
    let t = policy_tree p in
    let written = spelled t p.sound short in
    record {
      faultless = written.faultless;
      is_policy = record {
        file = file_of t;
        is_file = record { body = grammar t p.sound; same = written.tokens; free = limits t p.sound p.formed.free p.few };
        tree = sym (tree t p.sound);
        named = ap (λ t. name_faults t.tables t.body) (tree t p.sound) ∙ p.formed.named;
      };
    }
