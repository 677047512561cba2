-- The laws of the printed form.
use Rattle.std.proofs.Common.{ap, sym, subst}
use Rattle.policy_lang.specs.Nodes.{AreFree}
use Rattle.policy_outline.specs.FileNodes.{body_first}
use Rattle.policy_text.specs.Written.{file_of}
use Rattle.policy_text.specs.PrintLaws.{IsOfGrammar, IsTree, HasNodes, PassesNone, SpelledAsWritten}
use Rattle.policy_text.proofs.TreeDepths.{free_anywhere}
use Rattle.policy_text.proofs.Grammatical.{acts_right}
use Rattle.policy_text.proofs.Opened.{few_open}
use Rattle.policy_text.proofs.SameNodes.{acts_go}
use Rattle.policy_text.proofs.SpelledActs.{spelled}

pub of_grammar : IsOfGrammar
of_grammar p sound = (acts_right p.body sound.parts).0

pub is_tree : IsTree
is_tree p sound = ap (λ b. record { tables = p.tables; learning = p.learning; body = b }) (acts_right p.body sound.parts).1

pub has_nodes : HasNodes
has_nodes p sound = acts_go p.body sound.parts (body_first (file_of p)) 1

pub passes_none : PassesNone
passes_none p sound free few =
    let i = body_first (file_of p) in
    record {
      nodes = subst AreFree (sym (has_nodes p sound)) (free_anywhere p.body 1 i 1 free);
      parentheses = few_open p.body 1 1 i free.shallow;
      tables = few;
    }

pub spelled_as_written : SpelledAsWritten
spelled_as_written p sound short = let s = spelled p sound short in record { faultless = s.0; tokens = s.1 }
