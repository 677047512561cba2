-- Two policies of one text are one tree.
use Rattle.std.proofs.Common.{◌≡◌, List, sym, ap, ◌∙◌}
use Rattle.policy_tokens.specs.declared.token.Token.{Token}
use Rattle.policy_tokens.specs.Tokens.{tokens_of}
use Rattle.policy_grammar.specs.Grammar.{File}
use Rattle.policy_tree.specs.Laws.{OneFile}
use Rattle.policy_tree.specs.Trees.{file_tree}
use Rattle.policy_text.specs.TextLaws.{OnePolicy}
use Rattle.policy_text.specs.Texts.{plain, IsFileOf}

pub same_file : OneFile → (tokens : List Token) (f g : File) → IsFileOf f tokens → IsFileOf g tokens → f ≡ g
same_file one tokens f g h k = one f g h.body k.body (sym h.same ∙ k.same)

pub one_policy : OneFile → OnePolicy
one_policy one text p q h k =
    let same = same_file one (plain (tokens_of text)) h.is_policy.file k.is_policy.file h.is_policy.is_file k.is_policy.is_file in
    h.is_policy.tree ∙ ap file_tree same ∙ sym k.is_policy.tree
