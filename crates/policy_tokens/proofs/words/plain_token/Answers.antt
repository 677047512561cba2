use Rattle.std.proofs.Common.{rules}
use Rattle.policy_tokens.proofs.Parts.{unnamed, plain_keyword}
use Rattle.policy_tokens.proofs.words.plain_token.Goals as goal

pub returns-in_ok-keyword_of-in-None : goal.returns-in_ok-keyword_of-in-None
returns-in_ok-keyword_of-in-None c = rw (plain_keyword c.args.word.now (unnamed c.args.word.now c.in-None.ensures.accepted)) (search rules)
