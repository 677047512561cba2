use Rattle.policy_tokens.proofs.LaidOut.{lexemes_read, blanks_add, comments_add, last_comments_add, stand_there, words_decide, is_faultless}
use Rattle.policy_tokens.proofs.laws.layout_laws.Goals as goal

pub returns : goal.returns
returns c = record { lexemes = lexemes_read; blanks = blanks_add; comments = comments_add; last_comment = last_comments_add; positions = stand_there; tokens = words_decide; faultless = is_faultless }
