use Rattle.script_text.specs.Lines.{ended_lines}
use Rattle.script_text.proofs.Texts.{policy_behind}
use Rattle.script_text.proofs.next.text_behind.Goals as goal

pub returns-in-NewPolicy-clause-behind : goal.returns-in-NewPolicy-clause-behind
returns-in-NewPolicy-clause-behind c =
    rw (c.in-NewPolicy.is, c.split_at_mark.ensures.ahead, c.split_at_mark.ensures.lines, c.split_at_mark.ensures.behind) (policy_behind (ended_lines c.args.behind.now))
