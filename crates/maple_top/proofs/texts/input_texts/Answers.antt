use Rattle.std.proofs.Common.{◌+◌, sym, ap, ◌∙◌}
use Rattle.std.specs.List.{concat}
use Rattle.maple_top.proofs.Lines.{lines_joined, texts_are}
use Rattle.maple_top.proofs.texts.input_texts.Goals as goal

pub returns-clause-texts : goal.returns-clause-texts
returns-clause-texts c =
    texts_are c.args.input.now _ _ _ c.split_at_mark-lines.ensures.ahead
    (sym (lines_joined c.split_at_mark-lines.result.1.now) ∙ ap concat c.split_at_mark-lines.ensures.behind) (ap (λ n. n + 1) c.split_at_mark-lines.ensures.lines)
