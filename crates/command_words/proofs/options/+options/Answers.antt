use Rattle.std.proofs.Common.{sym, ap, ◌∙◌}
use Rattle.command_words.specs.Options.{setting_given, setting_named, with_setting}
use Rattle.command_words.proofs.OptionWords.{one_word, two_words}
use Rattle.command_words.proofs.options.+options.Goals as goal

pub returns-in_ok-with_setting-in-Some : goal.returns-in_ok-with_setting-in-Some
returns-in_ok-with_setting-in-Some t c =
    c.options.ensures
    ∙ sym (one_word c.args.words.now c.word-item-2.result c.next-item.result c.args.chosen c.in_ok-with_setting-in-Some.field-0 c.in-Some.setting c.in-Some.value.now
    c.in-len2-up.len_at_least c.word-item-2.is c.next-item.is
    (sym (c.in-Some.ensures ∙ ap setting_given c.items-in-len2-up.ensures)) (sym c.in_ok-with_setting-in-Some.ensures))

pub returns-in_ok-with_setting-in-None : goal.returns-in_ok-with_setting-in-None
returns-in_ok-with_setting-in-None t c =
    c.options-in-None.ensures
    ∙ sym (two_words c.args.words.now c.word-item-2.result c.next-item.result c.args.chosen c.in_ok-with_setting-in-None.field-0 c.in_ok-setting-in-None.setting
    c.in-len2-up.len_at_least c.word-item-2.is c.next-item.is
    (sym (c.in-None.ensures ∙ ap setting_given c.items-in-len2-up.ensures)) (sym (c.in_ok-setting-in-None.ensures ∙ ap setting_named c.items-in-None.ensures))
    (ap (λ v. with_setting c.in_ok-setting-in-None.setting v c.args.chosen) (sym c.items-in-None-2.ensures) ∙ sym c.in_ok-with_setting-in-None.ensures))
