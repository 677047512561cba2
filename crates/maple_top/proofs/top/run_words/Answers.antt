use Rattle.std.proofs.Common.{map, refl, sym, ap, ◌∙◌, subst, Err, Some, arith, inl, ◌++◌}
use Rattle.std.specs.Prelude.{⊤}
use Rattle.maple_io.proofs.Pieces.{wrote_nothing}
use Rattle.gen_script.specs.Script.{script_of}
use Rattle.command_words.specs.declared.words.Command.TheVariants.{Gen}
use Rattle.maple_top.specs.declared.status.Status.TheVariants.{NoMemory, ReadFault}
use Rattle.maple_top.specs.Due.{IsReading}
use Rattle.maple_top.specs.Ends.{IsAside}
use Rattle.maple_top.specs.Outcomes.{switches}
use Rattle.maple_top.specs.Running.{read_texts}
use Rattle.maple_top.specs.Statuses.{last_line}
use Rattle.maple_top.proofs.Answered.{heard_so, unheard}
use Rattle.maple_top.proofs.Endings.{ends_front}
use Rattle.maple_top.proofs.Reading.{made_are, not_words, reads_else, reads_no_gen, runs_input, serves_not, simulates_not}
use Rattle.maple_top.proofs.Results.{ended_unfailed, failed_read, given_unfailed, lacks_memory, of_any, of_long, of_whole, read_too_long, refused_words, texts_aside, texts_ran}
use Rattle.maple_top.proofs.top.run_words.Goals as goal

-- ---- words that are refused

pub returns-in_default-clause-results : goal.returns-in_default-clause-results
returns-in_default-clause-results g c =
    of_any (g.I.Source.tells c.args.from.now) (g.I.Source.tells c.args.from.now) _ (λ heard. ⊤)
    (λ ended bytes. refused_words ended _ c.args.words.now bytes _ (g.O.Sink.tells c.args.to.now) (g.O.Sink.tells c.finish.new.output) c.finish.result
    (not_words c.args.words.now (sym c.in_default.is ∙ c.command_of.ensures.command)) c.finish.ensures.ends) (unheard (g.I.Source.tells c.args.from.now) (λ heard. ⊤) tt)

pub returns-in_default-clause-failed : goal.returns-in_default-clause-failed
returns-in_default-clause-failed g c = unheard (g.I.Source.tells c.args.from.now) _ (λ e. absurd (let none = e in cc))

pub returns-in_default-clause-last : goal.returns-in_default-clause-last
returns-in_default-clause-last g c = unheard (g.I.Source.tells c.args.from.now) IsReading (omega arith, omega arith, inl refl)

-- ---- a script that a number makes

pub returns-in_default-make_script-clause-results : goal.returns-in_default-make_script-clause-results
returns-in_default-make_script-clause-results g c =
    of_any (g.I.Source.tells c.args.from.now) (g.I.Source.tells c.args.from.now) _ (λ heard. ⊤)
    (λ ended bytes. lacks_memory ended _ c.args.words.now bytes _ (g.O.Sink.tells c.args.to.now) (g.O.Sink.tells c.args.to.now) NoMemory refl (wrote_nothing (g.O.Sink.tells c.args.to.now)))
    (unheard (g.I.Source.tells c.args.from.now) (λ heard. ⊤) tt)

pub returns-in-Gen-clause-results : goal.returns-in-Gen-clause-results
returns-in-Gen-clause-results g c =
    of_any (g.I.Source.tells c.args.from.now) (g.I.Source.tells c.args.from.now) _ (λ heard. ⊤)
    (λ ended bytes. texts_ran ended _ c.args.words.now bytes (switches (map g.D.Device.meaning c.args.all.now) (g.B.Board.tells c.args.board.now)) (g.O.Sink.tells c.args.to.now)
    (g.O.Sink.tells c.run_texts.new.to) c.run_texts.result (Gen c.in-Gen.number c.in-Gen.settings) (sym c.in-Some.ensures.command ∙ ap Some c.in-Gen.is)
    (λ r. absurd (reads_no_gen c.in-Gen.number c.in-Gen.settings r)) (read_texts c.made_texts.result)
    (made_are (Gen c.in-Gen.number c.in-Gen.settings) c.in-Gen.number c.in-Gen.settings bytes c.deref.result.now refl c.made_texts.ensures (c.deref.ensures.value ∙ c.in-Ok.ensures.script ∙ ap (λ b. b ++ script_of c.in-Gen.number) c.new-script.ensures.items))
    (switches (map g.D.Device.meaning c.run_texts.new.all) (g.B.Board.tells c.run_texts.new.board)) c.run_texts.ensures.run) (unheard (g.I.Source.tells c.args.from.now) (λ heard. ⊤) tt)

pub returns-in-Gen-clause-failed : goal.returns-in-Gen-clause-failed
returns-in-Gen-clause-failed g c = unheard (g.I.Source.tells c.args.from.now) _ (λ e. absurd (let none = e in cc))

pub returns-in-Gen-clause-last : goal.returns-in-Gen-clause-last
returns-in-Gen-clause-last g c = unheard (g.I.Source.tells c.args.from.now) IsReading (omega arith, omega arith, inl refl)

-- ---- an input that was read

pub returns-in-Ok-read_all-clause-results : goal.returns-in-Ok-read_all-clause-results
returns-in-Ok-read_all-clause-results g c =
    of_whole (g.I.Source.tells c.args.from.now) (g.I.Source.tells c.read_all.new.input) _ c.in-Ok-read_all.text.items
    (λ ended end. texts_ran ended _ c.args.words.now c.in-Ok-read_all.text.items (switches (map g.D.Device.meaning c.args.all.now) (g.B.Board.tells c.args.board.now))
    (g.O.Sink.tells c.args.to.now) (g.O.Sink.tells c.run_texts-in-Ok-read_all.new.to) c.run_texts-in-Ok-read_all.result c.in-Some.command (sym c.in-Some.ensures.command)
    (λ r. (end, c.in-Ok-read_all.ensures.fit)) (read_texts c.input_texts.result)
    (runs_input c.in-Some.command c.in-Ok-read_all.text.items c.in_default-command.not-Gen (rw c.deref-in-Ok-read_all.ensures.value at c.input_texts.ensures.texts))
    (switches (map g.D.Device.meaning c.run_texts-in-Ok-read_all.new.all) (g.B.Board.tells c.run_texts-in-Ok-read_all.new.board)) c.run_texts-in-Ok-read_all.ensures.run)
    c.in-Ok-read_all.ensures.whole c.in-Ok-read_all.ensures.end c.in-Ok-read_all.ensures.heard

pub returns-in-Ok-read_all-clause-failed : goal.returns-in-Ok-read_all-clause-failed
returns-in-Ok-read_all-clause-failed g c =
    heard_so (g.I.Source.tells c.args.from.now) (g.I.Source.tells c.read_all.new.input) _ (λ heard h f. absurd (ended_unfailed heard h.0 f)) c.in-Ok-read_all.ensures.heard

pub returns-in-Ok-read_all-clause-unread : goal.returns-in-Ok-read_all-clause-unread
returns-in-Ok-read_all-clause-unread g c =
    λ none. absurd (none (c.in-Some.command, sym c.in-Some.ensures.command, reads_else c.in-Some.command c.in_default-command.not-Gen))

pub returns-in-Ok-read_all-clause-over : goal.returns-in-Ok-read_all-clause-over
returns-in-Ok-read_all-clause-over g c =
    λ e. absurd (let other = sym e ∙ texts_aside c.in-Some.command (read_texts c.input_texts.result) _ _ (g.O.Sink.tells c.args.to.now)
    (g.O.Sink.tells c.run_texts-in-Ok-read_all.new.to) c.run_texts-in-Ok-read_all.result c.run_texts-in-Ok-read_all.ensures.run (subst IsAside (sym e) tt) in cc)

pub returns-in-Ok-read_all-clause-board_aside : goal.returns-in-Ok-read_all-clause-board_aside
returns-in-Ok-read_all-clause-board_aside g c =
    λ a. c.run_texts-in-Ok-read_all.ensures.refused (texts_aside c.in-Some.command (read_texts c.input_texts.result) _ _ (g.O.Sink.tells c.args.to.now)
    (g.O.Sink.tells c.run_texts-in-Ok-read_all.new.to) c.run_texts-in-Ok-read_all.result c.run_texts-in-Ok-read_all.ensures.run a)

pub returns-in-Ok-read_all-clause-uncalled : goal.returns-in-Ok-read_all-clause-uncalled
returns-in-Ok-read_all-clause-uncalled g c =
    λ none. c.run_texts-in-Ok-read_all.ensures.uncalled (simulates_not c.args.words.now c.in-Some.command (sym c.in-Some.ensures.command) none)

pub returns-in-Ok-read_all-clause-unserved : goal.returns-in-Ok-read_all-clause-unserved
returns-in-Ok-read_all-clause-unserved g c =
    λ none. c.run_texts-in-Ok-read_all.ensures.unserved (serves_not c.args.words.now c.in-Some.command (sym c.in-Some.ensures.command) none)

pub returns-in-Gen-clause-over : goal.returns-in-Gen-clause-over
returns-in-Gen-clause-over g c =
    λ e. absurd (let other = sym e ∙ texts_aside (Gen c.in-Gen.number c.in-Gen.settings) (read_texts c.made_texts.result) _ _ (g.O.Sink.tells c.args.to.now)
    (g.O.Sink.tells c.run_texts.new.to) c.run_texts.result c.run_texts.ensures.run (subst IsAside (sym e) tt) in cc)

pub returns-in-Gen-clause-board_aside : goal.returns-in-Gen-clause-board_aside
returns-in-Gen-clause-board_aside g c =
    λ a. c.run_texts.ensures.refused (texts_aside (Gen c.in-Gen.number c.in-Gen.settings) (read_texts c.made_texts.result) _ _ (g.O.Sink.tells c.args.to.now) (g.O.Sink.tells c.run_texts.new.to)
    c.run_texts.result c.run_texts.ensures.run a)

pub returns-in-Gen-clause-uncalled : goal.returns-in-Gen-clause-uncalled
returns-in-Gen-clause-uncalled g c = λ none. c.run_texts.ensures.uncalled (simulates_not c.args.words.now (Gen c.in-Gen.number c.in-Gen.settings) (sym c.in-Some.ensures.command ∙ ap Some c.in-Gen.is) none)

pub returns-in-Gen-clause-unserved : goal.returns-in-Gen-clause-unserved
returns-in-Gen-clause-unserved g c = λ none. c.run_texts.ensures.unserved (serves_not c.args.words.now (Gen c.in-Gen.number c.in-Gen.settings) (sym c.in-Some.ensures.command ∙ ap Some c.in-Gen.is) none)

-- ---- an input that was not read to its end

pub returns-in-Err-Failed-clause-results : goal.returns-in-Err-Failed-clause-results
returns-in-Err-Failed-clause-results g c =
    let heard = rw (c.in-Err-Failed.is ∙ ap Err c.in-Err-Failed.field-0-is) at c.read_all.ensures.heard in
    of_any (g.I.Source.tells c.args.from.now) (g.I.Source.tells c.read_all.new.input) _ _
    (λ ended bytes. failed_read ended _ c.args.words.now bytes _ (g.O.Sink.tells c.args.to.now) (g.O.Sink.tells c.finish-in-Err-Failed.new.output) c.finish-in-Err-Failed.result
    (c.in-Some.command, sym c.in-Some.ensures.command, reads_else c.in-Some.command c.in_default-command.not-Gen)
    (c.read_all.ensures.cause (c.in-Err-Failed.is ∙ ap Err c.in-Err-Failed.field-0-is), heard) c.finish-in-Err-Failed.ensures.ends) heard

pub returns-in-Err-Failed-clause-unread : goal.returns-in-Err-Failed-clause-unread
returns-in-Err-Failed-clause-unread g c =
    λ none. absurd (none (c.in-Some.command, sym c.in-Some.ensures.command, reads_else c.in-Some.command c.in_default-command.not-Gen))

pub returns-in-Err-Failed-clause-first : goal.returns-in-Err-Failed-clause-first
returns-in-Err-Failed-clause-first g c =
    λ n. ends_front (g.O.Sink.tells c.args.to.now) (g.O.Sink.tells c.finish-in-Err-Failed.new.output) (last_line ReadFault) ReadFault c.finish-in-Err-Failed.result
    c.finish-in-Err-Failed.ensures.ends

pub returns-in-Err-Failed-clause-failed : goal.returns-in-Err-Failed-clause-failed
returns-in-Err-Failed-clause-failed g c =
    heard_so (g.I.Source.tells c.args.from.now) (g.I.Source.tells c.read_all.new.input) _
    (λ heard h f. ends_front (g.O.Sink.tells c.args.to.now) (g.O.Sink.tells c.finish-in-Err-Failed.new.output) (last_line ReadFault) ReadFault
    c.finish-in-Err-Failed.result c.finish-in-Err-Failed.ensures.ends) c.read_all.ensures.heard

pub returns-in-Err-TooLong-clause-results : goal.returns-in-Err-TooLong-clause-results
returns-in-Err-TooLong-clause-results g c =
    let is = c.in-Err-TooLong.is ∙ ap Err c.in-Err-TooLong.field-0-is in
    of_long (g.I.Source.tells c.args.from.now) (g.I.Source.tells c.read_all.new.input) _
    (λ ended bytes long. read_too_long ended _ c.args.words.now bytes _ (g.O.Sink.tells c.args.to.now) (g.O.Sink.tells c.finish-in-Err-TooLong.new.output) c.finish-in-Err-TooLong.result
    (c.in-Some.command, sym c.in-Some.ensures.command, reads_else c.in-Some.command c.in_default-command.not-Gen) long c.finish-in-Err-TooLong.ensures.ends)
    (c.read_all.ensures.long is) (rw is at c.read_all.ensures.heard)

pub returns-in-Err-TooLong-clause-unread : goal.returns-in-Err-TooLong-clause-unread
returns-in-Err-TooLong-clause-unread g c =
    λ none. absurd (none (c.in-Some.command, sym c.in-Some.ensures.command, reads_else c.in-Some.command c.in_default-command.not-Gen))

pub returns-in-Err-TooLong-clause-failed : goal.returns-in-Err-TooLong-clause-failed
returns-in-Err-TooLong-clause-failed g c =
    heard_so (g.I.Source.tells c.args.from.now) (g.I.Source.tells c.read_all.new.input) _ (λ heard h f. absurd (given_unfailed heard h.0 f))
    (rw (c.in-Err-TooLong.is ∙ ap Err c.in-Err-TooLong.field-0-is) at c.read_all.ensures.heard)

pub returns-in-Err-NoMemory-clause-results : goal.returns-in-Err-NoMemory-clause-results
returns-in-Err-NoMemory-clause-results g c =
    of_any (g.I.Source.tells c.args.from.now) (g.I.Source.tells c.read_all.new.input) _ _
    (λ ended bytes. lacks_memory ended _ c.args.words.now bytes _ (g.O.Sink.tells c.args.to.now) (g.O.Sink.tells c.args.to.now) NoMemory refl (wrote_nothing (g.O.Sink.tells c.args.to.now)))
    c.read_all.ensures.heard

pub returns-in-Err-NoMemory-clause-unread : goal.returns-in-Err-NoMemory-clause-unread
returns-in-Err-NoMemory-clause-unread g c =
    λ none. absurd (none (c.in-Some.command, sym c.in-Some.ensures.command, reads_else c.in-Some.command c.in_default-command.not-Gen))

pub returns-in-Err-NoMemory-clause-failed : goal.returns-in-Err-NoMemory-clause-failed
returns-in-Err-NoMemory-clause-failed g c =
    heard_so (g.I.Source.tells c.args.from.now) (g.I.Source.tells c.read_all.new.input) _ (λ heard h f. absurd (given_unfailed heard h f))
    (rw (c.in-Err-NoMemory.is ∙ ap Err c.in-Err-NoMemory.field-0-is) at c.read_all.ensures.heard)
