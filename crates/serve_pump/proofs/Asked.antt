-- What a turn asks for, and the control text.
use Rattle.std.proofs.Common.{◌≡◌, ℕ, Bool, true, false, List, [], ◌∷◌, ◌++◌, append-nil, append_assoc, refl, sym, ap, ◌∙◌, subst, inl, inr, ⊎_elim}
use Rattle.std.specs.List.{list_all, list_any}
use Rattle.std.proofs.lemmas.Bool.{and_parts, eq-eqb, or_from, or_parts}
use Rattle.std.proofs.lemmas.Grind.{flat_map-append}
use Rattle.maple_io.specs.declared.act.Act.{Act}
use Rattle.maple_io.specs.declared.act.Act.TheVariants as acts
use Rattle.maple_io.specs.declared.board.Turn.{Turn as BoardTurn}
use Rattle.maple_io.specs.declared.board.Turn.TheVariants as turn
use Rattle.maple_io.specs.Boards.{control_in, control_text}
use Rattle.board_lines.specs.Laws.{held_behind}
use Rattle.board_lines.specs.Readings.{Reading, beginning}
use Rattle.machine_steps.specs.declared.entry.Entry.{Entry}
use Rattle.machine_steps.specs.declared.entry.Input.{Input}
use Rattle.sim_steps.specs.Agreeing.{AreCut}
use Rattle.serve_steps.specs.Deeds.{Deed, Past, act_in, acts_of, bytes_of, ends, inputs_of, is_open, is_over}
use Rattle.serve_steps.specs.Deeds.Deed.{Enters, Does}
use Rattle.serve_steps.specs.Laws.{EndedIsGiven, LastAsks, LinesGoOn}
use Rattle.serve_steps.specs.Parts.{AreCutAtTurns, AreHeard, Asks, Given, Part, deeds_of, has_ended, is_last, is_quiet, is_turn}
use Rattle.serve_steps.specs.Texts.{Ask, AreEntriesOf, control_quits, quits}
use Rattle.serve_channels.specs.Controlling.{IsReading}
use Rattle.serve_channels.specs.Hearing.{HearsWhile}
use Rattle.machine_desk.specs.declared.hearing.Came.TheVariants.{Nothing}
use Rattle.serve_channels.proofs.Items.{last_asked, more_asks}
use Rattle.serve_channels.proofs.Stretching.{gathered_then}
use Rattle.serve_pump.specs.Turning.{Entered, ReadsBy}
use Rattle.serve_pump.proofs.Stretched.{any_grows}

-- ---- the control text

silent : (act : Act) → is_turn (Does act) ≡ false → control_in act ≡ []
silent (acts.Gives t bytes) e = absurd (cc)
silent act e = refl

text_then : (first more : Past) → control_text (acts_of (more ++ first)) ≡ control_text (acts_of first) ++ control_text (acts_of more)
text_then first more = ap control_text (gathered_then act_in first more) ∙ flat_map-append control_in (acts_of first) (acts_of more)

-- where no turn came none of it did
no_text : (done : Past) → list_any is_turn done ≡ false → control_text (acts_of done) ≡ []
no_text [] none = refl
no_text (Enters t ∷ done) none = ap control_text (append-nil (acts_of done)) ∙ no_text done none
no_text (Does act ∷ done) none =
    let both = or_parts (is_turn (Does act)) (list_any is_turn done) none in
    text_then done (Does act ∷ []) ∙ ap (λ (text : List ℕ). text ++ (control_in act ++ [])) (no_text done both.1) ∙ append-nil (control_in act) ∙ silent act both.0

quiet_turn : (d : Deed) → is_quiet d ≡ true → is_turn d ≡ false
quiet_turn (Does (acts.Gives t bytes)) e = absurd (cc)
quiet_turn d e = refl

quiet_turns : (done : Past) → list_all is_quiet done ≡ true → list_any is_turn done ≡ false
quiet_turns [] e = refl
quiet_turns (d ∷ done) e =
    let both = and_parts (is_quiet d) (list_all is_quiet done) e in
    or_from (is_turn d) (list_any is_turn done) (quiet_turn d both.0) (quiet_turns done both.1)

-- behind a turn and what was done since
pub text_behind : (t : BoardTurn) (bytes : List ℕ) (done past : Past) → list_all is_quiet done ≡ true
    → control_text (acts_of (done ++ Does (acts.Gives t bytes) ∷ past)) ≡ control_text (acts_of past) ++ control_in (acts.Gives t bytes)
text_behind t bytes done past quiet =
    let gives = Does (acts.Gives t bytes) in
    text_then (gives ∷ past) done
    ∙ ap (λ (text : List ℕ). control_text (acts_of (gives ∷ past)) ++ text) (no_text done (quiet_turns done quiet))
    ∙ append-nil (control_text (acts_of (gives ∷ past)))
    ∙ text_then past (gives ∷ [])
    ∙ ap (λ (text : List ℕ). control_text (acts_of past) ++ text) (append-nil (control_in (acts.Gives t bytes)))

not_last : (t : BoardTurn) (text : List ℕ) → is_last t text ≡ false → control_quits text ≡ false
not_last turn.End text e = absurd (cc)
not_last t text e = e

-- a run that goes on has read no `quit`
no_quit : EndedIsGiven → (g : Given) (first : Past) (parts : List Part) → AreCutAtTurns first parts → has_ended g first parts ≡ false
    → control_quits (control_text (acts_of (deeds_of first parts))) ≡ false
no_quit law g first [] cut e = ap control_quits (no_text first cut) ∙ ap quits (sym (law []))
no_quit law g first (p ∷ ahead) cut e = not_last p.given (control_text (acts_of (deeds_of first (p ∷ ahead)))) e

pub reads_on : EndedIsGiven → (g : Given) (first : Past) (parts : List Part) (r : Reading) → AreCutAtTurns first parts → has_ended g first parts ≡ false
    → r ≡ held_behind beginning (control_text (acts_of (deeds_of first parts))) → IsReading (control_text (acts_of (deeds_of first parts))) r
reads_on law g first parts r cut e held = record { held = held; goes_on = no_quit law g first parts cut e }

-- ---- what is asked for

module _ (c n : ℕ) (bytes : List ℕ) (past : Past) (own : List Entry) (done : Past) where
  abbrev turned : Past
  turned = Does (acts.Gives (turn.Bytes c n) bytes) ∷ past

  came : bytes_of c turned ≡ bytes_of c past ++ bytes
  came = rw (eq-eqb c c refl) refl

  heard_next : (b : Bool) → HearsWhile b c Nothing turned own done → AreHeard b c past bytes (done ++ turned) own
  heard_next true h = record {
    inputs = h.inputs;
    rest = h.rest;
    entries_are = h.entries_are;
    cut =
        subst (λ (xs : List ℕ). AreCut 0 (inputs_of c past ++ h.inputs) xs h.rest) came
        (subst (λ (is : List Input). AreCut 0 (is ++ h.inputs) (bytes_of c turned) h.rest) (append-nil (inputs_of c past)) h.cut);
    up_to = h.up_to;
  }
  heard_next false h = h

pub asks_by : LinesGoOn → LastAsks → (past : Past) (t : BoardTurn) (bytes : List ℕ) (r : Reading) (own : List Entry) (done : Past)
    → IsReading (control_text (acts_of past)) r → Entered t bytes r (Does (acts.Gives t bytes) ∷ past) own done
    → Asks past t bytes (done ++ Does (acts.Gives t bytes) ∷ past) own
asks_by on last past (turn.Opened c) bytes r own done is h = h
asks_by on last past (turn.Bytes c n) bytes r own done is h = heard_next c n bytes past own done (is_open c past) h
asks_by on last past (turn.Closed c) bytes r own done is h = h
asks_by on last past (turn.Broken c) bytes r own done is h = h
asks_by on last past (turn.Control n) bytes r own done is h =
    subst (λ (asks : List Ask). AreEntriesOf asks own) (sym (more_asks on (control_text (acts_of past)) bytes r is)) h
asks_by on last past turn.Idle bytes r own done is h = h
asks_by on last past turn.End bytes r own done is h =
    subst (λ (asks : List Ask). AreEntriesOf asks own) (sym (last_asked last (control_text (acts_of past)) r is)) h
asks_by on last past turn.Failed bytes r own done is h = absurd h
asks_by on last past turn.NoMemory bytes r own done is h = absurd h

-- it stays so where more was done, and nothing asked for
pub entered_on : (past : Past) (t : BoardTurn) (bytes : List ℕ) (r : Reading) (own : List Entry) (first more : Past) → Entered t bytes r past own first
    → Entered t bytes r past own (more ++ first)
entered_on past (turn.Opened c) bytes r own first more h = h
entered_on past (turn.Bytes c n) bytes r own first more h = heard_on (is_open c past) h
  where
    heard_on : (b : Bool) → HearsWhile b c Nothing past own first → HearsWhile b c Nothing past own (more ++ first)
    heard_on true h = record {
      inputs = h.inputs;
      rest = h.rest;
      entries_are = h.entries_are;
      cut = h.cut;
      up_to =
          ⊎_elim
          (λ over. inl (ap (is_over c) (append_assoc more first past) ∙ any_grows (ends c) more (first ++ past) over))
          (λ open_rest. inr open_rest) h.up_to;
    }
    heard_on false h = h
entered_on past (turn.Closed c) bytes r own first more h = h
entered_on past (turn.Broken c) bytes r own first more h = h
entered_on past (turn.Control n) bytes r own first more h = h
entered_on past turn.Idle bytes r own first more h = h
entered_on past turn.End bytes r own first more h = h
entered_on past turn.Failed bytes r own first more h = absurd h
entered_on past turn.NoMemory bytes r own first more h = absurd h

pub entered_then : (past : Past) (t : BoardTurn) (bytes : List ℕ) (r : Reading) (ours theirs : List Entry) (first more : Past) → Entered t bytes r past ours first
    → theirs ≡ [] → Entered t bytes r past (ours ++ theirs) (more ++ first)
entered_then past t bytes r ours theirs first more h none =
    subst (λ (es : List Entry). Entered t bytes r past es (more ++ first)) (sym (ap (λ (es : List Entry). ours ++ es) none ∙ append-nil ours))
    (entered_on past t bytes r ours first more h)

-- ---- whether it was the last turn

module _ (text bytes : List ℕ) (ended : Bool) (r q : Reading) (is : IsReading text r) where
  pub last_by : (t : BoardTurn) → ReadsBy t bytes ended r q → is_last t (text ++ control_in (acts.Gives t bytes)) ≡ ended
  last_by (turn.Control n) h = sym (h text is).ended_is
  last_by turn.End h = sym h
  last_by t h = ap control_quits (append-nil text) ∙ is.goes_on ∙ sym h.0

  pub held_by : (t : BoardTurn) → ReadsBy t bytes ended r q → ended ≡ false → q ≡ held_behind beginning (text ++ control_in (acts.Gives t bytes))
  held_by (turn.Control n) h e = ((h text is).reading e).held
  held_by turn.End h e = absurd (cc)
  held_by t h e = h.1 ∙ is.held ∙ ap (held_behind beginning) (sym (append-nil text))
