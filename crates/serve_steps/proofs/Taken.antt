-- The report is taken once more, behind all that was done in a run.
use Rattle.std.proofs.Common.{ℕ, Bool, true, false, List, [], ◌∷◌, Option, append-nil, refl, sym, ap, ◌∙◌, subst, inl, inr, ⊎_elim}
use Rattle.std.proofs.lemmas.Bool.{and_from}
use Rattle.maple_io.specs.Boards.{control_text}
use Rattle.maple_io.specs.declared.act.Act.{Act}
use Rattle.maple_io.specs.declared.board.Turn.{Turn as BoardTurn}
use Rattle.maple_io.specs.declared.board.Turn.TheVariants as turn
use Rattle.machine_steps.specs.declared.entry.Entry.{Entry}
use Rattle.machine_steps.specs.declared.entry.Entry.TheVariants as entries
use Rattle.machine_steps.specs.declared.reply.Reply.{Reply}
use Rattle.machine_steps.specs.Histories.{Turn}
use Rattle.machine_steps.specs.Machine.{State}
use Rattle.serve_steps.specs.Deeds.{Past, acts_of, is_open}
use Rattle.serve_steps.specs.Deeds.Deed.{Enters}
use Rattle.serve_steps.specs.Laws.{TakenStaysInCut, TakenStaysInEnd, TakenStaysInLastAsked, first_entered, parts_entered}
use Rattle.serve_steps.specs.Parts.{AreHeard, Asks, Given, IsAsked, Part, all_told, deeds_of, due, is_last, keeps_due, own_of}
use Rattle.serve_steps.specs.Runs.{ArePartsButLast, IsLastAsked, IsScripted}
use Rattle.serve_steps.specs.Texts.{AreEntriesOf, ahead_of_refused, script_asks}

module _ (before behind : State) (r : Reply) where
  abbrev take : Turn
  take = record { before = before; entry = entries.TakeReport; reply = r; behind = behind }

  heard_on : (is_there : Bool) (c : ℕ) (past : Past) (bytes : List ℕ) (after : Past) (own : List Entry) → AreHeard is_there c past bytes after own
      → AreHeard is_there c past bytes (Enters take ∷ after) own
  heard_on true c past bytes after own is = record { inputs = is.inputs; rest = is.rest; entries_are = is.entries_are; cut = is.cut; up_to = is.up_to }
  heard_on false c past bytes after own is = is

  asks_on : (past : Past) (given : BoardTurn) (bytes : List ℕ) (after : Past) (own : List Entry) → Asks past given bytes after own
      → Asks past given bytes (Enters take ∷ after) own
  asks_on past (turn.Bytes c n) bytes after own is = heard_on (is_open c past) c past bytes after own is
  asks_on past given bytes after own is = is

  scripted_on : (g : Given) (first : Past) → IsScripted g first → IsScripted g (Enters take ∷ first)
  scripted_on g first is = record {
    asked =
        subst (λ (es : List Entry). AreEntriesOf (ahead_of_refused (script_asks g.first_line g.script)) es) (sym (append-nil (own_of first))) is.asked;
    memory = is.memory;
  }

  asked_on : (g : Given) (first : Past) (ahead : List Part) (p : Part) → IsAsked g first ahead p → IsAsked g first ahead (record p { done = Enters take ∷ p.done })
  asked_on g first ahead p is = record {
    goes_on = is.goes_on;
    asked =
        subst (λ (es : List Entry). Asks (deeds_of first ahead) p.given p.bytes (Enters take ∷ deeds_of first (p ∷ ahead)) es) (sym (append-nil (own_of p.done)))
        (asks_on (deeds_of first ahead) p.given p.bytes (deeds_of first (p ∷ ahead)) (own_of p.done) is.asked);
    memory = is.memory;
    while_open = (refl, is.while_open);
    told =
        and_from (keeps_due (due p.done) (Enters take)) (all_told p.done) (ap (λ (o : Option ℕ). keeps_due o (Enters take)) is.none_due) is.told;
    none_due = refl;
  }

  last_asked_on : (g : Given) (first : Past) (parts : List Part) → ArePartsButLast g first parts × IsLastAsked g first parts
      → ArePartsButLast g (first_entered (take ∷ []) first parts) (parts_entered (take ∷ []) parts)
      × IsLastAsked g (first_entered (take ∷ []) first parts) (parts_entered (take ∷ []) parts)
  last_asked_on g first [] is = (
    tt,
    (
      scripted_on g first is.1.0,
      is.1.1,
      (tt, is.1.2),
      ⊎_elim (λ e. inl (append-nil (acts_of first) ∙ e)) (λ e. inr (append-nil (acts_of first) ∙ e)) is.1.3,
    ),
  )
  last_asked_on g first (p ∷ ahead) is = (is.0, (asked_on g first ahead p is.1.0, (tt, is.1.1)))

-- of any turn that takes it
abbrev Taking : Turn → Entry → Turn
Taking t entry = record { before = t.before; entry = entry; reply = t.reply; behind = t.behind }

pub taken_stays_in_last_asked : TakenStaysInLastAsked
taken_stays_in_last_asked g first parts t e is =
    subst
    (λ (entry : Entry). ArePartsButLast g (first_entered (Taking t entry ∷ []) first parts) (parts_entered (Taking t entry ∷ []) parts)
    × IsLastAsked g (first_entered (Taking t entry ∷ []) first parts) (parts_entered (Taking t entry ∷ []) parts))
    (sym e) (last_asked_on t.before t.behind t.reply g first parts is)

pub taken_stays_in_cut : TakenStaysInCut
taken_stays_in_cut g first [] t e is = is
taken_stays_in_cut g first (p ∷ ahead) t e is = is

pub taken_stays_in_end : TakenStaysInEnd
taken_stays_in_end ended g first [] t e is = is
taken_stays_in_end ended g first (p ∷ ahead) t e is =
    ap (λ (acts : List Act). is_last p.given (control_text acts)) (append-nil (acts_of (deeds_of first (p ∷ ahead)))) ∙ is
