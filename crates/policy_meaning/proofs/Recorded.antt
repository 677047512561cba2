-- Notes that lead to an end are a trace.
use Rattle.std.proofs.Common.{◌≡◌, sym, ◌∙◌, subst}
use Rattle.std.proofs.lemmas.List.{append-nil}
use Rattle.maple_base.specs.declared.key.Key.{Key}
use Rattle.maple_base.specs.declared.cells.Value.TheVariants.{Nothing}
use Rattle.maple_base.specs.declared.decision.Outcome.{Outcome}
use Rattle.policy_meaning.specs.Cells.{SomeGives}
use Rattle.policy_meaning.specs.Asking.{Asking, Done, AsksField, AsksTest, AsksCell}
use Rattle.policy_meaning.specs.Readings.{outcome_in, items_of, cells_of}
use Rattle.policy_meaning.specs.Through.{Seen, nothing, through}
use Rattle.policy_meaning.specs.Leads.{Leads}
use Rattle.policy_meaning.specs.Notes.{Notes}
use Rattle.policy_meaning.specs.QuestionLaws.{IsTrace, NotedTrace}
use Rattle.policy_meaning.proofs.QuestionsLawful.{as_evaluated, law_of_traces}
use Rattle.policy_meaning.proofs.Noted.{notes_lead}

notes_some : (k : Key) (s : Seen) (c : Asking Outcome) (t : Seen) (o : Outcome) → Leads (Notes k) s c t o → SomeGives s.cells → SomeGives t.cells
notes_some k s (Done p) t o l h = subst (λ x. SomeGives x.cells) l.0 h
notes_some k s (AsksField f by) t o l h = notes_some k l.behind (by l.value) t o l.onward (subst SomeGives l.told.cells h)
notes_some k s (AsksTest f v by) t o l h = notes_some k l.behind (by l.value) t o l.onward (subst SomeGives l.told.cells h)
notes_some k s (AsksCell c by) t o l h = notes_some k l.behind (by l.value) t o l.onward (l.told.some h)

pub notes_trace : NotedTrace
notes_trace c k t o valid l =
    let some = notes_some k nothing c t o l ((λ d. Nothing), tt) in
    let env = some.0 in
    let w = notes_lead k env nothing c t o l some.1 in
    let i : items_of (through c nothing) k env ≡ t.items = w.same.items ∙ append-nil t.items in
    let j : cells_of (through c nothing) k env ≡ t.cells = w.same.cells ∙ append-nil t.cells in
    let q : outcome_in c k env ≡ o = sym (as_evaluated c k env valid) ∙ w.same.outcome in
    subst (λ is. IsTrace c k is t.cells o) i
    (subst (λ cs. IsTrace c k (items_of (through c nothing) k env) cs o) j
    (subst (IsTrace c k (items_of (through c nothing) k env) (cells_of (through c nothing) k env)) q (law_of_traces c k env valid)))
