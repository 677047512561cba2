-- Notes lead through a tree without the settled questions.
use Rattle.std.proofs.Common.{refl, sym, ◌∙◌, subst}
use Rattle.maple_base.specs.declared.key.Key.{Key}
use Rattle.maple_base.specs.declared.cells.Cell.{Cell}
use Rattle.maple_base.specs.declared.cells.Value.{Value}
use Rattle.maple_base.specs.declared.decision.Outcome.{Outcome}
use Rattle.policy_meaning.specs.Cells.{Gives}
use Rattle.policy_meaning.specs.Asking.{Asking, Done, AsksField, AsksTest, AsksCell}
use Rattle.policy_meaning.specs.Through.{Seen, Onward, ask_field, ask_test, ask_cell, through}
use Rattle.policy_meaning.specs.Leads.{Leads}
use Rattle.policy_meaning.specs.Notes.{Question, Same, Notes, AskedKey, seen}

-- the cells of the end hold from the start, and the traces are the same
pub record Whole (k : Key) (env : Cell → Value) (s : Seen) (c : Asking Outcome) (t : Seen) (o : Outcome) : Type 0 where
  pub gives : Gives env s.cells
  pub same : Same k env s c t (Done o)

same_on : (k : Key) (env : Cell → Value) (s : Seen) (c : Asking Outcome) (t : Seen) (d : Asking Outcome) (u : Seen) (e : Asking Outcome)
    → Same k env s c t d → Same k env t d u e → Same k env s c u e
same_on k env s c t d u e p q = record { items = p.items ∙ q.items; cells = p.cells ∙ q.cells; outcome = p.outcome ∙ q.outcome }

key_on : {V : Type 0} (k : Key) (env : Cell → Value) (s : Seen) (ask : Question V) (u : Seen) (v : V) (by : Onward V Outcome) (t : Seen) (o : Outcome)
    → AskedKey k s ask u v → Whole k env u (by v u) t o → Whole k env s (ask s by) t o
key_on k env s ask u v by t o a w =
    let h : Same k env s (ask s by) (seen u.items s.cells) (by v (seen u.items s.cells)) = a.items s.cells env by in
    let i : Same k env s (ask s by) u (by v u) = subst (λ cs. Same k env s (ask s by) (seen u.items cs) (by v (seen u.items cs))) a.cells h in record {
      gives = subst (Gives env) (sym a.cells) w.gives;
      same = same_on k env s (ask s by) u (by v u) t (Done o) i w.same;
    }

pub notes_lead : (k : Key) (env : Cell → Value) (s : Seen) (c : Asking Outcome) (t : Seen) (o : Outcome) → Leads (Notes k) s c t o → Gives env t.cells → Whole k env s (through c s) t o
notes_lead k env s (Done p) t o l g = record {
  gives = subst (λ x. Gives env x.cells) (sym l.0) g;
  same = subst (λ x. Same k env s (Done p) x (Done o)) l.0 (record { items = refl; cells = refl; outcome = l.1 });
}
notes_lead k env s (AsksField f by) t o l g =
    key_on k env s (ask_field f) l.behind l.value (λ v u. through (by v) u) t o l.told (notes_lead k env l.behind (by l.value) t o l.onward g)
notes_lead k env s (AsksTest f v by) t o l g =
    key_on k env s (ask_test f v) l.behind l.value (λ b u. through (by b) u) t o l.told (notes_lead k env l.behind (by l.value) t o l.onward g)
notes_lead k env s (AsksCell c by) t o l g =
    let w = notes_lead k env l.behind (by l.value) t o l.onward g in record {
      gives = l.told.kept env w.gives;
      same = same_on k env s (ask_cell c s (λ v u. through (by v) u)) l.behind (through (by l.value) l.behind) t (Done o) (l.told.same env w.gives (λ v u. through (by v) u)) w.same;
    }
