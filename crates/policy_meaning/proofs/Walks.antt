-- What an asker's answers lead to.
use Rattle.std.proofs.Common.{◌≡◌, ℕ, Bool, refl, sym, ap, ◌∙◌, subst}
use Rattle.maple_base.specs.declared.key.Key.{Key}
use Rattle.maple_base.specs.declared.key.Field.{Field}
use Rattle.maple_base.specs.declared.cells.Cell.{Cell}
use Rattle.maple_base.specs.declared.cells.Value.{Value}
use Rattle.maple_base.specs.declared.decision.Outcome.{Outcome}
use Rattle.maple_base.specs.Keys.{field_of}
use Rattle.policy_meaning.specs.Asking.{Asking, Done, AsksField, AsksTest, AsksCell, End, Goes, Ends, Run, ◌>>=◌, onward, field, test, cell, concluded, whole}
use Rattle.policy_meaning.specs.Readings.{outcome_in}
use Rattle.policy_meaning.specs.Leads.{Answer, FieldIs, TestIs, CellIs, Saying, Said, Leads}
use Rattle.policy_meaning.specs.Notes.{Truly}
use Rattle.policy_meaning.specs.QuestionLaws.{TrueAnswers}
use Rattle.std.specs.Prelude.{◌==◌}

said_on : {S V : Type 0} (said : Saying S) (s : S) (answer : V → Answer) (rest more : V → S → Type 0)
    → Said said s answer rest → ((v : V) (u : S) → rest v u → more v u) → Said said s answer more
said_on said s answer rest more h on = record { value = h.value; behind = h.behind; told = h.told; onward = on h.value h.behind h.onward }

-- one part after another
pub leads_next : {S A B : Type 0} (said : Saying S) (s : S) (m : Run A) (u : S) (a : A) (next : A → Run B) (t : S) (e : End B)
    → Leads said s m u (Goes a) → Leads said u (next a) t e → Leads said s (m >>= next) t e
leads_next said s (Done f) u a next t e h r =
    subst (λ x. Leads said x (onward f next) t e) (sym h.0) (subst (λ x. Leads said u (onward x next) t e) (sym h.1) r)
leads_next said s (AsksField f by) u a next t e h r = said_on said s (FieldIs f) _ _ h (λ v w l. leads_next said w (by v) u a next t e l r)
leads_next said s (AsksTest f v by) u a next t e h r = said_on said s (TestIs f v) _ _ h (λ b w l. leads_next said w (by b) u a next t e l r)
leads_next said s (AsksCell c by) u a next t e h r = said_on said s (CellIs c) _ _ h (λ v w l. leads_next said w (by v) u a next t e l r)

-- a part that ends the run
pub leads_end : {S A B : Type 0} (said : Saying S) (s : S) (m : Run A) (t : S) (o : Outcome) (next : A → Run B) → Leads said s m t (Ends o) → Leads said s (m >>= next) t (Ends o)
leads_end said s (Done f) t o next h =
    subst (λ x. Leads said x (onward f next) t (Ends o)) (sym h.0) (subst (λ x. Leads said t (onward x next) t (Ends o)) (sym h.1) (refl, refl))
leads_end said s (AsksField f by) t o next h = said_on said s (FieldIs f) _ _ h (λ v w l. leads_end said w (by v) t o next l)
leads_end said s (AsksTest f v by) t o next h = said_on said s (TestIs f v) _ _ h (λ b w l. leads_end said w (by b) t o next l)
leads_end said s (AsksCell c by) t o next h = said_on said s (CellIs c) _ _ h (λ v w l. leads_end said w (by v) t o next l)

pub leads_field : {S : Type 0} (said : Saying S) (s : S) (f : Field) (v : ℕ) (t : S) → said s (FieldIs f v) t → Leads said s (field f) t (Goes v)
leads_field said s f v t h = record { value = v; behind = t; told = h; onward = (refl, refl) }

pub leads_test : {S : Type 0} (said : Saying S) (s : S) (f : Field) (v : ℕ) (b : Bool) (t : S) → said s (TestIs f v b) t → Leads said s (test f v) t (Goes b)
leads_test said s f v b t h = record { value = b; behind = t; told = h; onward = (refl, refl) }

pub leads_cell : {S : Type 0} (said : Saying S) (s : S) (c : Cell) (v : Value) (t : S) → said s (CellIs c v) t → Leads said s (cell c) t (Goes v)
leads_cell said s c v t h = record { value = v; behind = t; told = h; onward = (refl, refl) }

pub leads_whole : {S A : Type 0} (said : Saying S) (s : S) (o : Outcome) (m : Run A) (t : S) (e : End A) → Leads said s m t e → Leads said s (whole o m) t (concluded o e)
leads_whole said s o (Done f) t e h = (h.0, ap (concluded o) h.1)
leads_whole said s o (AsksField f by) t e h = said_on said s (FieldIs f) _ _ h (λ v w l. leads_whole said w o (by v) t e l)
leads_whole said s o (AsksTest f v by) t e h = said_on said s (TestIs f v) _ _ h (λ b w l. leads_whole said w o (by b) t e l)
leads_whole said s o (AsksCell c by) t e h = said_on said s (CellIs c) _ _ h (λ v w l. leads_whole said w o (by v) t e l)

-- an asker's state seen as another's, as long as something holds of it
abbrev pub Seeing : {S T : Type 0} → Saying S → Saying T → (S → T) → (S → Type 0) → Type 0
Seeing said tells view holds = (s : _) (a : Answer) (t : _) → holds s → said s a t → tells (view s) a (view t) × holds t

pub leads_as : {S T A : Type 0} (said : Saying S) (tells : Saying T) (view : S → T) (holds : S → Type 0) (s : S) (c : Asking A) (t : S) (e : A)
    → Seeing said tells view holds → holds s → Leads said s c t e → Leads tells (view s) c (view t) e × holds t
leads_as said tells view holds s (Done a) t e see h l = ((ap view l.0, l.1), subst holds l.0 h)
leads_as said tells view holds s (AsksField f by) t e see h l =
    let q = see s (FieldIs f l.value) l.behind h l.told in
    let r = leads_as said tells view holds l.behind (by l.value) t e see q.1 l.onward in
    (record { value = l.value; behind = view l.behind; told = q.0; onward = r.0 }, r.1)
leads_as said tells view holds s (AsksTest f v by) t e see h l =
    let q = see s (TestIs f v l.value) l.behind h l.told in
    let r = leads_as said tells view holds l.behind (by l.value) t e see q.1 l.onward in
    (record { value = l.value; behind = view l.behind; told = q.0; onward = r.0 }, r.1)
leads_as said tells view holds s (AsksCell c by) t e see h l =
    let q = see s (CellIs c l.value) l.behind h l.told in
    let r = leads_as said tells view holds l.behind (by l.value) t e see q.1 l.onward in
    (record { value = l.value; behind = view l.behind; told = q.0; onward = r.0 }, r.1)

-- true answers lead to the outcome of plain evaluation
pub leads_truly : {S A : Type 0} (k : Key) (env : Cell → Value) (s : S) (c : Asking A) (t : S) (e : A) → Leads (λ u a v. Truly k env a) s c t e → outcome_in c k env ≡ e
leads_truly k env s (Done a) t e l = l.1
leads_truly k env s (AsksField f by) t e l = ap (λ v. outcome_in (by v) k env) (sym l.told) ∙ leads_truly k env l.behind (by l.value) t e l.onward
leads_truly k env s (AsksTest f v by) t e l = ap (λ b. outcome_in (by b) k env) (sym l.told) ∙ leads_truly k env l.behind (by l.value) t e l.onward
leads_truly k env s (AsksCell c by) t e l = ap (λ v. outcome_in (by v) k env) (sym l.told) ∙ leads_truly k env l.behind (by l.value) t e l.onward

pub truly_leads : {A : Type 0} (k : Key) (env : Cell → Value) (c : Asking A) → Leads (λ (u : Unit {0}) a v. Truly k env a) tt c tt (outcome_in c k env)
truly_leads k env (Done a) = (refl, refl)
truly_leads k env (AsksField f by) = record { value = field_of k f; behind = tt; told = refl; onward = truly_leads k env (by (field_of k f)) }
truly_leads k env (AsksTest f v by) = record { value = field_of k f == v; behind = tt; told = refl; onward = truly_leads k env (by (field_of k f == v)) }
truly_leads k env (AsksCell c by) = record { value = env c; behind = tt; told = refl; onward = truly_leads k env (by (env c)) }

pub true_answers : TrueAnswers
true_answers c k env o = (leads_truly k env tt c tt o, λ e. subst (Leads (λ (u : Unit {0}) a v. Truly k env a) tt c tt) e (truly_leads k env c))
