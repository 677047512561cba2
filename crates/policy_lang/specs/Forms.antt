-- The form of an expression.
use Rattle.policy_lang.specs.declared.form.Form.{Form}
use Rattle.policy_lang.specs.declared.form.Form.TheVariants as form
use Rattle.policy_lang.specs.declared.form.Atom.{Atom as Kept}
use Rattle.policy_lang.specs.declared.form.Atom.TheVariants as kept
use Rattle.policy_lang.specs.declared.form.Callee.{Callee as KeptCallee}
use Rattle.policy_lang.specs.declared.form.Callee.TheVariants as callees
use Rattle.policy_lang.specs.Tree.{Atom, Number, Var, SwitchOf, PortOf, PacketSwitch, Packet, Callee, Up, At, Term, Single, Call, Is, Not, Pair}
use Rattle.policy_lang.specs.TreeOf.{term_of}

abbrev pub atom_of : Kept → Atom
atom_of (kept.Number n) = Number n
atom_of (kept.Var x) = Var x.now
atom_of (kept.SwitchOf x) = SwitchOf x.now
atom_of (kept.PortOf x) = PortOf x.now
atom_of kept.PacketSwitch = PacketSwitch
atom_of (kept.Packet f) = Packet f

abbrev pub callee_of : KeptCallee → Callee
callee_of callees.Up = Up
callee_of callees.At = At

-- what a form is of
abbrev pub form_term : Form → Term
form_term (form.Single a) = Single (atom_of a)
form_term (form.Call c l r) = Call (callee_of c) (term_of l.now) (term_of r.now)
form_term (form.Is f e) = Is f (term_of e.now)
form_term (form.Not e) = Not (term_of e.now)
form_term (form.Pair o l r) = Pair o (term_of l.now) (term_of r.now)
