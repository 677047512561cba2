use Rattle.std.proofs.Common.{◌≡◌, ℕ, List, [], length, sym, subst, refl, false, ◌∙◌}
use Rattle.std.specs.Prelude.{Some}
use Rattle.trace_tree.specs.declared.node.Trace.{Trace}
use Rattle.switch_session.specs.Parts.{IsList}
use Rattle.switch_session.specs.declared.told.Phase.TheVariants.{Live}
use Rattle.switch_traces.specs.Traces.{those}
use Rattle.switch_traces.specs.Lists.{AreFit, AreRulesOf}
use Rattle.machine_steps.specs.Machine.{traces_in}
use Rattle.machine_parts.specs.Aiming.{keeps}
use Rattle.machine_parts.proofs.Aiming.{fit_at, keeps_all, made_ready, right_of}
use Rattle.machine_parts.proofs.aims.make_one_ready.Goals as goal
use Rattle.machine_parts.proofs.aims.make_one_ready.Goals.{in-Live, in_default}

pub returns-in_default-traces_of-clause-ready : goal.returns-in_default-traces_of-clause-ready
returns-in_default-traces_of-clause-ready c =
    let s = c.args.connection.now.session in
    let p = keeps c.args.left.now in
    let live : s.phase ≡ Live = elim c.match-matches.branch [ in-Live w ↦ cc | in_default w ↦ cc ] in
    let number : s.dpid ≡ Some c.in-Some.switch = cc in
    let none : traces_in c.args.learned.now c.in-Some.switch ≡ [] = c.in_default-traces_of.ensures in
    keeps_all p c.args.learned.now c.args.connection.now c.in-Some.switch c.requires.can live number (subst (λ (ts : List Trace). length (those p ts) ≡ length ts) (sym none) refl)

pub returns-then-count-len-clause-ready : goal.returns-then-count-len-clause-ready
returns-then-count-len-clause-ready c =
    let s = c.args.connection.now.session in
    let p = keeps c.args.left.now in
    let live : s.phase ≡ Live = elim c.match-matches.branch [ in-Live w ↦ cc | in_default w ↦ cc ] in
    let number : s.dpid ≡ Some c.in-Some.switch = cc in
    keeps_all p c.args.learned.now c.args.connection.now c.in-Some.switch c.requires.can live number
    (subst (λ (ts : List Trace). length (those p ts) ≡ length ts) c.in-Some-traces_of.ensures (sym c.count.ensures ∙ c.if-count-len.true ∙ c.len.ensures))

pub rules-requires : goal.rules-requires
rules-requires c =
    let fit = fit_at c.args.learned.now _ c.requires.can c.in-Some.switch c.traces_laws.ensures.none in
    record { levels = (subst (AreFit c.requires.can.state.settings.capacity) (sym c.in-Some-traces_of.ensures) fit).levels }

pub prepare-requires-clause-list : goal.prepare-requires-clause-list
prepare-requires-clause-list c =
    let s = c.args.connection.now.session in
    let p = keeps c.args.left.now in
    let live : s.phase ≡ Live = elim c.match-matches.branch [ in-Live w ↦ cc | in_default w ↦ cc ] in
    let n = c.requires.can.state.settings.capacity in
    let ts = c.in-Some-traces_of.traces.now.traces in
    let fit = subst (AreFit n) (sym c.in-Some-traces_of.ensures) (fit_at c.args.learned.now _ c.requires.can c.in-Some.switch c.traces_laws.ensures.none) in
    subst (λ (x : ℕ). IsList x c.in_ok-rules.rules) (sym (right_of c.args.learned.now c.args.connection.now c.requires.can live).right.capacity)
    (c.traces_laws.ensures.list n (those p ts) c.in_ok-rules.rules (c.traces_laws.ensures.fewer n p ts fit) c.in_ok-rules.ensures)

pub returns-clause-ready : goal.returns-clause-ready
returns-clause-ready c =
    let s = c.args.connection.now.session in
    let p = keeps c.args.left.now in
    let live : s.phase ≡ Live = elim c.match-matches.branch [ in-Live w ↦ cc | in_default w ↦ cc ] in
    let number : s.dpid ≡ Some c.in-Some.switch = cc in
    let loud : s.quiet ≡ false = cc in
    let are = subst (λ (ts : List Trace). AreRulesOf (those p ts) c.in_ok-rules.rules) c.in-Some-traces_of.ensures c.in_ok-rules.ensures in
    let e = c.in_ok-prepare.ensures in
    made_ready p c.args.learned.now c.args.connection.now c.in-Some.switch c.in_ok-rules.rules c.in_ok-prepare.field-0 c.prepare.new.self c.requires.can live loud number are e.update e.good e.prepared
