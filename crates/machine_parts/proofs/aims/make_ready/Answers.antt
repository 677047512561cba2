use Rattle.std.proofs.Common.{map, set, sym, subst, ap, ◌∙◌, add-one}
use Rattle.std.proofs.lemmas.List.{set-get_or}
use Rattle.machine_parts.specs.declared.connection.Connection.{Connection}
use Rattle.machine_steps.specs.Machine.{kept_of}
use Rattle.machine_parts.specs.Aiming.{keeps, gives_up, IsReadied}
use Rattle.machine_parts.proofs.Aiming.{all_back, err_holds, idle_all, none_yet, ok_holds, one_more, pick, untouched}
use Rattle.machine_parts.proofs.aims.make_ready.Goals as goal

pub loop-at-init : goal.loop-at-init
loop-at-init c = none_yet (kept_of (keeps c.args.left.now) c.args.learned.now) c.args.sessions.now

pub make_one_ready-requires : goal.make_one_ready-requires
make_one_ready-requires c = record {
  can = pick c.args.learned.now _ c.loop-at.at c.args.sessions.now c.loop-at.sessions c.index-sessions-at.result c.requires.can c.loop-at.invariant c.loop-at-test.true;
}

pub returns-then-is_err-clause-kept : goal.returns-then-is_err-clause-kept
returns-then-is_err-clause-kept c =
    let left = kept_of (keeps c.args.left.now) c.args.learned.now in
    let i = c.loop-at.at in
    let ss = c.args.sessions.now in
    let ys = c.loop-at.sessions in
    let kept = err_holds c.make_one_ready.result _ (sym c.is_err.ensures.value ∙ c.if-is_err.true) c.make_one_ready.ensures.kept in
    c.give_up_all.ensures ∙ ap (λ (x : Connection). map gives_up (set ys i x)) kept ∙ ap (map gives_up) (set-get_or ys i c.index-sessions-at.result)
    ∙ all_back left i ss ys (idle_all c.args.learned.now ss c.requires.can) c.loop-at.invariant

pub loop-at-preserved : goal.loop-at-preserved
loop-at-preserved c =
    let left = kept_of (keeps c.args.left.now) c.args.learned.now in
    let i = c.loop-at.at in
    let new = c.make_one_ready.new.connection in
    let ready = ok_holds c.make_one_ready.result _ (sym c.is_err.ensures.value ∙ c.if-is_err.false) c.make_one_ready.ensures.ready in
    let same = untouched left i c.args.sessions.now c.loop-at.sessions c.index-sessions-at.result c.loop-at.invariant c.loop-at-test.true in
    rw add-one (one_more left i c.args.sessions.now c.loop-at.sessions c.index-sessions-at.result new c.loop-at.invariant c.loop-at-test.true (subst (λ (x : Connection). IsReadied left x new) same ready))
