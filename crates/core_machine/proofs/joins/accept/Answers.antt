use Rattle.std.proofs.Common.{ap, ◌∙◌}
use Rattle.core_machine.specs.Joining.{unheard}
use Rattle.core_machine.proofs.Joining.{is_joining_list, may_reach, same_unheard, has_start, enters, on_any_err}
use Rattle.core_machine.proofs.joins.accept.Goals as goal

pub prepare_start_at-requires : goal.prepare_start_at-requires
prepare_start_at-requires c =
    let j = c.requires.joins in
    record {
      can = record {
        session = j.session;
        there = j.there;
        second = j.second;
        list = is_joining_list c.args.at c.args.dpid c.args.parts.now j c.traces_laws.ensures.list c.traces_laws.ensures.fewer c.traces_laws.ensures.none c.args.update.now c.args.rules.now c.requires.rules;
      };
    }

pub reach_listed-requires-clause-can : goal.reach_listed-requires-clause-can
reach_listed-requires-clause-can c =
    may_reach c.args.at c.args.dpid c.args.parts.now c.requires.joins c.traces_laws.ensures.none c.in_ok-start.start c.prepare_start_at.new.parts c.in_ok-start.ensures.ok.0

pub returns-in_err-reply-clause-err : goal.returns-in_err-reply-clause-err
returns-in_err-reply-clause-err c =
    on_any_err c.from_residual-in_err-reply.result
    (ap (unheard c.args.at) (c.in_err-reply.ensures.kept ∙ c.in_ok-start.ensures.ok.0) ∙ same_unheard c.args.at c.args.dpid c.args.parts.now c.requires.joins c.in_ok-start.start)

pub start_at-requires : goal.start_at-requires
start_at-requires c = record {
  can = has_start c.args.at c.args.dpid c.args.parts.now c.requires.joins c.args.update.now c.args.rules.now c.in_ok-start.start c.prepare_start_at.new.parts c.reach_listed.new.parts c.in_ok-reply.reply c.in_ok-start.ensures.ok c.in_ok-reply.ensures.reached;
}

pub returns-clause-ok : goal.returns-clause-ok
returns-clause-ok c =
    enters c.args.at c.args.dpid c.args.parts.now c.requires.joins c.args.update.now c.args.rules.now c.in_ok-start.start c.prepare_start_at.new.parts c.reach_listed.new.parts c.in_ok-reply.reply c.in_ok-start.ensures.ok c.in_ok-reply.ensures.reached
    c.requires.rules c.start_at.new.parts c.start_at.ensures
