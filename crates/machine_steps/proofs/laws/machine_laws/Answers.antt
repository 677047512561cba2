use Rattle.machine_steps.proofs.Sound.Stepping.{opens_sound, keeps_sound}
use Rattle.machine_steps.proofs.Later.{runs_stay, lent_runs}
use Rattle.machine_steps.proofs.laws.machine_laws.Goals as goal

pub returns-clause-opens : goal.returns-clause-opens
returns-clause-opens c = opens_sound

pub returns-clause-keeps : goal.returns-clause-keeps
returns-clause-keeps c = keeps_sound
    (record {
      taking = record {
        nil = c.traces_laws.ensures.none;
        only = c.scratch_laws.ensures.only;
        free = c.scratch_laws.ensures.free;
        leaves = c.scratch_laws.ensures.leaves;
        clash = c.tree_laws.ensures.no_clash;
      };
      running = record {
        own = c.tree_laws.ensures.own;
        traces = c.reading_laws.ensures.traces;
        ends = c.reading_laws.ensures.ends;
        begins = c.meaning_laws.ensures.begins;
        ports = c.meaning_laws.ensures.ports;
      };
      list = c.traces_laws.ensures.list;
      fewer = c.traces_laws.ensures.fewer;
      nil = c.traces_laws.ensures.none;
      settled = c.session_laws.ensures.settled;
      same = c.live_laws.ensures.same;
      apart = c.scratch_laws.ensures.apart;
      only = c.scratch_laws.ensures.only;
      admitted = c.scratch_laws.ensures.fewer;
      kept = c.scratch_laws.ensures.kept;
      lower = c.plan_law.ensures.kept;
    })

pub returns-clause-runs : goal.returns-clause-runs
returns-clause-runs c = runs_stay

pub returns-clause-lent : goal.returns-clause-lent
returns-clause-lent c = lent_runs
