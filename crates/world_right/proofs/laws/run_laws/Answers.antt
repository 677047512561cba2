use Rattle.world_right.proofs.Runs.{RunLaws, every_run_is_right, sessions_are_placed, tables_are_complete}
use Rattle.world_right.proofs.AtRest.{hits_at_rest_are_now}
use Rattle.world_right.proofs.Falls.{since_never_falls}
use Rattle.world_right.proofs.Whole.{since_is_whole}
use Rattle.world_right.proofs.laws.run_laws.Goals as goal

pub returns : goal.returns
returns c =
    let laws : RunLaws = record {
      stages = record {
        opens = c.machine_laws.ensures.opens;
        keeps = c.machine_laws.ensures.keeps;
        sessions = c.session_laws.ensures.opens;
        connections = c.growth_laws.ensures.connections;
        switches = c.switch_law.ensures;
        turns = c.turn_law.ensures;
        opened = c.opening_law.ensures;
      };
      history = c.world_laws.ensures.history;
      live = c.history_laws.ensures.live;
      answers = c.history_laws.ensures.answers;
      hits = c.hit_laws.ensures.hits;
      room = c.hit_laws.ensures.room;
      rest = c.hit_laws.ensures.newest;
    } in
    record {
      right = every_run_is_right laws;
      placed = sessions_are_placed laws;
      complete = tables_are_complete laws;
      now = hits_at_rest_are_now laws;
      whole = since_is_whole laws c.growth_laws.ensures.states;
      falls = since_never_falls laws c.growth_laws.ensures.states;
    }
