use Rattle.machine_moves.proofs.Turns.{sends_law}
use Rattle.machine_moves.proofs.sends.sends_law.Goals as goal

pub returns : goal.returns
returns c = sends_law
    (record {
      spells = c.writing_laws.ensures.written;
      normal = c.rules_law.ensures.normal;
      lengths = c.batch_laws.ensures.lengths;
      sent = c.batch_laws.ensures.sent;
      list = c.traces_laws.ensures.list;
      none = c.traces_laws.ensures.none;
    })
    (record {
      opens = c.machine_laws.ensures.opens;
      keeps = c.machine_laws.ensures.keeps;
      now = c.running_laws.ensures.now;
      running = record {
        own = c.tree_laws.ensures.own;
        traces = c.reading_laws.ensures.traces;
        ends = c.reading_laws.ensures.ends;
        begins = c.meaning_laws.ensures.begins;
        ports = c.meaning_laws.ensures.ports;
      };
    })
