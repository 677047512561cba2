use Rattle.serve_steps.proofs.Control.{each_asks_once, ended_is_given, ended_stays, last_asks, lines_go_on, renews_alike}
use Rattle.serve_steps.proofs.laws.text_laws.Goals as goal

pub returns : goal.returns
returns c = record {
  ended = ended_stays c.control_laws.ensures.begins c.control_laws.ensures.goes_on;
  given = ended_is_given c.control_laws.ensures.begins c.control_laws.ensures.goes_on;
  on = lines_go_on c.control_laws.ensures.begins c.control_laws.ensures.goes_on;
  once = each_asks_once c.control_laws.ensures.begins c.control_laws.ensures.goes_on;
  last = last_asks c.control_laws.ensures.begins c.control_laws.ensures.goes_on c.control_laws.ensures.ends;
  renews = renews_alike c.kept_laws.ensures.policies c.kept_laws.ensures.refused;
}
