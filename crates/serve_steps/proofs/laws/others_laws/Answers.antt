use Rattle.serve_steps.proofs.Entered.{others_stand_last, others_stay_at_rest, others_stay_in_broken_off, others_stay_in_cut, others_stay_in_end, others_stay_in_last_asked, others_stay_in_parts, others_stay_in_script, others_take_nothing, others_tell_nothing}
use Rattle.serve_steps.proofs.laws.others_laws.Goals as goal

pub returns : goal.returns
returns c = record {
  stand = others_stand_last;
  parts = others_stay_in_parts c.legal_laws.ensures.calls c.between_laws.ensures.frozen;
  cut = others_stay_in_cut;
  ended = others_stay_in_end;
  asked = others_stay_in_last_asked;
  script = others_stay_in_script;
  front = others_stay_in_broken_off;
  rest = others_stay_at_rest c.legal_laws.ensures.calls c.between_laws.ensures.frozen;
  take = others_take_nothing;
  tell = others_tell_nothing c.legal_laws.ensures.calls c.between_laws.ensures.frozen;
}
