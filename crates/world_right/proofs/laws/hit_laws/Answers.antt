use Rattle.world_right.proofs.Hits.{hits_are_right, tables_have_room, rest_is_newest}
use Rattle.world_right.proofs.laws.hit_laws.Goals as goal

pub returns-clause-hits : goal.returns-clause-hits
returns-clause-hits c = hits_are_right c.choice_law.ensures.choice c.shield_laws.ensures.step

pub returns-clause-room : goal.returns-clause-room
returns-clause-room c = tables_have_room c.shield_laws.ensures.step

pub returns-clause-newest : goal.returns-clause-newest
returns-clause-newest c = rest_is_newest
