use Rattle.board_lines.proofs.Kept.{is_few, keeps_all}
use Rattle.board_lines.proofs.Refusals.{policies_alike, refused_alike}
use Rattle.board_lines.proofs.Told.{keeps_faults}
use Rattle.board_lines.proofs.laws.kept_laws.Goals as goal

pub returns-clause-all : goal.returns-clause-all
returns-clause-all c = keeps_all

pub returns-clause-few : goal.returns-clause-few
returns-clause-few c = is_few

pub returns-clause-faults : goal.returns-clause-faults
returns-clause-faults c = keeps_faults

pub returns-clause-policies : goal.returns-clause-policies
returns-clause-policies c = policies_alike

pub returns-clause-refused : goal.returns-clause-refused
returns-clause-refused c = refused_alike
