use Rattle.frame_law.proofs.Whole as whole
use Rattle.frame_law.proofs.key_of_frame.Goals as goal

pub returns : goal.returns
returns c = whole.key_of_frame
