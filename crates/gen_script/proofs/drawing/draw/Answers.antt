use Rattle.std.proofs.Common.{ℕ, ◌%◌, ap}
use Rattle.rand_pcg.specs.Lcg.{Lcg}
use Rattle.gen_script.specs.Draws.{draw}
use Rattle.gen_script.proofs.drawing.draw.Goals as goal

pub returns-clause-drawn : goal.returns-clause-drawn
unfolding draw
returns-clause-drawn c = ap (λ (p : ℕ × Lcg). (p.0 % c.args.bound, p.1)) c.next_word.ensures
