-- The numbers of the lines that are drawn.
use Rattle.std.proofs.Common.{ℕ, ◌<◌, cond, eqb, arith}
use Rattle.std.proofs.lemmas.Bool.{cond_both}
use Rattle.rand_pcg.specs.Lcg.{Lcg}
use Rattle.gen_script.specs.declared.line.ScriptLine.{ScriptLine}
use Rattle.gen_script.specs.declared.line.ScriptLine.TheVariants.{Settle}
use Rattle.gen_script.specs.Draws.{just, draw, host_move, block, unblock, packet, round_of, round}
use Rattle.gen_script.specs.Laws.{IsInRange, RoundsAreInRange}

abbrev AreInRange : (Lcg → ScriptLine × Lcg) → Type 0
AreInRange drawn = (g : Lcg) → IsInRange (drawn g).0

draw_below : (bound : ℕ) (g : Lcg) → 0 < bound → (draw bound g).0 < bound
unfolding draw
draw_below bound g h = omega arith

hosts_in_range : AreInRange host_move
unfolding host_move
hosts_in_range g =
    let h = draw_below 16 g (omega arith) in
    let s = draw_below 4 (draw 16 g).1 (omega arith) in
    ((omega arith, omega arith), (omega arith, omega arith))

blocks_in_range : AreInRange block
unfolding block
blocks_in_range g = draw_below 16 g (omega arith)

unblocks_in_range : AreInRange unblock
unfolding unblock
unblocks_in_range g = draw_below 16 g (omega arith)

packets_in_range : AreInRange packet
unfolding packet
packets_in_range g =
    let behind_device = (draw 4 g).1 in
    let behind_port = (draw 48 behind_device).1 in
    let c = draw_below 4 g (omega arith) in
    let p = draw_below 48 behind_device (omega arith) in
    let a = draw_below 16 behind_port (omega arith) in
    let h = draw_below 16 (draw 16 behind_port).1 (omega arith) in
    ((omega arith, omega arith), (omega arith, omega arith), (omega arith, omega arith), a)

round_of_in_range : (d : ℕ) → AreInRange (round_of d)
round_of_in_range d =
    let from_three : Lcg → ScriptLine × Lcg = cond (eqb d 3) (just Settle) packet in
    let from_two : Lcg → ScriptLine × Lcg = cond (eqb d 2) unblock from_three in
    let from_one : Lcg → ScriptLine × Lcg = cond (eqb d 1) block from_two in
    cond_both (eqb d 0) host_move from_one AreInRange (λ e. hosts_in_range) (λ e.
    cond_both (eqb d 1) block from_two AreInRange (λ e. blocks_in_range) (λ e.
    cond_both (eqb d 2) unblock from_three AreInRange (λ e. unblocks_in_range) (λ e.
    cond_both (eqb d 3) (just Settle) packet AreInRange (λ e g. tt) (λ e. packets_in_range))))

pub rounds_in_range : RoundsAreInRange
unfolding round
rounds_in_range g = round_of_in_range (draw 20 g).0 (draw 20 g).1
