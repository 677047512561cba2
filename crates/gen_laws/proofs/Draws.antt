-- The lines that are drawn go on.
use Rattle.std.proofs.Common.{◌≡◌, ℕ, ◌≤◌, true, refl, arith}
use Rattle.script_text.specs.Laws.{ReadsLines}
use Rattle.gen_script.specs.declared.line.ScriptLine.{ScriptLine}
use Rattle.gen_script.specs.declared.line.ScriptLine.TheVariants.{Plug, Settle, Link, Host, Block, Unblock, Packet, Quit}
use Rattle.gen_script.specs.Laws.{IsInRange}
use Rattle.gen_script.specs.Lines.{spelled}
use Rattle.gen_laws.proofs.Checks.{host_reads, block_reads, unblock_reads}
use Rattle.gen_laws.proofs.Lines.{reads}
use Rattle.gen_laws.proofs.Packets.{packet_reads}

pub drawn_reads : ReadsLines → (places : ℕ) → 4 ≤ places → (l : ScriptLine) → IsInRange l → reads places (spelled l) ≡ true
drawn_reads read places some Settle small = refl
drawn_reads read places some (Host h s) small = host_reads places h s (omega (arith, small.0.1)) (omega (arith, small.1.1))
drawn_reads read places some (Block a) small = block_reads places a small
drawn_reads read places some (Unblock a) small = unblock_reads places a small
drawn_reads read places some (Packet c p h a) small =
    packet_reads read places c p h a (omega (arith, small.0.1)) small.0.0 (omega (arith, small.0.1)) (omega (arith, small.1.1)) (omega (arith, small.2.1)) small.3
drawn_reads read places some (Plug c) small = absurd small
drawn_reads read places some (Link s p t q) small = absurd small
drawn_reads read places some Quit small = absurd small
