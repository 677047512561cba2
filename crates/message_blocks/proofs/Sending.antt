-- A block may go to another thread.
use denote.Param.Send
use Rattle.message_blocks.proofs.block.Block.TheSendSync as block
use Rattle.message_blocks.specs.contracts.block.Block

pub block_send : Send.IsSend Block.the_row
block_send = block.the_send
