use Rattle.std.proofs.Common.{◌≡◌, ◌++◌, take}
use Rattle.std.specs.List.{flat_map}
use Rattle.ir_print.specs.Blocks.{block_text}
use Rattle.ir_print.proofs.items_of_text.put_blocks.Given as goal

abbrev pub invariant-loop-block : goal.invariant-loop-block
invariant-loop-block l = l.out.items ≡ l.fn.out.items ++ flat_map (block_text l.«module» l.locals) (take l.block-index l.blocks)
