use Rattle.std.proofs.Common.{◌≡◌, ◌++◌, take}
use Rattle.std.specs.List.{flat_map}
use Rattle.lowering.specs.Items.{block_text}
use Rattle.lowering.proofs.items_of_text.put_blocks.Given as goal

abbrev pub invariant-loop-block : goal.invariant-loop-block
invariant-loop-block l = l.out.items ≡ l.fn.out.items ++ flat_map (block_text l.scope.recorded l.scope.of_module.now l.scope.locals.now l.scope.slots.now) (take l.block-index l.blocks)
