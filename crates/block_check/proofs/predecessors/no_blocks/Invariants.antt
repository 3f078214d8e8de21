use Rattle.std.proofs.Common.{◌≡◌, [], take, map}
use Rattle.block_check.proofs.predecessors.no_blocks.Given as goal

abbrev pub invariant-loop-block : goal.invariant-loop-block
invariant-loop-block l = l.lists.items ≡ map (λ _. []) (take l._block-index l.blocks)
