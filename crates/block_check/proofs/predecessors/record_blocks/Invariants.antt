use Rattle.block_check.proofs.Leads.{ListsBelow}
use Rattle.block_check.proofs.predecessors.record_blocks.Given as goal

abbrev pub invariant-loop-number : goal.invariant-loop-number
invariant-loop-number l = ListsBelow l.function l.lists l.number
