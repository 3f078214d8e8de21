use Rattle.std.proofs.Common.{◌≡◌, ◌+◌, length}
use Rattle.heap_words.specs.Tokens.{AreFresh}
use Rattle.heap_table.specs.Opening.{AreNew}
use Rattle.heap_table.proofs.heap.Heap.new.Given as goal

abbrev pub invariant-loop-token : goal.invariant-loop-token
invariant-loop-token l = record {
  fresh : AreFresh l.heap-inside.words 0 l.tokens.items;
  new : AreNew l.heap-inside.words (length l.tokens.items) l.mutators.items;
  count : length l.tokens.items + length l.mutators.items ≡ l.threads;
}

abbrev pub decreases-loop-token : goal.decreases-loop-token
decreases-loop-token l = length l.tokens.items
