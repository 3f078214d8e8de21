use Rattle.std.proofs.Common.{◌≡◌, [], ◌∷◌, length}
use Rattle.heap_rule.specs.View.{OfCollector}
use Rattle.heap_table.proofs.Ends.{CameBack}
use Rattle.heap_table.proofs.heap.Heap.close.Given as goal

abbrev pub invariant-loop-mutator : goal.invariant-loop-mutator
invariant-loop-mutator l = record {
  setup : l.ending.setup ≡ l.fn.self.setup;
  table : l.ending.table ≡ l.fn.self.table;
  back : CameBack l.fn.mutators.items l.mutators.items l.ending.shares (OfCollector l.fn.sweeper.log ∷ []);
}

abbrev pub decreases-loop-mutator : goal.decreases-loop-mutator
decreases-loop-mutator l = length l.mutators.items
