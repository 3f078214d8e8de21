-- The words of the cells so far.
use Rattle.std.proofs.Common.{◌≡◌}
use Rattle.pools.specs.Heap.{Setup, IsSetup}
use Rattle.stepping.specs.Reach.{IsSchemaOf}
use Rattle.stepping.specs.Starts.{AreRowsAtStart}
use Rattle.stepping.proofs.beginning.rows_at_start.Given as goal

abbrev pub invariant-loop-cell : goal.invariant-loop-cell
invariant-loop-cell l = (s : Setup) → IsSchemaOf s l.schema → IsSetup s → s.values ≡ l.values → AreRowsAtStart s l.cell l.rows
