-- The words of the cells so far were looked at.
use Rattle.std.proofs.Common.{◌≤◌, ◌+◌, ◌-◌, List, length, sum_by}
use Rattle.pools.specs.Heap.{Setup, cells_in}
use Rattle.runs.specs.Machine.{WordValue}
use Rattle.stepping.specs.Reach.{IsSchemaOf}
use Rattle.stepping.specs.Walks.{unmet, IsShaped, IsLooked, IsSeen, IsSound}
use Rattle.stepping.proofs.walk.Walk.look_from.Given as goal

pub record Looked (l : goal.Live-loop-cell) : Type 0 where
  pub shaped : IsShaped (cells_in l.schema.pools.now) l.self
  pub afterwards : l.looked ≤ length l.self.order
  pub looks : (s : Setup) → IsSchemaOf s l.schema → IsLooked s l.shared l.initial.self l.place → IsLooked s l.shared l.self l.looked
  pub seen : (r : WordValue) → IsSeen l.shared l.initial.self r → IsSeen l.shared l.self r
  pub sound : (s : Setup) (roots : List WordValue) → IsSchemaOf s l.schema → IsSound s l.shared roots l.initial.self → IsSound s l.shared roots l.self

abbrev pub invariant-loop-cell : goal.invariant-loop-cell
invariant-loop-cell l = Looked l

abbrev pub decreases-loop-cell : goal.decreases-loop-cell
decreases-loop-cell l = length l.self.order + sum_by unmet l.self.met - l.looked
