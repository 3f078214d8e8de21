-- What contracts see of the collector's fields, and the invariant that the fields satisfy.
use Rattle.std.specs.Prelude.{◌<◌, ◌≤◌, ◌^◌, ◌≡◌}
use Rattle.pools.specs.Heap.{Setup, cells_in}
use Rattle.colours.specs.Colours.{cycle_of}
use Rattle.trace_sweep.specs.declared.collector.Collector.TheInside.{Inside}
use Rattle.trace_sweep.specs.Below.{AreBelow}
use Rattle.trace_sweep.specs.Collecting.{Collecting, plan, IsNumbered}
use Rattle.trace_sweep.specs.Positions.{collection_of, hand_of, IsPlacedAt}

-- what the code knows of its heap
abbrev pub heap_of : Inside → Setup
heap_of c = plan c.threads c.layouts.now c.pools.now c.globals.now

-- the collector of the code as contracts see it
abbrev pub view_of : Inside → Collecting
view_of c = record { heap = heap_of c; posted = c.posted; at = collection_of c.position; listed = c.shades }

-- the count of cells, the limit of the cycles, the numbers of the position, and those of the list
pub record IsPlaced (c : Inside) : Type 0 where
  pub cells_are : c.cells ≡ cells_in c.pools.now
  pub cells_fit : c.cells ≤ 2 ^ 20
  pub numbered : IsNumbered (heap_of c)
  pub in_limit : cycle_of c.posted < 2 ^ 60
  pub placed : IsPlacedAt (heap_of c) c.position
  pub hand : hand_of c.position < cells_in c.pools.now
  pub listed : AreBelow (cells_in c.pools.now) c.shades
