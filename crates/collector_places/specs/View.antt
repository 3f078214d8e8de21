-- What contracts see of the fields, and the invariant that the fields satisfy.
use Rattle.std.specs.Prelude.{◌≡◌, ◌≤◌, ◌^◌}
use Rattle.pools.specs.Heap.{cells}
use Rattle.trace_sweep.specs.Collecting.{IsNumbered}
use Rattle.collector_places.specs.declared.places.CollectorPlaces.TheInside.{Inside}
use Rattle.collector_places.specs.Places.{Places}

-- the places of the code as contracts see them
abbrev pub view_of : Inside → Places
view_of c = record { heap = c.plan.now; posted = c.posted; turns = c.turns; looks = c.looks.items; shades = c.shades.items; spots = c.spots }

-- the count of cells, and the numbers of words
pub record IsCounted (c : Inside) : Type 0 where
  pub cells_are : c.cells ≡ cells c.plan.now
  pub cells_fit : c.cells ≤ 2 ^ 20
  pub numbered : IsNumbered c.plan.now
