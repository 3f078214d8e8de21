use Rattle.std.proofs.Common.{◌≡◌, take}
use Rattle.std.specs.Prelude.{slice_index}
use Rattle.collector_places.specs.Nexts.{spots_after, cell_looked}
use Rattle.collector_places.proofs.places.CollectorPlaces.spots_after.Given as goal

abbrev pub invariant-loop-spot : goal.invariant-loop-spot
invariant-loop-spot l = l.spots ≡ spots_after l.self.heap l.self.posted (slice_index l.self.looks (cell_looked l.turn)) (slice_index l.self.shades (cell_looked l.turn)) l.turn (take l.spot-index l.spot-items)
