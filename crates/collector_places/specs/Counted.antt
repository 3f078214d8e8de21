-- What a step changes of the numbers.
use Rattle.std.specs.Prelude.{ℕ, suc, ◌+◌, List, length, replicate, slice_index, slice_set, if◌then◌else◌}
use Rattle.colours.specs.declared.turn.Turn.{Turn}
use Rattle.colours.specs.declared.turn.Turn.TheVariants.{PostStage, MarkFound, ReadColour}
use Rattle.collector_places.specs.Counts.{is_below_grey}
use Rattle.collector_places.specs.Places.{Places}

-- the list with one more at this place, if there is one
abbrev pub with_one_more : List ℕ → ℕ → List ℕ
with_one_more numbers at = slice_set numbers at (slice_index numbers at + 1)

-- the counts after a step
abbrev pub looks_counted : Turn → List ℕ → List ℕ
looks_counted (PostStage stage) looks = replicate (length looks) 0
looks_counted (ReadColour cell colour) looks = with_one_more looks cell
looks_counted turn looks = looks

-- how often each cell was found below grey by a mark since the last post, after a step of the collector
abbrev pub shades_counted : (stage : ℕ) → Turn → List ℕ → List ℕ
shades_counted stage (PostStage to) shades = replicate (length shades) 0
shades_counted stage (MarkFound cell colour) shades = if is_below_grey stage colour then with_one_more shades cell else shades
shades_counted stage turn shades = shades

-- the stage that is posted after a step of the collector
abbrev pub posted_by : Turn → (stage : ℕ) → ℕ
posted_by (PostStage to) stage = to
posted_by turn stage = stage

-- the places with the step counted
abbrev pub counted : Turn → Places → Places
counted turn v = record {
  heap = v.heap;
  posted = posted_by turn v.posted;
  turns = v.turns + 1;
  looks = looks_counted turn v.looks;
  shades = shades_counted v.posted turn v.shades;
  spots = v.spots;
}
