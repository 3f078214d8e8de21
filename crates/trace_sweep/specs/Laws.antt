-- What the laws of the collector's order say of each place.
use Rattle.std.specs.Prelude.{ℕ, ◌≡◌, false, List}
use Rattle.pools.specs.Heap.{Setup}
use Rattle.colours.specs.declared.turn.Turn.{Turn}
use Rattle.colours.specs.Steps.{FoundBy}
use Rattle.colours.specs.Collector.{Collection, Turns}
use Rattle.trace_sweep.specs.Turns.{is_at_limit, turn_in, afterwards, list_after, kept_list, shaded_at, IsPartOf, TurnsInOrder}

-- the list is a part of what may be looked at out of turn: then, up to the limit, the step is one of the order and says what its word
-- holds, and the list after it is such a part again
abbrev pub IsOfOrder : Setup → (stage : ℕ) → (listed : List ℕ) → Collection → (found : ℕ) → Type 0
IsOfOrder s stage listed c found =
    is_at_limit stage c ≡ false → IsPartOf listed (shaded_at c)
    → Turns s stage c (turn_in s stage listed c found) (afterwards s stage listed c found)
    × FoundBy (turn_in s stage listed c found) found
    × IsPartOf (kept_list (afterwards s stage listed c found) (list_after stage listed c found)) (shaded_at (afterwards s stage listed c found))

-- and no other step that says so is one that the list asks for, from there to anywhere else
abbrev pub IsOnlyOfOrder : Setup → (stage : ℕ) → (listed : List ℕ) → Collection → (found : ℕ) → Type 0
IsOnlyOfOrder s stage listed c found = (turn : Turn) (d : Collection) → TurnsInOrder s stage listed c turn d → FoundBy turn found
    → (is_at_limit stage c ≡ false) × (turn ≡ turn_in s stage listed c found) × (d ≡ afterwards s stage listed c found)
