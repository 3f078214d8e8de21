-- Where the collector may be after a step, from one place: by a look in turn or any other step, and by a look out of turn.
use Rattle.std.specs.Prelude.{ℕ, suc, ◌+◌, ◌^◌, ◌%◌, ◌==◌, ◌&&◌, not, Bool, true, false, Option, Some, None, List, [], ◌∷◌, ◌++◌, length, if◌then◌else◌, nat_lt, nat_le}
use Rattle.pools.specs.Heap.{Setup, cells, words_of_cell}
use Rattle.colours.specs.Colours.{cycle_of, grey}
use Rattle.colours.specs.declared.turn.Turn.{Turn}
use Rattle.colours.specs.declared.turn.Turn.TheVariants.{PostStage, ReadStage, MarkFound, ReadColour, ScanWord, Blacken, ClearWord, Free}
use Rattle.colours.specs.Collector.{has_answered, is_white, reference_from}
use Rattle.collector_places.specs.declared.spot.Pass.{Pass}
use Rattle.collector_places.specs.declared.spot.Spot.{Spot}
use Rattle.collector_places.specs.declared.spot.Spot.TheVariants.{Posting, Waiting, ShadingGlobals, Passing, Scanning, Shading, Sweeping, Clearing}
use Rattle.collector_places.specs.Spots.{looks_in_turn}

-- the first pass of a trace
abbrev pub first_pass : Pass
first_pass = record { rounds = 0; next = 0; met_grey = false }

-- the sweep from this cell on
abbrev pub sweep_from : Setup → (cell : ℕ) → Spot
sweep_from s cell = if nat_lt cell (cells s) then Sweeping cell else Posting

-- a pass that met a grey cell is made again
abbrev pub pass_from : Setup → Pass → Spot
pass_from s p =
    if nat_lt p.next (cells s) then Passing p
    else (if p.met_grey then Passing (record { rounds = suc p.rounds; next = 0; met_grey = false }) else sweep_from s 1)

-- after the last thread's look
abbrev pub after_wait : (stage : ℕ) → Spot
after_wait stage = if stage % 3 == 1 then Posting else (if stage % 3 == 2 then ShadingGlobals else Passing first_pass)

-- the wait for this thread and those after it
abbrev pub wait_from : Setup → (stage thread : ℕ) → Spot
wait_from s stage thread = if nat_lt thread s.threads then Waiting thread else after_wait stage

-- the pass after a look in turn
abbrev pub in_turn : Pass → Pass
in_turn p = record { rounds = p.rounds; next = suc p.next; met_grey = p.met_grey }

-- the pass that met a grey cell
abbrev pub with_grey : Pass → Pass
with_grey p = record { rounds = p.rounds; next = p.next; met_grey = true }

-- a grey cell is scanned
abbrev pub looked : Setup → (stage : ℕ) → Pass → (cell colour : ℕ) → Spot
looked s stage p cell colour = if colour == grey (cycle_of stage) then Scanning cell 0 (with_grey p) else pass_from s p

-- the spot, if the test holds
abbrev pub only_if : Bool → Spot → Option Spot
only_if b spot = if b then Some spot else None

-- where the collector is after a step that is no look out of turn
abbrev pub after_turn : Setup → (stage : ℕ) → Spot → Turn → Option Spot
after_turn s stage Posting (PostStage to) = only_if ((to == suc stage) && nat_lt (cycle_of to) (2 ^ 60)) (wait_from s to 0)
after_turn s stage (Waiting thread) (ReadStage t found) = only_if (t == thread) (if has_answered stage found then wait_from s stage (suc thread) else Waiting thread)
after_turn s stage ShadingGlobals (MarkFound cell colour) = only_if (cell == 0) Posting
after_turn s stage (Passing p) (ReadColour cell colour) = only_if (cell == p.next) (looked s stage (in_turn p) cell colour)
after_turn s stage (Scanning cell word p) (ScanWord d w value) =
    only_if ((d == cell) && ((w == reference_from s cell word) && nat_lt w (length (words_of_cell s cell)))) (if value == 0 then Scanning cell (suc w) p else Shading value cell (suc w) p)
after_turn s stage (Scanning cell word p) (Blacken d) = only_if ((d == cell) && nat_le (length (words_of_cell s cell)) (reference_from s cell word)) (pass_from s p)
after_turn s stage (Shading value cell word p) (MarkFound d colour) = only_if (d == value) (Scanning cell word p)
after_turn s stage (Sweeping cell) (ReadColour d colour) = only_if (d == cell) (if is_white stage colour then Clearing cell 0 else sweep_from s (suc cell))
after_turn s stage (Clearing cell word) (ClearWord d w) = only_if ((d == cell) && ((w == word) && nat_lt w (length (words_of_cell s cell)))) (Clearing cell (suc word))
after_turn s stage (Clearing cell word) (Free d) = only_if ((d == cell) && nat_le (length (words_of_cell s cell)) word) (sweep_from s (suc cell))
after_turn s stage _ _ = None

-- the cell of a look, or 0
abbrev pub cell_looked : Turn → ℕ
cell_looked (ReadColour cell colour) = cell
cell_looked _ = 0

-- so many looks at the cell leave one out of turn, where it was made grey so often
abbrev pub is_shaded : (looks shades : ℕ) → Pass → (cell : ℕ) → Bool
is_shaded looks shades p cell = nat_lt looks (shades + looks_in_turn p.rounds p.next cell)

-- A look in turn leaves more that may follow than one out of turn at the same cell, but for the last cell of a pass: there both
-- are kept.
abbrev pub is_needed : Setup → Pass → (cell : ℕ) → Bool
is_needed s p cell = not ((cell == p.next) && nat_lt (suc p.next) (cells s))

-- where the collector is after a look out of turn, where that is not covered by the look in turn
abbrev pub after_look : Setup → (stage looks shades : ℕ) → Spot → Turn → Option Spot
after_look s stage looks shades (Passing p) (ReadColour cell colour) =
    only_if (nat_lt 0 p.next && ((nat_lt cell (cells s) && is_shaded looks shades p cell) && is_needed s p cell)) (looked s stage p cell colour)
after_look s stage looks shades _ _ = None

-- the spot, if there is one, as a list
abbrev pub listed : Option Spot → List Spot
listed None = []
listed (Some spot) = spot ∷ []

-- where the collector is after a step from one spot
abbrev pub spots_from : Setup → (stage looks shades : ℕ) → Turn → Spot → List Spot
spots_from s stage looks shades turn spot = listed (after_turn s stage spot turn) ++ listed (after_look s stage looks shades spot turn)

-- and from any of these
abbrev pub spots_after : Setup → (stage looks shades : ℕ) → Turn → List Spot → List Spot
spots_after s stage looks shades turn [] = []
spots_after s stage looks shades turn (spot ∷ spots) = spots_from s stage looks shades turn spot ++ spots_after s stage looks shades turn spots
