-- Where the collector of a log is, and how many of its sweeps are over.
use Rattle.std.specs.Prelude.{ℕ, suc, ◌-◌, ◌/◌, ◌≡◌, ◌==◌, List, [], ◌∷◌, if◌then◌else◌}
use Rattle.pools.specs.Heap.{Setup, cells}
use Rattle.colours.specs.declared.turn.Turn.{Turn}
use Rattle.colours.specs.declared.turn.Turn.TheVariants.{ReadStage, MarkFound, ReadColour, ScanWord}
use Rattle.colours.specs.Colours.{cycle_of}
use Rattle.colours.specs.Collector.{Collection, Posting, Clearing, posted_of, Collects}
use Rattle.trace_sweep.specs.Collecting.{Collecting, plan_of, in_order, begun, moved}

-- what the step found in its word, as far as it tells
abbrev pub found_in : Turn → ℕ
found_in (ReadStage thread found) = found
found_in (MarkFound cell found) = found
found_in (ReadColour cell found) = found
found_in (ScanWord cell word value) = value
found_in _ = 0

-- the collector of this heap after these steps. A log has one
abbrev pub collector_after : Setup → List Turn → Collecting
collector_after s [] = begun (plan_of s)
collector_after s (turn ∷ log) = moved (collector_after s log) (found_in turn)

-- the step leads the collector of each log to that of the longer one
abbrev pub LeadsOn : (before : Collecting) → Turn → (afterwards : Collecting) → Type 0
LeadsOn before turn afterwards = (s : Setup) (log : List Turn) → before ≡ collector_after s log → afterwards ≡ collector_after s (turn ∷ log)

-- how many sweeps have looked at their last cell, at this posted stage and place; without cells, how many traces have ended
abbrev pub swept : Setup → (stage : ℕ) → Collection → ℕ
swept s stage Posting = stage / 3
swept s stage (Clearing cell word) = if suc cell == cells s then cycle_of stage else cycle_of stage - 1
swept s stage _ = cycle_of stage - 1

-- the log leads its collector to a place by which this many sweeps have looked at their last cell
pub record HasSwept (s : Setup) (log : List Turn) (cycles : ℕ) : Type 0 where
  pub place : Collection
  pub collects : Collects s log place
  pub at : (collector_after s log).at ≡ in_order place
  pub count : cycles ≡ swept s (posted_of log) place
