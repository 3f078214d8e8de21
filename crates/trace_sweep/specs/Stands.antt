-- A collector and the log of its steps.
use Rattle.std.specs.Prelude.{ℕ, ◌≡◌, false, List, ◌∷◌, unwrap_or, if◌then◌else◌}
use Rattle.pools.specs.Heap.{Setup}
use Rattle.colours.specs.declared.place.Place.{Place}
use Rattle.colours.specs.declared.turn.Turn.{Turn}
use Rattle.colours.specs.Colours.{cycle_of}
use Rattle.colours.specs.Steps as steps
use Rattle.colours.specs.Collector.{Collection, posted_of, Collects}
use Rattle.colours.specs.Runs.{Event, ByCollector, turns_of, word_after, MayHappen}
use Rattle.trace_sweep.specs.declared.motion.Motion.{Motion}
use Rattle.trace_sweep.specs.Turns.{is_at_limit, IsPartOf, shaded_at}
use Rattle.trace_sweep.specs.Collecting.{Collecting, plan_of, in_order, turn_of, moved, stored_by}

-- the collector of this heap is where the order of the steps is after this log
pub record StandsAfter (s : Setup) (log : List Turn) (c : Collecting) : Type 0 where
  pub heap : c.heap ≡ plan_of s
  pub posted : c.posted ≡ posted_of log
  pub place : Collection
  pub at : c.at ≡ in_order place
  pub listed : IsPartOf c.listed (shaded_at place)
  pub collects : Collects s log place

-- the step is the next one of the order after each log that led here
abbrev pub ExtendsLogs : (before : Collecting) → Turn → (afterwards : Collecting) → Type 0
ExtendsLogs before turn afterwards = (s : Setup) (log : List Turn) → StandsAfter s log before → StandsAfter s (turn ∷ log) afterwards

-- the collector makes this step on these words, and is in this state after it
pub record IsStepOn (word_at : Place → ℕ) (before : Collecting) (m : Motion) (afterwards : Collecting) : Type 0 where
  pub further : is_at_limit before.posted before.at ≡ false
  pub turn : m.turn ≡ turn_of before (word_at m.place)
  pub place : m.place ≡ steps.place_of (steps.turn_of (cycle_of before.posted) m.turn)
  pub stored : m.stored ≡ stored_by (steps.turn_of (cycle_of before.posted) m.turn) (word_at m.place)
  pub found : steps.FoundBy m.turn (word_at m.place)
  pub moves : afterwards ≡ moved before (word_at m.place)

-- the words after a motion: its caller has stored what the motion says
abbrev pub word_afterwards : (Place → ℕ) → Motion → Place → ℕ
word_afterwards word_at m p = if steps.same_place m.place p then unwrap_or m.stored (word_at p) else word_at p

-- the motion is the run's next step, and leaves these words
pub record ExtendsRun (s : Setup) (run : List Event) (word_at : Place → ℕ) (m : Motion) : Type 0 where
  pub may_happen : MayHappen s run (ByCollector m.turn)
  pub words : (p : Place) → word_after s (ByCollector m.turn ∷ run) p ≡ word_afterwards word_at m p

-- the motion is the next step of each run that led here and has these words
abbrev pub ExtendsRuns : (before : Collecting) → (Place → ℕ) → Motion → Type 0
ExtendsRuns before word_at m = (s : Setup) (run : List Event) → StandsAfter s (turns_of run) before → ((p : Place) → word_at p ≡ word_after s run p) → ExtendsRun s run word_at m
