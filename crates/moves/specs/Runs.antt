-- The run that a list of actors makes, each by its one next step on the words as the steps before left them. Cells of a pool
-- are tried from the thread's hint to the pool's end, and then from the first one up to the hint. The collector looks only at those cells out of turn that its list asks for.
use Rattle.std.specs.Prelude.{ℕ, ◌<◌, Option, Some, None, List, [], ◌∷◌}
use Rattle.pools.specs.Heap.{Setup}
use Rattle.colours.specs.declared.place.Place.{Place}
use Rattle.colours.specs.declared.ask.Ask.{Ask}
use Rattle.colours.specs.declared.turn.Turn.{Turn}
use Rattle.colours.specs.declared.turn.Turn.TheVariants.{PostStage, ReadStage, MarkFound, ReadColour, ScanWord, Blacken, ClearWord, Free}
use Rattle.colours.specs.Steps.{place_of}
use Rattle.colours.specs.Runs.{word_after, turns_of}
use Rattle.trace_sweep.specs.Collecting.{Collecting, plan_of, begun, ask_of, turn_of, moved}
use Rattle.runs.specs.Machine.{Machine}
use Rattle.runs.specs.Moves.{Move, steps_of}
use Rattle.runs.specs.ModuleRuns.{Happening, OfThread, OfCollector, share_of, heap_of}
use Rattle.runs.specs.NextMoves.{next_move_in, sight_after}
use Rattle.runs.specs.Tries.{by_hint}
use Rattle.moves.specs.declared.actor.Actor.{Actor}
use Rattle.moves.specs.declared.actor.Actor.TheVariants.{Thread, Collector}

-- ---- the collector

-- what a step of the collector found, as its entry says; 0 where it reads nothing
abbrev pub found_in : Turn → ℕ
found_in (PostStage stage) = 0
found_in (ReadStage thread stage) = stage
found_in (MarkFound cell colour) = colour
found_in (ReadColour cell colour) = colour
found_in (ScanWord cell word value) = value
found_in (Blacken cell) = 0
found_in (ClearWord cell word) = 0
found_in (Free cell) = 0

-- the collector after its steps
unfoldable pub collector_after : Setup → List Turn → Collecting
collector_after s [] = begun (plan_of s)
collector_after s (turn ∷ log) = moved (collector_after s log) (found_in turn)

-- the step of an operation, if one is asked for, on these words
abbrev pub turn_for : Collecting → (Place → ℕ) → Option Ask → Option Turn
turn_for c word_at None = None
turn_for c word_at (Some ask) = Some (turn_of c (word_at (place_of ask)))

-- the collector's next step on these words. At the limit of the cycles there is none
abbrev pub next_turn : Collecting → (Place → ℕ) → Option Turn
next_turn c word_at = turn_for c word_at (ask_of c)

-- ---- the next happening

-- a thread's move, if there is one, as a happening
abbrev pub by_thread : (thread : ℕ) → Option Move → Option Happening
by_thread t None = None
by_thread t (Some move) = Some (OfThread t move)

-- and a step of the collector
abbrev pub by_collector : Option Turn → Option Happening
by_collector None = None
by_collector (Some turn) = Some (OfCollector turn)

-- the one next step of an actor after a run; none where its thread has ended, or at the limit of the cycles
abbrev pub next_by : (s : Setup) (m : Machine) (starts : ℕ → m.State) → List Happening → Actor → Option Happening
next_by s m starts run (Thread t) = by_thread t (next_move_in s m starts run (sight_after s run (by_hint s (steps_of (share_of t run)))) t)
next_by s m starts run Collector = by_collector (next_turn (collector_after s (turns_of (heap_of run))) (word_after s (heap_of run)))

-- a run with one more happening, if there is one
abbrev pub with_next : Option Happening → List Happening → List Happening
with_next None run = run
with_next (Some happening) run = happening ∷ run

-- ---- the run

-- the run that these actors make, the newest first. An actor without a next step leaves the run as it is
unfoldable pub run_by : (s : Setup) (m : Machine) (starts : ℕ → m.State) → List Actor → List Happening
run_by s m starts [] = []
run_by s m starts (actor ∷ actors) = with_next (next_by s m starts (run_by s m starts actors) actor) (run_by s m starts actors)

-- the actor is the collector or one of this number of threads
abbrev pub IsActor : (threads : ℕ) → Actor → Type 0
IsActor threads (Thread t) = t < threads
IsActor threads Collector = Unit {0}

-- the same for each of these
abbrev pub AreActors : (threads : ℕ) → List Actor → Type 0
AreActors threads [] = Unit {0}
AreActors threads (actor ∷ actors) = IsActor threads actor × AreActors threads actors
