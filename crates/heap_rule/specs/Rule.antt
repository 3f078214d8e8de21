-- The rule of the shared table, and which steps keep it.
use Rattle.std.specs.Prelude.{ℕ, zero, suc, ◌+◌, ◌^◌, ◌<◌, ◌≤◌, ◌≡◌, List, [], ◌∷◌, length, slice_index}
use mathlib.Core.Option.{some}
use lib.ListN.{get_elem?}
use Rattle.atomic_table.specs.Table.{State}
use Rattle.pools.specs.Heap.{Setup, cells, words_of_cell}
use Rattle.colours.specs.declared.place.Place.{Place}
use Rattle.colours.specs.declared.place.Place.TheVariants.{Posted, Stage, Colour, Word}
use Rattle.colours.specs.declared.ask.Ask.{Ask}
use Rattle.colours.specs.declared.ask.Ask.TheVariants.{Load, Store}
use Rattle.colours.specs.Colours.{cycle_of}
use Rattle.colours.specs.Steps.{ask_of, turn_of, place_of, Found, FoundBy}
use Rattle.colours.specs.Mutator.{stage_of, phase_of, MayFollow, IsDisciplined}
use Rattle.colours.specs.Collector.{Collection, posted_of, Collects}
use Rattle.colours.specs.Runs.{Event, ByThread, ByCollector, log_of, turns_of, word_after, IsHeapRun}
use Rattle.heap_rule.specs.View.{Actor, Thread, Share, OfThread, OfCollector, View, actor_of}

-- ---- where the words lie

-- where a cell begins in the table: its colour is there, and its words come next
abbrev pub start : Setup → (cell : ℕ) → ℕ
start s zero = suc s.threads
start s (suc cell) = start s cell + suc (length (words_of_cell s cell))

-- how many words the table has
abbrev pub size : Setup → ℕ
size s = start s (cells s)

-- the word is one of the heap
abbrev pub HasPlace : Setup → Place → Type 0
HasPlace s Posted = Unit {0}
HasPlace s (Stage thread) = thread < s.threads
HasPlace s (Colour cell) = cell < cells s
HasPlace s (Word cell word) = (cell < cells s) × (word < length (words_of_cell s cell))

-- where a word lies in the table
abbrev pub index : Setup → Place → ℕ
index s Posted = 0
index s (Stage thread) = suc thread
index s (Colour cell) = start s cell
index s (Word cell word) = suc (start s cell + word)

-- ---- the rule

-- the share is its actor's share of the run
abbrev pub IsShareIn : List Event → Share → Type 0
IsShareIn run (OfThread thread log) = log_of thread run ≡ log
IsShareIn run (OfCollector log) = turns_of run ≡ log

-- all of these are, and their actors belong to this seat
abbrev pub AreSharesIn : List Event → (owner : Actor → ℕ) → (seat : ℕ) → List Share → Type 0
AreSharesIn run owner seat [] = Unit {0}
AreSharesIn run owner seat (share ∷ shares) = ((owner (actor_of share) ≡ seat) × IsShareIn run share) × AreSharesIn run owner seat shares

-- what the seat knows is true of the run
pub record Knows (run : List Event) (owner : Actor → ℕ) (seat : ℕ) (v : View) : Type 0 where
  pub undealt : (thread : ℕ) → v.next ≤ thread → thread < v.until → (owner (Thread thread) ≡ seat) × (log_of thread run ≡ [])
  pub shares : AreSharesIn run owner seat v.shares

-- there is one run of the heap that ends in the table's words. Each actor belongs to one seat, and what that seat knows is true of the run
pub record Ruled (s : Setup) (table : State (Unit {0}) View) : Type 0 where
  pub run : List Event
  pub owner : Actor → ℕ
  pub is_run : IsHeapRun s run
  pub sized : length table.words ≡ size s
  pub words : (p : Place) → HasPlace s p → slice_index table.words (index s p) ≡ word_after s run p
  pub views : (seat : ℕ) (v : View) → get_elem? table.views seat ≡ some v → Knows run owner seat v

-- what the first seat knows once the threads below this one were dealt out
abbrev pub dealing : Setup → (next : ℕ) → View
dealing s next = record { setup = s; next = next; until = s.threads; shares = OfCollector [] ∷ [] }

-- and before that
abbrev pub first_view : Setup → View
first_view s = dealing s 0

-- ---- steps

-- the operation that the event is after this share
abbrev pub ask_after : Share → Event → Ask
ask_after (OfThread thread log) (ByThread u step) = ask_of thread (stage_of log) step
ask_after (OfCollector log) (ByCollector turn) = turn_of (cycle_of (posted_of log)) turn
ask_after share event = Load Posted

-- after this share its actor may make the step, by the order of its steps; a thread also by the discipline
abbrev pub MayMake : Setup → Share → Event → Type 0
MayMake s (OfThread thread log) (ByThread u step) =
    (u ≡ thread) × (thread < s.threads) × MayFollow s (stage_of log) (phase_of s thread log) step × IsDisciplined s log step
MayMake s (OfCollector log) (ByCollector turn) = (c : Collection) × Collects s (turn ∷ log) c
MayMake s share event = ⊥

-- what the event says of the word that it found
abbrev pub SaysFound : Event → (found : ℕ) → Type 0
SaysFound (ByThread thread step) found = Found step found
SaysFound (ByCollector turn) found = FoundBy turn found

-- the number that a caller is told: what was found, or what was stored
abbrev pub told : Ask → (found : ℕ) → ℕ
told (Store place value) found = value
told ask found = found

-- at some moment the word held this number, after a run in which the actor has this share
pub record Finds (s : Setup) (share : Share) (p : Place) (found : ℕ) : Type 0 where
  pub run : List Event
  pub is_run : IsHeapRun s run
  pub mine : IsShareIn run share
  pub holds : word_after s run p ≡ found

-- at some moment the step was made, after a run in which the actor has this share
pub record Happens (s : Setup) (share : Share) (event : Event) : Type 0 where
  pub run : List Event
  pub is_run : IsHeapRun s (event ∷ run)
  pub mine : IsShareIn run share

-- the step may be made after the share by this operation, where the word holds this number
pub record IsStepBy (s : Setup) (share : Share) (event : Event) (ask : Ask) (found : ℕ) : Type 0 where
  pub may : MayMake s share event
  pub operation : ask_after share event ≡ ask
  pub says : SaysFound event found

-- whatever the word holds, the step may be made
abbrev pub MayStep : Setup → Share → (event : ℕ → Event) → Ask → Type 0
MayStep s share event ask = (found : ℕ) → found < 2 ^ 64 → Finds s share (place_of ask) found → IsStepBy s share (event (told ask found)) ask found
