-- What the law of the rule says.
use Rattle.std.specs.Prelude.{ℕ, ◌<◌, ◌≤◌, ◌≡◌, List, [], ◌∷◌, length, slice_index}
use mathlib.Core.Option.{some}
use lib.ListN.{get_elem?}
use Rattle.atomic_table.specs.Table.{State, stepped, keeps, opening, Splits, Joins}
use Rattle.pools.specs.Heap.{Setup, IsSetup}
use Rattle.colours.specs.declared.place.Place.{Place}
use Rattle.colours.specs.declared.ask.Ask.{Ask}
use Rattle.colours.specs.Steps.{place_of, left_by}
use Rattle.colours.specs.Runs.{Event, word_after, word_at_start, IsHeapRun}
use Rattle.heap_rule.specs.View.{Share, View, IsSeatOf, logged, dealt, newcomer, joined, spent}
use Rattle.heap_rule.specs.Rule.{index, size, HasPlace, IsShareIn, Ruled, IsStepBy, dealing}

-- a run of the heap with the step after it is a run of the heap, where the actor has this share and the word holds this number
abbrev pub MakesRun : Setup → Share → Event → Ask → (found : ℕ) → Type 0
MakesRun s share event ask found = (run : List Event) → IsHeapRun s run → IsShareIn run share → word_after s run (place_of ask) ≡ found
    → IsStepBy s share event ask found → IsHeapRun s (event ∷ run)

-- the word that an operation is made on, in the table
abbrev pub word_in : Setup → State (Unit {0}) View → Ask → ℕ
word_in s table ask = slice_index table.words (index s (place_of ask))

-- the table after the operation, where the seat that made it has logged the step
abbrev pub after_step_of : Setup → State (Unit {0}) View → (seat : ℕ) → View → List (ℕ × Unit {0}) → Event → Ask → State (Unit {0}) View
after_step_of s table seat v slots event ask = stepped table (index s (place_of ask)) (left_by ask (place_of ask) (word_in s table ask)) seat slots (logged v event) keeps

-- a table that meets the rule meets it after the step of a seat that has this share
abbrev pub KeepsRule : Setup → Share → Event → Ask → Type 0
KeepsRule s share event ask = (table : State (Unit {0}) View) (seat : ℕ) (v : View) (slots : List (ℕ × Unit {0}))
    → Ruled s table → get_elem? table.views seat ≡ some v → IsSeatOf share v
    → HasPlace s (place_of ask) → IsStepBy s share event ask (word_in s table ask)
    → Ruled s (after_step_of s table seat v slots event ask)

-- a table whose words are those of a heap before its first step meets the rule, where its only seat has all actors
abbrev pub OpensRule : Setup → (words : List ℕ) → Type 0
OpensRule s words = IsSetup s → length words ≡ size s → ((p : Place) → HasPlace s p → slice_index words (index s p) ≡ word_at_start s p) → Ruled s (opening words [] (dealing s 0))

-- a table that meets the rule meets it after a thread went from the first seat to a seat of its own
abbrev pub DealsThread : Setup → (seat thread : ℕ) → Type 0
DealsThread s seat thread = thread < s.threads → Splits (Ruled s) seat (dealing s thread) (dealt (dealing s thread)) (newcomer (dealing s thread))

-- and after the shares of a seat that has nothing to deal out went into another one
abbrev pub JoinsShares : Setup → (seat : ℕ) → View → (other : ℕ) → View → Type 0
JoinsShares s seat v other w = w.until ≤ w.next → Joins (Ruled s) seat v other w (joined v w) spent
