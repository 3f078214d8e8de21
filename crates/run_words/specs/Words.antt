-- The words of a heap after a run, in a table.
use Rattle.std.specs.Prelude.{ℕ, ◌≡◌, ◌==◌, ◌<◌, max, List, ◌∷◌, length, slice_index, slice_set, if◌then◌else◌}
use Rattle.pools.specs.Heap.{Setup}
use Rattle.colours.specs.declared.place.Place.{Place}
use Rattle.colours.specs.declared.ask.Ask.{Ask}
use Rattle.colours.specs.declared.ask.Ask.TheVariants.{Load, Store, FetchMax, CompareExchange}
use Rattle.colours.specs.Steps.{place_of}
use Rattle.colours.specs.Runs.{Event, ask_in, word_after}
use Rattle.heap_rule.specs.Rule.{index, size, HasPlace}

-- a heap as it is set up, and what its words hold
pub record Words : Type 0 where
  pub heap : Setup
  pub table : List ℕ

-- what a word holds
abbrev pub word_in : Words → Place → ℕ
word_in w p = slice_index w.table (index w.heap p)

-- they are the words after this run
pub record AreAfter (s : Setup) (run : List Event) (w : Words) : Type 0 where
  pub heap : w.heap ≡ s
  pub words : (p : Place) → HasPlace s p → word_in w p ≡ word_after s run p

-- what an operation leaves in a word that holds this number
abbrev pub left_in : Ask → ℕ → ℕ
left_in (Load p) m = m
left_in (Store p value) m = value
left_in (FetchMax p value) m = max m value
left_in (CompareExchange p old new) m = if m == old then new else m

-- the words after an operation
abbrev pub performed : Ask → Words → Words
performed ask w = record { heap = w.heap; table = slice_set w.table (index w.heap (place_of ask)) (left_in ask (word_in w (place_of ask))) }

-- the operation of a step of the run makes of the words after the run those after the step
abbrev pub Extends : Ask → (old new : Words) → Type 0
Extends ask old new = (s : Setup) (run : List Event) (event : Event) → AreAfter s run old → ask_in run event ≡ ask → AreAfter s (event ∷ run) new
