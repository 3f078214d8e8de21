-- What a thread wrote last in a word that nobody else writes.
use Rattle.std.specs.Prelude.{ℕ, ◌≡◌, ◌≢◌, ◌==◌, ◌&&◌, Bool, false, Option, Some, None, List, [], ◌∷◌, if◌then◌else◌}
use Rattle.pools.specs.Heap.{Setup}
use Rattle.colours.specs.declared.place.Place.TheVariants.{Word}
use Rattle.colours.specs.declared.turn.Turn.{Turn}
use Rattle.colours.specs.declared.turn.Turn.TheVariants.{ClearWord}
use Rattle.colours.specs.Steps.{Step, ReadWord}
use Rattle.colours.specs.Runs.{Event, ByThread, log_of, turns_of, puts, value_put, word_after, IsRun}

-- what the log stored last in the word, if it stored there
abbrev pub last_put : List Step → (cell word : ℕ) → Option ℕ
last_put [] cell word = None
last_put (step ∷ log) cell word = if puts step cell word then Some (value_put step) else last_put log cell word

-- the turn clears this word
abbrev pub clears : Turn → (cell word : ℕ) → Bool
clears (ClearWord c w) cell word = (c == cell) && (w == word)
clears turn cell word = false

-- none of these turns does
abbrev pub NeverClear : List Turn → (cell word : ℕ) → Type 0
NeverClear [] cell word = Unit {0}
NeverClear (turn ∷ turns) cell word = (clears turn cell word ≡ false) × NeverClear turns cell word

-- of all actors of the run only this thread stored in the word, and this value last
pub record WroteLast (run : List Event) (thread cell word value : ℕ) : Type 0 where
  pub own : last_put (log_of thread run) cell word ≡ Some value
  pub others : (other : ℕ) → other ≢ thread → last_put (log_of other run) cell word ≡ None
  pub uncleared : NeverClear (turns_of run) cell word

-- the word holds this value after the run
abbrev pub HoldsOwn : Setup → List Event → Type 0
HoldsOwn s run = (thread cell word value : ℕ) → WroteLast run thread cell word value → word_after s run (Word cell word) ≡ value

-- and a read that comes next in a run finds it
abbrev pub ReadsOwn : Setup → List Event → Type 0
ReadsOwn s run = (thread cell word value reader found : ℕ) → WroteLast run thread cell word value → IsRun s (ByThread reader (ReadWord cell word found) ∷ run) → found ≡ value
