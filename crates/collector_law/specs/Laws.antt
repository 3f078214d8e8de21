-- What the laws of the collector say of a run.
use Rattle.std.specs.Prelude.{ℕ, ◌^◌, ◌<◌, ◌≡◌, ◌⊎◌, Option, Some, None, List, [], ◌∷◌, IsTrue}
use Rattle.pools.specs.declared.word_kind.WordKind.{WordKind}
use Rattle.pools.specs.declared.word_kind.WordKind.TheVariants.{Integer, Reference}
use Rattle.pools.specs.Heap.{Setup, IsOfLayout, kind_of}
use Rattle.colours.specs.declared.place.Place.TheVariants.{Colour, Word}
use Rattle.colours.specs.Colours.{cycle_of, is_async, black}
use Rattle.colours.specs.Collector.{Collection, Posting, Sweeping, Clearing, posted_of, Collects}
use Rattle.colours.specs.Mutator.{gains, Keeps}
use Rattle.colours.specs.Runs.{Event, ByThread, ByCollector, turns_of, word_after, births_after, given, IsAlive, Kept}

-- the collector is between the end of a trace and the next cycle's first post
abbrev pub IsClean : (stage : ℕ) → Collection → Type 0
IsClean stage Posting = IsTrue (is_async stage)
IsClean stage (Sweeping cell) = Unit {0}
IsClean stage (Clearing cell word) = Unit {0}
IsClean stage _ = ⊥

-- the run has reached such a point
abbrev pub IsPastTrace : Setup → List Event → Type 0
IsPastTrace s run = (c : Collection) × Collects s (turns_of run) c × IsClean (posted_of (turns_of run)) c

-- each kept cell is black
abbrev pub KeptIsBlack : Setup → List Event → Type 0
KeptIsBlack s run = (cell birth : ℕ) → Kept s run cell birth → word_after s run (Colour cell) ≡ black (cycle_of (posted_of (turns_of run)))

-- the thread holds this reference: a cell, with the birth that it had when the thread got it
abbrev pub HoldsReference : Setup → List Event → (thread cell birth : ℕ) → Type 0
HoldsReference s [] t c b = ⊥
HoldsReference s (ByThread u step ∷ run) t c b =
    ((u ≡ t) × IsTrue (gains s step c) × (b ≡ given (births_after s run) step c)) ⊎ ((u ≡ t → Keeps step c) × HoldsReference s run t c b)
HoldsReference s (ByCollector turn ∷ run) t c b = HoldsReference s run t c b

-- each reference that a thread holds, however long, is alive
abbrev pub ReferencesAreAlive : Setup → List Event → Type 0
ReferencesAreAlive s run = (t c b : ℕ) → HoldsReference s run t c b → IsAlive s run c b

-- a number that a word of this kind may hold
abbrev pub FitsKind : Setup → Option WordKind → ℕ → Type 0
FitsKind s None v = Unit {0}
FitsKind s (Some (Integer bits)) v = v < 2 ^ bits
FitsKind s (Some (Reference layout)) v = (v ≡ 0) ⊎ IsOfLayout s layout v

-- each word of each cell holds such a number
abbrev pub EachWordFits : Setup → List Event → Type 0
EachWordFits s run = (cell word : ℕ) → FitsKind s (kind_of s cell word) (word_after s run (Word cell word))
