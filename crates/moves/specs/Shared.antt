-- The shared words and births, as they are now.
use Rattle.std.specs.Prelude.{ℕ, ◌≡◌, ◌<◌, ◌^◌, max, true, Some, List, [], length, slice_set, slice_index, slice_index_or}
use Rattle.pools.specs.declared.word_kind.WordKind.{WordKind}
use Rattle.pools.specs.Heap.{Setup, cells, kind_of, words_of_cell}
use Rattle.colours.specs.declared.place.Place.{Place}
use Rattle.colours.specs.declared.place.Place.TheVariants.{Posted, Stage, Colour, Word}
use Rattle.colours.specs.Colours.{mark_at, claim_at, done}
use Rattle.colours.specs.Runs.{word_after}
use Rattle.runs.specs.ModuleRuns.{Happening, heap_of, birth_of, birth_in}
use Rattle.moves.specs.declared.moves.Move.{Move}
use Rattle.moves.specs.declared.moves.Move.TheVariants.{Marks, StoresAfterBarrier, StoresPlain, Claims, Answers, Ends, EntersStage}
use Rattle.moves.specs.declared.shared.Shared.{Shared}
use Rattle.moves.specs.Kinds.{MayHold}
use Rattle.moves.specs.Rows.{word_at, with_word}

-- the number that a place holds
abbrev pub held_at : Shared → Place → ℕ
held_at h Posted = h.posted
held_at h (Stage thread) = slice_index h.stages thread
held_at h (Colour cell) = slice_index h.colours cell
held_at h (Word cell word) = (word_at h.words cell word).cell

-- the place is there
abbrev pub CanHold : Shared → Place → Type 0
CanHold h Posted = Unit {0}
CanHold h (Stage thread) = thread < length h.stages
CanHold h (Colour cell) = cell < length h.colours
CanHold h (Word cell word) = (cell < length h.words) × (word < length (slice_index_or h.words cell []))

-- with another number in a place; a number in a word has birth 0
abbrev pub with_number : Shared → Place → ℕ → Shared
with_number h Posted n = record h { posted = n }
with_number h (Stage thread) n = record h { stages = slice_set h.stages thread n }
with_number h (Colour cell) n = record h { colours = slice_set h.colours cell n }
with_number h (Word cell word) n = record h { words = with_word h.words cell word (record { cell = n; birth = 0 }) }

-- there is a place for each thread, each cell and each word of this heap, and words hold what fits their kinds
pub record HasShape (s : Setup) (h : Shared) : Type 0 where
  pub stages : length h.stages ≡ s.threads
  pub colours : length h.colours ≡ cells s
  pub births : length h.births ≡ cells s
  pub rows : length h.words ≡ cells s
  pub row : (cell : ℕ) → cell < cells s → length (slice_index_or h.words cell []) ≡ length (words_of_cell s cell)
  pub kinds : (cell word : ℕ) (kind : WordKind) → cell < cells s → kind_of s cell word ≡ Some kind → MayHold s (Some kind) (word_at h.words cell word)

-- they are the words and births after a run
pub record AreAfter (s : Setup) (run : List Happening) (h : Shared) : Type 0 where
  pub words : (p : Place) → held_at h p ≡ word_after s (heap_of run) p
  pub word_births : (cell word : ℕ) → (word_at h.words cell word).birth ≡ birth_in run cell word
  pub births : (cell : ℕ) → slice_index h.births cell ≡ birth_of s run cell

-- so, with a place for each thread, cell and word of the heap
pub record ThreadStateAfter (s : Setup) (run : List Happening) (h : Shared) : Type 0 where
  pub shape : HasShape s h
  pub afterwards : AreAfter s run h

-- ---- what a thread's move leaves

-- the move of a thread at this stage may be made: its places are there
abbrev pub CanTake : Shared → (thread stage : ℕ) → Move → Type 0
CanTake h thread stage (StoresAfterBarrier base word value) = CanHold h (Word base.cell word)
CanTake h thread stage (StoresPlain base word value) = CanHold h (Word base.cell word)
CanTake h thread stage (Marks r) = CanHold h (Colour r.cell) × (stage < 2 ^ 62)
CanTake h thread stage (Claims r won) = CanHold h (Colour r.cell) × (r.cell < length h.births) × (stage < 2 ^ 62)
CanTake h thread stage (Answers next) = CanHold h (Stage thread)
CanTake h thread stage Ends = CanHold h (Stage thread)
CanTake h thread stage (EntersStage next) = CanHold h (Stage thread)
CanTake h thread stage made = Unit {0}

-- the words and births after it
abbrev pub with_move : Shared → (thread stage : ℕ) → Move → Shared
with_move h thread stage (StoresAfterBarrier base word value) = record h { words = with_word h.words base.cell word value }
with_move h thread stage (StoresPlain base word value) = record h { words = with_word h.words base.cell word value }
with_move h thread stage (Marks r) = record h { colours = slice_set h.colours r.cell (max (slice_index h.colours r.cell) (mark_at stage)) }
with_move h thread stage (Claims r true) = record h { colours = slice_set h.colours r.cell (claim_at stage); births = slice_set h.births r.cell r.birth }
with_move h thread stage (Answers next) = record h { stages = slice_set h.stages thread next }
with_move h thread stage Ends = record h { stages = slice_set h.stages thread done }
with_move h thread stage (EntersStage next) = record h { stages = slice_set h.stages thread next }
with_move h thread stage made = h
