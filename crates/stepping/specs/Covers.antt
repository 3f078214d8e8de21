-- Cells among which is all that can be reached after a run, none of it gone.
use Rattle.std.specs.Prelude.{ℕ, ◌≡◌, ◌≢◌, ◌<◌, ◌≤◌, ◌^◌, false, true, Bool, None, List, slice_index_or, IsTrue, IfSome}
use Rattle.pools.specs.Heap.{Setup, cells, kind_of}
use Rattle.pools.specs.Layouts.{is_reference_kind}
use Rattle.colours.specs.declared.place.Place.TheVariants.{Colour, Word}
use Rattle.colours.specs.Runs.{word_after}
use Rattle.runs.specs.Machine.{WordValue, Machine}
use Rattle.runs.specs.Moves.{Move, StoresAfterBarrier, StoresPlain, null}
use Rattle.runs.specs.ModuleRuns.{Happening, heap_of, birth_of, birth_in}
use Rattle.runs.specs.Broken.{IsRoot}
use Rattle.colours.specs.declared.turn.Turn.{Turn}
use Rattle.colours.specs.declared.turn.Turn.TheVariants.{Free}
use Rattle.stepping.specs.declared.cover.Cover.{Cover}
use Rattle.stepping.specs.declared.walk.Walk.{Walk}
use Rattle.stepping.specs.Walks.{IsListed, IsShaped}

-- the cell is one of these
abbrev pub IsMet : (met : List Bool) → (cell : ℕ) → Type 0
IsMet met cell = slice_index_or met cell false ≡ true

-- the reference is to one of these cells, which was not claimed again since
pub record IsKept (s : Setup) (run : List Happening) (met : List Bool) (r : WordValue) : Type 0 where
  pub is_met : IsMet met r.cell
  pub birth : birth_of s run r.cell ≡ r.birth

-- what a word of a cell holds after a run
abbrev pub held_in : Setup → List Happening → (cell word : ℕ) → WordValue
held_in s run cell word = record { cell = word_after s (heap_of run) (Word cell word); birth = birth_in run cell word }

-- none of these cells is free, and the globals, the roots and the reference words of these cells lead to these cells alone
pub record Covers (s : Setup) (m : Machine) (starts : ℕ → m.State) (run : List Happening) (met : List Bool) : Type 0 where
  pub claimed : (cell : ℕ) → IsMet met cell → word_after s (heap_of run) (Colour cell) ≢ 0
  pub globals : IsKept s run met null
  pub roots : (r : WordValue) → IsRoot s m starts run r → r.cell ≢ 0 → IsKept s run met r
  pub words : (cell word : ℕ) → IsMet met cell → IsTrue (is_reference_kind (kind_of s cell word)) → (held_in s run cell word).cell ≢ 0 → IsKept s run met (held_in s run cell word)

-- the walk is over, and met nothing that is gone
pub record IsOver (cells : ℕ) (w : Walk) : Type 0 where
  pub shaped : IsShaped cells w
  pub few : cells ≤ 2 ^ 20
  pub listed : IsListed w
  pub none_free : w.blue ≡ None
  pub none_reborn : w.reborn ≡ None

-- the cells of the walk are such after this run
pub record IsCoverAfter (s : Setup) (m : Machine) (starts : ℕ → m.State) (run : List Happening) (w : Walk) : Type 0 where
  pub over : IsOver (cells s) w
  pub covers : Covers s m starts run w.met

-- where cells are known, they are such after this run
abbrev pub IsCovered : (s : Setup) (m : Machine) (starts : ℕ → m.State) → List Happening → Cover → Type 0
IsCovered s m starts run cover = IfSome cover.walk (IsCoverAfter s m starts run)

-- what a move stores in a reference word of the heap is this reference
abbrev pub IsStored : Setup → Move → WordValue → Type 0
IsStored s (StoresAfterBarrier base word value) stored = base.cell < cells s → IsTrue (is_reference_kind (kind_of s base.cell word)) → stored ≡ value
IsStored s (StoresPlain base word value) stored = base.cell < cells s → IsTrue (is_reference_kind (kind_of s base.cell word)) → stored ≡ value
IsStored s move stored = Unit {0}

-- the step of the collector frees none of these cells
abbrev pub FreesNoneOf : (met : List Bool) → Turn → Type 0
FreesNoneOf met (Free cell) = ¬ IsMet met cell
FreesNoneOf met turn = Unit {0}
