-- A walk over what can be reached, over the words as they are now.
use Rattle.std.specs.Prelude.{ℕ, zero, suc, ◌≡◌, ◌≢◌, ◌<◌, ◌≤◌, ◌+◌, ◌==◌, ◌⊎◌, not, Bool, true, false, min, Option, Some, None, List, [], ◌∷◌, ◌++◌, length, slice_get, slice_set, slice_index, slice_index_or, sum_by, replicate, if◌then◌else◌, IsTrue, IfSome}
use Rattle.lemmas.specs.Lists.{IsIn}
use Rattle.pools.specs.declared.word_kind.WordKind.{WordKind}
use Rattle.pools.specs.Heap.{Setup, kind_of}
use Rattle.pools.specs.Layouts.{is_reference_kind}
use Rattle.runs.specs.Machine.{WordValue}
use Rattle.runs.specs.Moves.{null}
use Rattle.moves.specs.declared.shared.Shared.{Shared}
use Rattle.moves.specs.Rows.{word_at}
use Rattle.stepping.specs.declared.walk.Walk.{Walk}

-- ---- what can be reached

-- what a path of reference words reaches, from the cell of the globals or from one of these roots
pub data Found (s : Setup) (h : Shared) (roots : List WordValue) : WordValue → Type 0 where
  globals : Found s h roots null
  root : (r : WordValue) → IsIn r roots → r.cell ≢ 0 → Found s h roots r
  further : (r : WordValue) (word : ℕ) → Found s h roots r → IsTrue (is_reference_kind (kind_of s r.cell word)) → (word_at h.words r.cell word).cell ≢ 0
      → Found s h roots (word_at h.words r.cell word)

-- ---- the walk, reference by reference

-- before any reference is met, over this number of cells
abbrev pub begun : (cells : ℕ) → Walk
begun cells = record { met = replicate cells false; order = []; blue = None; reborn = None }

-- the cell is there, and was not met
abbrev pub is_new : (met : List Bool) → (cell : ℕ) → Bool
is_new met cell = not (slice_index_or met cell true)

-- the least of a cell and those so far
abbrev pub least : Option ℕ → ℕ → ℕ
least None cell = cell
least (Some other) cell = min other cell

-- the least free cell, after a reference is met
abbrev pub blue_with : Shared → Option ℕ → WordValue → Option ℕ
blue_with h blue r = if slice_index h.colours r.cell == 0 then Some (least blue r.cell) else blue

-- and the least that was claimed again
abbrev pub reborn_with : Shared → Option ℕ → WordValue → Option ℕ
reborn_with h reborn r = if slice_index h.births r.cell == r.birth then reborn else Some (least reborn r.cell)

-- the cells that were met
abbrev pub met_with : List Bool → (cell : ℕ) → List Bool
met_with met cell = if is_new met cell then slice_set met cell true else met

-- and their order
abbrev pub order_with : List Bool → List ℕ → (cell : ℕ) → List ℕ
order_with met order cell = if is_new met cell then order ++ cell ∷ [] else order

-- the walk after a reference
abbrev pub meeting : Shared → Walk → WordValue → Walk
meeting h w r = record {
  met = met_with w.met r.cell;
  order = order_with w.met w.order r.cell;
  blue = blue_with h w.blue r;
  reborn = reborn_with h w.reborn r;
}

-- and after one that may be null, which points to nothing
abbrev pub following : Shared → Walk → WordValue → Walk
following h w r = if r.cell == 0 then w else meeting h w r

-- after what a word of this kind holds
abbrev pub looking_at : Shared → Walk → Option WordKind → WordValue → Walk
looking_at h w kind r = if is_reference_kind kind then following h w r else w

-- after the first of some references, this number of them
unfoldable pub following_first : Shared → List WordValue → Walk → (count : ℕ) → Walk
following_first h found w zero = w
following_first h found w (suc place) = following h (following_first h found w place) (slice_index_or found place null)

-- after the first words of a cell, this number of them
unfoldable pub looking : Shared → List WordKind → (row : List WordValue) → Walk → (count : ℕ) → Walk
looking h kinds row w zero = w
looking h kinds row w (suc word) = looking_at h (looking h kinds row w word) (slice_get kinds word) (slice_index_or row word null)

-- ---- what it has to do with what can be reached

-- there is a number, and it is at most this one
abbrev pub IsAtMost : Option ℕ → ℕ → Type 0
IsAtMost None cell = ⊥
IsAtMost (Some other) cell = other ≤ cell

-- the reference was met, and if it is gone, it was recorded
pub record IsSeen (h : Shared) (w : Walk) (r : WordValue) : Type 0 where
  pub met : slice_index_or w.met r.cell true ≡ true
  pub blue : slice_index h.colours r.cell ≡ 0 → IsAtMost w.blue r.cell
  pub reborn : slice_index h.births r.cell ≢ r.birth → IsAtMost w.reborn r.cell

-- a reference to this cell can be reached
pub record IsFound (s : Setup) (h : Shared) (roots : List WordValue) (cell : ℕ) : Type 0 where
  pub birth : ℕ
  pub is_found : Found s h roots (record { cell = cell; birth = birth })

-- and one of another birth than the cell's
pub record IsFoundReborn (s : Setup) (h : Shared) (roots : List WordValue) (cell : ℕ) : Type 0 where
  pub birth : ℕ
  pub is_found : Found s h roots (record { cell = cell; birth = birth })
  pub is_reborn : slice_index h.births cell ≢ birth

-- what was met can be reached
pub record IsSound (s : Setup) (h : Shared) (roots : List WordValue) (w : Walk) : Type 0 where
  pub cells : (place : ℕ) → place < length w.order → IsFound s h roots (slice_index w.order place)
  pub blue : IfSome w.blue (λ cell. (slice_index h.colours cell ≡ 0) × IsFound s h roots cell)
  pub reborn : IfSome w.reborn (IsFoundReborn s h roots)

-- each cell that was met is in the order
abbrev pub IsListed : Walk → Type 0
IsListed w = (cell : ℕ) → slice_index_or w.met cell false ≡ true → (place : ℕ) × (place < length w.order) × (slice_index w.order place ≡ cell)

-- of the cells that were met, each that is free was recorded
abbrev pub AreFreeRecorded : Shared → Walk → Type 0
AreFreeRecorded h w = (cell : ℕ) → slice_index_or w.met cell false ≡ true → slice_index h.colours cell ≡ 0 → IsAtMost w.blue cell

-- what the words of a cell hold was met
abbrev pub AreSeen : Setup → Shared → Walk → (cell : ℕ) → Type 0
AreSeen s h w cell = (word : ℕ) → IsTrue (is_reference_kind (kind_of s cell word)) → (word_at h.words cell word).cell ≢ 0 → IsSeen h w (word_at h.words cell word)

-- the walk looked at the words of the first cells of its order, this number of them
pub record IsLooked (s : Setup) (h : Shared) (w : Walk) (looked : ℕ) : Type 0 where
  pub listed : IsListed w
  pub free : AreFreeRecorded h w
  pub words_seen : (place : ℕ) → place < looked → AreSeen s h w (slice_index w.order place)

-- it met the globals and the roots, and looked at all that it met
pub record IsClosed (s : Setup) (h : Shared) (roots : List WordValue) (w : Walk) : Type 0 where
  pub looked : IsLooked s h w (length w.order)
  pub globals_seen : IsSeen h w null
  pub roots_seen : (r : WordValue) → IsIn r roots → r.cell ≢ 0 → IsSeen h w r

-- so but for one reference that was stored, and for these roots of one thread
pub record IsNearlyClosed (s : Setup) (h : Shared) (roots own : List WordValue) (stored : WordValue) (w : Walk) : Type 0 where
  pub listed : IsListed w
  pub free : AreFreeRecorded h w
  pub words_seen : (place : ℕ) → place < length w.order → (word : ℕ) → IsTrue (is_reference_kind (kind_of s (slice_index w.order place) word)) → (word_at h.words (slice_index w.order place) word).cell ≢ 0
      → IsSeen h w (word_at h.words (slice_index w.order place) word) ⊎ (word_at h.words (slice_index w.order place) word ≡ stored)
  pub globals_seen : IsSeen h w null
  pub roots_seen : (r : WordValue) → IsIn r roots → r.cell ≢ 0 → IsSeen h w r ⊎ IsIn r own

-- it is closed, and all that it met can be reached
pub record IsWhole (s : Setup) (h : Shared) (roots : List WordValue) (w : Walk) : Type 0 where
  pub sound : IsSound s h roots w
  pub closed : IsClosed s h roots w

-- ---- its cells

-- a cell that was not met counts
abbrev pub unmet : Bool → ℕ
unmet true = 0
unmet false = 1

-- the row has this number of cells, those that are left and those of the order are as many, and those of the order are cells that were met
pub record IsShaped (cells : ℕ) (w : Walk) : Type 0 where
  pub wide : length w.met ≡ cells
  pub left : length w.order + sum_by unmet w.met ≡ cells
  pub within : (place : ℕ) → place < length w.order → slice_index w.order place < cells
  pub are_met : (place : ℕ) → place < length w.order → slice_index_or w.met (slice_index w.order place) false ≡ true
