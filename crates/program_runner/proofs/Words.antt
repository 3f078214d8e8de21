-- The words of cells after that of the globals.
use Rattle.std.proofs.Common.{◌≡◌, ℕ, zero, suc, refl}
use Rattle.std.specs.Prelude.{◌-◌, slice_get}
use Rattle.pools.specs.Heap.{Setup, layout_at, layout_of, kind_of, words_of_cell}
use Rattle.pools.specs.Layouts.{words_of}

-- they are those of the layout of its pool
pub words_of_pool : (s : Setup) (cell : ℕ) → (cell ≡ 0 → ⊥) → words_of s.layouts (layout_at s.pools (cell - 1)) ≡ words_of_cell s cell
unfolding layout_of
words_of_pool s zero n = absurd (n refl)
words_of_pool s (suc cell) n = refl

-- the kind of a word is in the list of its cell's words
pub kind_is : (s : Setup) (cell word : ℕ) → slice_get (words_of_cell s cell) word ≡ kind_of s cell word
unfolding kind_of
kind_is s cell word = refl
