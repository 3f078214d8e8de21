-- The words of layouts.
use Rattle.std.specs.Prelude.{ℕ, Bool, true, false, List, [], Option, Some, None, slice_get, unwrap_or}
use Rattle.pools.specs.declared.word_kind.WordKind.{WordKind}
use Rattle.pools.specs.declared.word_kind.WordKind.TheVariants.{Integer, Reference}

-- the words of a layout; a number that no layout has, has none
abbrev pub words_of : List (List WordKind) → (layout : ℕ) → List WordKind
words_of layouts layout = unwrap_or (slice_get layouts layout) []

-- what a word of a layout holds, if the layout has that word
abbrev pub kind_of_word : List (List WordKind) → (layout word : ℕ) → Option WordKind
kind_of_word layouts layout word = slice_get (words_of layouts layout) word

-- whether it is there, and holds references
abbrev pub is_reference_kind : Option WordKind → Bool
is_reference_kind None = false
is_reference_kind (Some (Integer bits)) = false
is_reference_kind (Some (Reference layout)) = true

-- whether this word of a layout holds references
abbrev pub is_reference_word : List (List WordKind) → (layout word : ℕ) → Bool
is_reference_word layouts layout word = is_reference_kind (kind_of_word layouts layout word)
