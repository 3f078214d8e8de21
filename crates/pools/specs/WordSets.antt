-- Sets of words of a cell.
use Rattle.std.specs.Prelude.{ℕ, Bool, true, false, not, ◌||◌, if◌then◌else◌, nat_lt, List, replicate, slice_index_or, slice_set}
use Rattle.std.specs.List.{list_all, range_with_len}

-- the set without a word
abbrev pub no_words : List Bool
no_words = replicate 64 false

-- a word is of the set
abbrev pub has_word : List Bool → (word : ℕ) → Bool
has_word set word = slice_index_or set word false

-- the set with this word too
abbrev pub adds_word : List Bool → (word : ℕ) → List Bool
adds_word set word = if nat_lt word 64 then slice_set set word true else set

-- where the other set has a word, so has this one
abbrev pub has_too : (set other : List Bool) → (word : ℕ) → Bool
has_too set other word = has_word set word || not (has_word other word)

-- a set has each word of another
abbrev pub has_all : (set other : List Bool) → Bool
has_all set other = list_all (has_too set other) (range_with_len 0 64)
