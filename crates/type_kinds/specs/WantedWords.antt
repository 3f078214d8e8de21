-- Which words of a cell, or of a global, may be loaded or stored under a type.
use Rattle.std.specs.Prelude.{ℕ, ◌==◌, Bool, true, false, not, ◌||◌, if◌then◌else◌, List, [], ◌∷◌, Option, Some, None}
use Rattle.std.specs.List.{list_all, range_with_len}
use Rattle.pools.specs.Layouts.{kind_of_word}
use Rattle.pools.specs.WordSets.{has_word}
use Rattle.pools.specs.declared.word_kind.WordKind.{WordKind}
use Rattle.pools.specs.declared.word_kind.WordKind.TheVariants as word
use Rattle.pools.specs.declared.word_set.WordSet.{WordSet}
use Rattle.type_kinds.specs.declared.wanted_word.WantedWord.{WantedWord}
use Rattle.type_kinds.specs.declared.wanted_word.WantedWord.TheVariants as want
use Rattle.type_kinds.specs.declared.type_kind.TypeKind.{TypeKind}
use Rattle.type_kinds.specs.declared.type_kind.TypeKind.TheVariants.{Bits, Reference, AnyReference}

-- a word that is there holds what is wanted
abbrev pub holds_wanted : WantedWord → Option WordKind → Bool
holds_wanted (want.Integer bits) (Some (word.Integer other)) = other == bits
holds_wanted (want.Reference layout) (Some (word.Reference other)) = other == layout
holds_wanted want.AnyReference (Some (word.Reference other)) = true
holds_wanted _ _ = false

-- the layout to which a word that is there refers
abbrev pub layout_of_word : Option WordKind → Option ℕ
layout_of_word (Some (word.Reference layout)) = Some layout
layout_of_word _ = None

-- the words of a cell, by their numbers
abbrev pub cell_words : List ℕ
cell_words = range_with_len 0 64

-- each word of a set holds what is wanted, in a layout
abbrev pub each_word : WantedWord → (layouts : List (List WordKind)) → (layout : ℕ) → WordSet → Bool
each_word wanted layouts layout words = list_all (λ w. not (has_word words w) || holds_wanted wanted (kind_of_word layouts layout w)) cell_words

-- the layout to which the first of these words refers that a set has
abbrev pub first_layout : (layouts : List (List WordKind)) → (layout : ℕ) → WordSet → List ℕ → Option ℕ
first_layout layouts layout words [] = None
first_layout layouts layout words (w ∷ rest) = if has_word words w then layout_of_word (kind_of_word layouts layout w) else first_layout layouts layout words rest

-- references of one layout are wanted: that of the first word, if there is one
abbrev pub one_reference : (first : Option ℕ) → WantedWord
one_reference None = want.Nothing
one_reference (Some layout) = want.Reference layout

-- what a load of this kind wants of words, the first of which refers to this layout
abbrev pub wanted_by_load : TypeKind → (first : Option ℕ) → WantedWord
wanted_by_load (Bits bits) first = want.Integer bits
wanted_by_load (Reference layout) first = want.Reference layout
wanted_by_load AnyReference first = one_reference first
wanted_by_load _ first = want.Nothing

-- words of a layout may be loaded under a type of this kind
abbrev pub loads_words : (layouts : List (List WordKind)) → (layout : ℕ) → WordSet → TypeKind → Bool
loads_words layouts layout words kind = each_word (wanted_by_load kind (first_layout layouts layout words cell_words)) layouts layout words

-- the same of the word of a global
abbrev pub loads_word : TypeKind → Option WordKind → Bool
loads_word kind word = holds_wanted (wanted_by_load kind (layout_of_word word)) word

-- what a store of this kind wants of words
abbrev pub wanted_by_store : TypeKind → WantedWord
wanted_by_store (Bits bits) = want.Integer bits
wanted_by_store (Reference layout) = want.Reference layout
wanted_by_store AnyReference = want.AnyReference
wanted_by_store _ = want.Nothing
