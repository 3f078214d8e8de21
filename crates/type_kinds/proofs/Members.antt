-- The words of a set, one after another.
use Rattle.std.proofs.Common.{◌≡◌, ℕ, zero, suc, ◌+◌, ◌-◌, ◌<◌, ◌≤◌, Bool, true, false, cond, not, ◌&&◌, ◌||◌, nat_lt, List, [], ◌∷◌, Option, Some, None, refl, ap, sym, subst, ◌∙◌, arith}
use Rattle.std.proofs.lemmas.Bool.{lt-ltb, le-ltb}
use Rattle.std.specs.Prelude.{if◌then◌else◌, filter, is_some, IfSome}
use Rattle.std.specs.List.{find, list_all, range_with_len}
use Rattle.pools.specs.Layouts.{kind_of_word}
use Rattle.pools.specs.WordSets.{has_word}
use Rattle.pools.specs.declared.word_kind.WordKind.{WordKind}
use Rattle.pools.specs.declared.word_set.WordSet.{WordSet}
use Rattle.type_kinds.specs.WantedWords.{each_word, first_layout, holds_wanted, layout_of_word, cell_words}
use Rattle.type_kinds.specs.declared.wanted_word.WantedWord.{WantedWord}

-- the words of a set from one on
abbrev pub left : WordSet → (next : ℕ) → List ℕ
left set next = filter (has_word set) (range_with_len next (64 - next))

-- the first number that passes, and those after it
chosen_first : (test : ℕ → Bool) (first count at : ℕ) → Some at ≡ find test (range_with_len first count) → filter test (range_with_len first count) ≡ at ∷ filter test (range_with_len (at + 1) (first + count - (at + 1)))
chosen_first test first zero at is = absurd cc
chosen_first test first (suc count) at is = by (test first) is (λ later. chosen_first test (first + 1) count at later)
  where
    by : (b : Bool) → Some at ≡ cond b (Some first) (find test (range_with_len (first + 1) count)) → (Some at ≡ find test (range_with_len (first + 1) count) → filter test (range_with_len (first + 1) count) ≡ at ∷ filter test (range_with_len (at + 1) (first + 1 + count - (at + 1)))) → cond b (first ∷ filter test (range_with_len (first + 1) count)) (filter test (range_with_len (first + 1) count)) ≡ at ∷ filter test (range_with_len (at + 1) (first + suc count - (at + 1)))
    by true here more =
        let same : first ≡ at = cc in
        let others : count ≡ first + suc count - (first + 1) = omega arith in
        ap (λ n. first ∷ filter test (range_with_len (first + 1) n)) others ∙ ap (λ n. n ∷ filter test (range_with_len (n + 1) (first + suc count - (n + 1)))) same
    by false later more =
        let others : first + 1 + count - (at + 1) ≡ first + suc count - (at + 1) = omega arith in
        more later ∙ ap (λ n. at ∷ filter test (range_with_len (at + 1) n)) others

-- no number passes
chosen_none : (test : ℕ → Bool) (words : List ℕ) → None ≡ find test words → filter test words ≡ []
chosen_none test [] is = refl
chosen_none test (word ∷ words) is = by (test word) is (λ later. chosen_none test words later)
  where
    by : (b : Bool) → None ≡ cond b (Some word) (find test words) → (None ≡ find test words → filter test words ≡ []) → cond b (word ∷ filter test words) (filter test words) ≡ []
    by true here more = absurd cc
    by false later more = more later

-- the next word of a set, and those after it
pub left_some : (set : WordSet) (next word : ℕ) → next ≤ word → word < 64 → Some word ≡ find (has_word set) (range_with_len next (64 - next)) → left set next ≡ word ∷ left set (word + 1)
left_some set next word le lt is =
    let all : next + (64 - next) - (word + 1) ≡ 64 - (word + 1) = omega (arith, le, lt) in
    chosen_first (has_word set) next (64 - next) word is ∙ ap (λ n. word ∷ filter (has_word set) (range_with_len (word + 1) n)) all

-- where the next word of a set lies
pub bounded : (found : Option ℕ) (next word : ℕ) → found ≡ Some word → IfSome found (λ w. (next ≤ w) × (w < 64)) → (next ≤ word) × (word < 64)
bounded found next word is within = subst (λ (o : Option ℕ). IfSome o (λ w. (next ≤ w) × (w < 64))) is within

-- none is left
pub left_none : (set : WordSet) (next : ℕ) → None ≡ find (has_word set) (range_with_len next (64 - next)) → left set next ≡ []
left_none set next is = chosen_none (has_word set) (range_with_len next (64 - next)) is

-- ---- what holds of each word of a set

all_chosen : (test holds : ℕ → Bool) (words : List ℕ) → list_all (λ w. not (test w) || holds w) words ≡ list_all holds (filter test words)
all_chosen test holds [] = refl
all_chosen test holds (word ∷ words) = by (test word) (all_chosen test holds words)
  where
    by : (b : Bool) → list_all (λ w. not (test w) || holds w) words ≡ list_all holds (filter test words) → ((not b || holds word) && list_all (λ w. not (test w) || holds w) words) ≡ list_all holds (cond b (word ∷ filter test words) (filter test words))
    by true more = ap (λ b. holds word && b) more
    by false more = more

module _ (wanted : WantedWord) (layouts : List (List WordKind)) (layout : ℕ) where
  -- each word that is left holds what is wanted
  abbrev pub each_left : WordSet → (next : ℕ) → Bool
  each_left set next = list_all (λ w. holds_wanted wanted (kind_of_word layouts layout w)) (left set next)

  pub each_start : (set : WordSet) → each_word wanted layouts layout set ≡ each_left set 0
  each_start set = all_chosen (has_word set) (λ w. holds_wanted wanted (kind_of_word layouts layout w)) cell_words

  pub each_some : (set : WordSet) (next word : ℕ) (holds : Bool) → next ≤ word → word < 64 → Some word ≡ find (has_word set) (range_with_len next (64 - next)) → holds_wanted wanted (kind_of_word layouts layout word) ≡ holds → each_left set next ≡ (holds && each_left set (word + 1))
  each_some set next word holds le lt is e =
      ap (λ words. list_all (λ w. holds_wanted wanted (kind_of_word layouts layout w)) words) (left_some set next word le lt is) ∙ ap (λ b. b && each_left set (word + 1)) e

  pub each_none : (set : WordSet) (next : ℕ) → None ≡ find (has_word set) (range_with_len next (64 - next)) → each_left set next ≡ true
  each_none set next is = ap (λ words. list_all (λ w. holds_wanted wanted (kind_of_word layouts layout w)) words) (left_none set next is)

-- the layout of the first word of a set
abbrev pub layout_of_first : (layouts : List (List WordKind)) → (layout : ℕ) → Option ℕ → Option ℕ
layout_of_first layouts layout None = None
layout_of_first layouts layout (Some word) = layout_of_word (kind_of_word layouts layout word)

pub first_found : (layouts : List (List WordKind)) (layout : ℕ) (set : WordSet) (words : List ℕ) → layout_of_first layouts layout (find (has_word set) words) ≡ first_layout layouts layout set words
first_found layouts layout set [] = refl
first_found layouts layout set (word ∷ words) = by (has_word set word) (first_found layouts layout set words)
  where
    by : (b : Bool) → layout_of_first layouts layout (find (has_word set) words) ≡ first_layout layouts layout set words → layout_of_first layouts layout (cond b (Some word) (find (has_word set) words)) ≡ (if b then layout_of_word (kind_of_word layouts layout word) else first_layout layouts layout set words)
    by true more = refl
    by false more = more
