-- The words to which the indices of a getelementptr lead.
use Rattle.std.proofs.Common.{◌≡◌, ℕ, ◌+◌, ◌-◌, ◌*◌, ◌<◌, ◌≤◌, Bool, true, false, List, [], ◌∷◌, ◌++◌, refl, ap, ◌∙◌, sym, arith}
use Rattle.std.proofs.lemmas.Bool.{lt-ltb}
use Rattle.std.specs.Prelude.{if◌then◌else◌, nat_lt, map, Option, Some, None}
use Rattle.std.specs.List.{find, range_with_len}
use Rattle.pools.specs.WordSets.{no_words, has_word, adds_word}
use Rattle.pools.specs.declared.word_set.WordSet.{WordSet}
use Rattle.type_kinds.proofs.Members.{left, left_some, left_none}
use Rattle.block_rules.proofs.Ranges.{chosen, range_next}
use Rattle.block_rules.specs.declared.stride.Stride.{Stride}
use Rattle.block_rules.specs.Elements.{gathered, reached, all_reached, strode}

-- of `count` from a first one
pub range_step : (first count i : ℕ) → i < count → range_with_len (first + i) (count - i) ≡ (first + i) ∷ range_with_len (first + (i + 1)) (count - (i + 1))
range_step first count i lt =
    let g : first + i + 1 ≡ first + (i + 1) = omega arith in
    range_next (first + i) (count - i) (count - (i + 1)) (omega (arith, lt)) ∙ ap (λ k. (first + i) ∷ range_with_len k (count - (i + 1))) g

-- the word at a number of a stride is added, if a cell may have it
pub stride_step : (stride : Stride) (word i : ℕ) (set : WordSet) → i < stride.count → gathered (map (λ n. word + n * stride.size) (range_with_len (stride.first + i) (stride.count - i))) set ≡ (if nat_lt (word + (stride.first + i) * stride.size) 64 then gathered (map (λ n. word + n * stride.size) (range_with_len (stride.first + (i + 1)) (stride.count - (i + 1)))) (adds_word set (word + (stride.first + i) * stride.size)) else None)
stride_step stride word i set lt =
    ap (λ ns. gathered (map (λ n. word + n * stride.size) ns) set) (range_step stride.first stride.count i lt)

-- one that it may have
pub stride_fits : (stride : Stride) (word i at : ℕ) (set next : WordSet) (total : Option WordSet) → i < stride.count → at ≡ word + (stride.first + i) * stride.size → at < 64 → next ≡ adds_word set at → total ≡ gathered (map (λ n. word + n * stride.size) (range_with_len (stride.first + i) (stride.count - i))) set → total ≡ gathered (map (λ n. word + n * stride.size) (range_with_len (stride.first + (i + 1)) (stride.count - (i + 1)))) next
stride_fits stride word i at set next total lt is low adds so_far =
    so_far ∙ stride_step stride word i set lt
    ∙ chosen _ _ _ (lt-ltb _ 64 (rw is at low))
    ∙ ap (λ ms. gathered (map (λ n. word + n * stride.size) (range_with_len (stride.first + (i + 1)) (stride.count - (i + 1)))) ms) (ap (λ k. adds_word set k) (sym is) ∙ sym adds)

-- a set with some words, and then with others, if a cell may have all of them
abbrev pub gathered_too : List ℕ → Option WordSet → Option WordSet
gathered_too words None = None
gathered_too words (Some set) = gathered words set

pick_too : (fits : Bool) (one both : Option WordSet) (other : List ℕ) → both ≡ gathered_too other one → (if fits then both else None) ≡ gathered_too other (if fits then one else None)
pick_too true one both other is = is
pick_too false one both other is = refl

-- words that come after others are added after them
pub gathered_join : (one other : List ℕ) (set : WordSet) → gathered (one ++ other) set ≡ gathered_too other (gathered one set)
gathered_join [] other set = refl
gathered_join (word ∷ one) other set =
    pick_too (nat_lt word 64) (gathered one (adds_word set word)) (gathered (one ++ other) (adds_word set word)) other (gathered_join one other (adds_word set word))

-- the words that are reached from the words of a set that are left
abbrev pub left_from : Stride → WordSet → (word : ℕ) → List ℕ
left_from stride from next = all_reached stride (left from next)

-- before the first word
pub strode_start : (stride : Stride) (from new : WordSet) → new ≡ no_words → strode (Some stride) from ≡ gathered (left_from stride from 0) new
strode_start stride from new is = ap (λ set. gathered (left_from stride from 0) set) (sym is)

-- at a word of the set
pub strode_in : (stride : Stride) (from set : WordSet) (next word : ℕ) (total one : Option WordSet) → next ≤ word → word < 64 → Some word ≡ find (has_word from) (range_with_len next (64 - next)) → one ≡ gathered (reached stride word) set → total ≡ gathered (left_from stride from next) set → total ≡ gathered_too (left_from stride from (word + 1)) one
strode_in stride from set next word total one le lt is reaches so_far =
    so_far ∙ ap (λ ns. gathered (all_reached stride ns) set) (left_some from next word le lt is) ∙ gathered_join (reached stride word) (left_from stride from (word + 1)) set ∙ ap (λ o. gathered_too (left_from stride from (word + 1)) o) (sym reaches)

-- after the last
pub strode_end : (stride : Stride) (from set : WordSet) (next : ℕ) (total : Option WordSet) → None ≡ find (has_word from) (range_with_len next (64 - next)) → total ≡ gathered (left_from stride from next) set → total ≡ Some set
strode_end stride from set next total is so_far = so_far ∙ ap (λ ns. gathered (all_reached stride ns) set) (left_none from next is)
