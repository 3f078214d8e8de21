-- Sets of words of a cell, by their bits.
use Rattle.std.proofs.Common.{◌≡◌, ◌≢◌, ◌⊎◌, inl, inr, ℕ, zero, suc, ◌+◌, ◌-◌, ◌*◌, ◌/◌, ◌%◌, ◌^◌, ◌<◌, ◌≤◌, ◌==◌, ◌&&◌, ◌||◌, not, min, Bool, true, false, List, [], ◌∷◌, length, Option, Some, None, refl, sym, ap, subst, ◌∙◌, arith}
use Rattle.std.specs.Option.{SomeIff}
use Rattle.std.specs.Prelude.{slice_set, bit_and, bit_or}
use Rattle.std.specs.Int.{bit_at, bit_not, trailing_zeros, w64}
use Rattle.std.specs.List.{find, list_all, range_with_len}
use Rattle.std.proofs.lemmas.Bool.{cases_lt, cases_eq, lt-ltb, false≢true}
use Rattle.std.proofs.lemmas.List.{ext_get_or, get_or-set_same, get_or-set_other, length-set}
use Rattle.std.proofs.lemmas.Nat.{and_le_l, or_lt, shr-shr, shr_le}
use Rattle.std.proofs.lemmas.Nat.Bits.{bit_at_lowest, bit_at-suc, bit_at-zero, bit_at-lt, shr_and_one, bit_at_and, bit_at_not, bit_at_set_same, bit_at_set_other, bit_at_above, bit_at-trailing_zeros, same_from_bits_below}
use Rattle.lemmas.specs.Numbers.{test_no}
use Rattle.pools.specs.WordBits.{lowest_bits, set_of_bits, bits_of_set, bits_again}
use Rattle.pools.specs.WordSets.{no_words, has_word, has_too, has_all, adds_word}

-- ---- the places of a set

length_lowest : (count bits : ℕ) → length (lowest_bits count bits) ≡ count
length_lowest zero bits = refl
length_lowest (suc count) bits = ap suc (length_lowest count (bits / 2))

has_lowest : (count bits word : ℕ) → word < count → has_word (lowest_bits count bits) word ≡ (bit_at bits word == 1)
has_lowest zero bits word lt = absurd (omega (arith, lt))
has_lowest (suc count) bits zero lt = ap (λ d. d == 1) (sym (bit_at_lowest bits))
has_lowest (suc count) bits (suc word) lt = has_lowest count (bits / 2) word (omega (arith, lt)) ∙ ap (λ d. d == 1) (sym (bit_at-suc bits word))

past_lowest : (count bits word : ℕ) → count ≤ word → has_word (lowest_bits count bits) word ≡ false
past_lowest zero bits word le = refl
past_lowest (suc count) bits zero le = absurd (omega (arith, le))
past_lowest (suc count) bits (suc word) le = past_lowest count (bits / 2) word (omega (arith, le))

pub length_is : (bits : ℕ) (set : List Bool) → set_of_bits bits ≡ set → length set ≡ 64
unfolding set_of_bits
length_is bits set is = ap (λ (s : List Bool). length s) (sym is) ∙ length_lowest 64 bits

pub has_bit : (bits : ℕ) (set : List Bool) (word : ℕ) → set_of_bits bits ≡ set → word < 64 → has_word set word ≡ (bit_at bits word == 1)
unfolding set_of_bits
has_bit bits set word is lt = ap (λ (s : List Bool). has_word s word) (sym is) ∙ has_lowest 64 bits word lt

pub has_past : (bits : ℕ) (set : List Bool) (word : ℕ) → set_of_bits bits ≡ set → 64 ≤ word → has_word set word ≡ false
unfolding set_of_bits
has_past bits set word is le = ap (λ (s : List Bool). has_word s word) (sym is) ∙ past_lowest 64 bits word le

-- without a bit there is no word
pub none_set : set_of_bits 0 ≡ no_words
unfolding set_of_bits
none_set = refl

-- ---- bits that are shifted

pub shifted : (bits word : ℕ) (to : Option ℕ) (rest : ℕ) → to ≡ Some rest → SomeIff to (word < 64) (bits / 2 ^ word) → (word < 64) × (rest ≡ bits / 2 ^ word)
shifted bits word to rest is by = subst (λ (o : Option ℕ). SomeIff o (word < 64) (bits / 2 ^ word)) is by

past_by : (word : ℕ) → (word < 64 → ⊥) → 64 ≤ word
past_by word not_below = elim (cases_lt word 64) [ inl lt ↦ absurd (not_below lt) | inr le ↦ le ]

pub shifted_out : (bits word : ℕ) (to : Option ℕ) → to ≡ None → SomeIff to (word < 64) (bits / 2 ^ word) → 64 ≤ word
shifted_out bits word to is by = past_by word (subst (λ (o : Option ℕ). SomeIff o (word < 64) (bits / 2 ^ word)) is by)

-- a word of a set is one whose bit is set
pub has_shifted : (bits : ℕ) (set : List Bool) (word rest : ℕ) → set_of_bits bits ≡ set → (word < 64) × (rest ≡ bits / 2 ^ word) → (bit_and rest 1 == 1) ≡ has_word set word
has_shifted bits set word rest is by = ap (λ n. bit_and n 1 == 1) by.1 ∙ (ap (λ d. d == 1) (shr_and_one bits word) ∙ sym (has_bit bits set word is by.0))

set_added : (bits : ℕ) (set : List Bool) (word : ℕ) → set_of_bits bits ≡ set → word < 64 → set_of_bits (bit_or bits (1 * 2 ^ word % 2 ^ 64)) ≡ slice_set set word true
set_added bits set word is lt =
    let more = bit_or bits (1 * 2 ^ word % 2 ^ 64) in
    let len = length_is bits set is in
    ext_get_or false (set_of_bits more) (slice_set set word true) (length_is more _ refl ∙ (sym len ∙ sym (length-set set word true)))
    (λ i within. at i (omega (arith, within, length_is more _ refl)) (cases_eq i word))
  where
    at : (i : ℕ) → i < 64 → (i ≡ word) ⊎ (i ≢ word) → has_word (set_of_bits (bit_or bits (1 * 2 ^ word % 2 ^ 64))) i ≡ has_word (slice_set set word true) i
    at i low (inl same) =
        has_bit _ _ i refl low
        ∙ (ap (λ (k : ℕ). bit_at (bit_or bits (1 * 2 ^ word % 2 ^ 64)) k == 1) same
        ∙ (ap (λ d. d == 1) (bit_at_set_same w64 bits word lt)
        ∙ (sym (get_or-set_same set word true false (omega (arith, lt, length_is bits set is))) ∙ ap (λ (k : ℕ). has_word (slice_set set word true) k) (sym same))))
    at i low (inr other) =
        has_bit _ _ i refl low
        ∙ (ap (λ d. d == 1) (bit_at_set_other w64 bits word lt i other)
        ∙ (sym (has_bit bits set i is low) ∙ sym (get_or-set_other set word i true false other)))

-- a bit that is set adds its word
pub added : (bits : ℕ) (set : List Bool) (word : ℕ) → set_of_bits bits ≡ set → word < 64 → set_of_bits (bit_or bits (1 * 2 ^ word % 2 ^ 64)) ≡ adds_word set word
added bits set word is lt = rw (lt-ltb word 64 lt) (set_added bits set word is lt)

pub added_below : (bits word : ℕ) → bits < 2 ^ 64 → word < 64 → bit_or bits (1 * 2 ^ word % 2 ^ 64) < 2 ^ 64
added_below bits word lt low = or_lt 64 bits (1 * 2 ^ word % 2 ^ 64) lt (omega arith)

-- ---- sets within others

all_in : (test : ℕ → Bool) (first count : ℕ) → ((i : ℕ) → first ≤ i → i < first + count → test i ≡ true) → list_all test (range_with_len first count) ≡ true
all_in test first zero each = refl
all_in test first (suc count) each =
    rw (each first (omega arith) (omega arith)) (all_in test (first + 1) count (λ i le lt. each i (omega (arith, le)) (omega (arith, lt))))

in_all : (test : ℕ → Bool) (first count : ℕ) → list_all test (range_with_len first count) ≡ true → (i : ℕ) → first ≤ i → i < first + count → test i ≡ true
in_all test first zero all i le lt = absurd (omega (arith, le, lt))
in_all test first (suc count) all i le lt = by (test first) refl all (cases_eq i first) (λ rest less. in_all test (first + 1) count rest i less (omega (arith, lt)))
  where
    by : (b : Bool) → test first ≡ b → (b && list_all test (range_with_len (first + 1) count)) ≡ true → (i ≡ first) ⊎ (i ≢ first) → (list_all test (range_with_len (first + 1) count) ≡ true → first + 1 ≤ i → test i ≡ true) → test i ≡ true
    by false is all place more = absurd (false≢true all)
    by true is all (inl same) more = ap test same ∙ is
    by true is all (inr other) more = more all (omega (arith, le, other))

-- neither bit of two, or the second
too_by : (own other : ℕ) → own < 2 → other < 2 → min own (1 - other) ≡ 0 → ((other == 1) || not (own == 1)) ≡ true
too_by zero zero l m none = refl
too_by zero (suc zero) l m none = refl
too_by (suc zero) (suc zero) l m none = refl
too_by (suc zero) zero l m none = absurd (omega (arith, none))
too_by (suc (suc own)) other l m none = absurd (omega (arith, l))
too_by own (suc (suc other)) l m none = absurd (omega (arith, m))

none_by : (own other : ℕ) → own < 2 → other < 2 → ((other == 1) || not (own == 1)) ≡ true → min own (1 - other) ≡ 0
none_by zero other l m too = omega arith
none_by (suc zero) (suc zero) l m too = refl
none_by (suc zero) zero l m too = absurd (false≢true too)
none_by (suc (suc own)) other l m too = absurd (omega (arith, l))
none_by own (suc (suc other)) l m too = absurd (omega (arith, m))

-- no bit of a set is missing in another exactly where the other has each of its words
pub within : (bits others : ℕ) (set other : List Bool) → bits < 2 ^ 64 → others < 2 ^ 64 → set_of_bits bits ≡ set → set_of_bits others ≡ other → (bit_and bits (bit_not w64 others) == 0) ≡ has_all other set
within bits others set other lt less is are = by (cases_eq missing 0) (has_all other set) refl
  where
    missing : ℕ
    missing = bit_and bits (bit_not w64 others)

    bit : (i : ℕ) → i < 64 → bit_at missing i ≡ min (bit_at bits i) (1 - bit_at others i)
    bit i low = bit_at_and bits (bit_not w64 others) i ∙ ap (λ d. min (bit_at bits i) d) (bit_at_not w64 others i less low)

    too : (i : ℕ) → i < 64 → has_too other set i ≡ ((bit_at others i == 1) || not (bit_at bits i == 1))
    too i low = rw (has_bit others other i are low) (rw (has_bit bits set i is low) refl)

    all : missing ≡ 0 → has_all other set ≡ true
    all none = all_in (has_too other set) 0 64 (λ i le low.
        let l : i < 64 = omega (arith, low) in
        too i l ∙ too_by (bit_at bits i) (bit_at others i) (bit_at-lt bits i) (bit_at-lt others i) (sym (bit i l) ∙ (ap (λ n. bit_at n i) none ∙ bit_at-zero i)))

    none : has_all other set ≡ true → missing ≡ 0
    none has = same_from_bits_below 64 missing 0 (omega (arith, and_le_l bits (bit_not w64 others), lt)) (omega arith)
        (λ i low. bit i low ∙ (none_by (bit_at bits i) (bit_at others i) (bit_at-lt bits i) (bit_at-lt others i) (sym (too i low) ∙ in_all (has_too other set) 0 64 has i (omega arith) (omega (arith, low))) ∙ sym (bit_at-zero i)))

    by : (missing ≡ 0) ⊎ (missing ≢ 0) → (b : Bool) → has_all other set ≡ b → (missing == 0) ≡ has_all other set
    by (inl nothing) b has = ap (λ n. n == 0) nothing ∙ sym (all nothing)
    by (inr some) true has = absurd (some (none has))
    by (inr some) false has = test_no missing 0 some ∙ sym has

-- ---- the next word of a set

found : (test : ℕ → Bool) (first count at : ℕ) → first ≤ at → at < first + count → test at ≡ true → ((i : ℕ) → first ≤ i → i < at → test i ≡ false) → find test (range_with_len first count) ≡ Some at
found test first zero at le lt is others = absurd (omega (arith, le, lt))
found test first (suc count) at le lt is others = by (cases_eq at first) (λ more. found test (first + 1) count at more (omega (arith, lt)) is (λ i less later. others i (omega (arith, less)) later))
  where
    by : (at ≡ first) ⊎ (at ≢ first) → (first + 1 ≤ at → find test (range_with_len (first + 1) count) ≡ Some at) → find test (range_with_len first (suc count)) ≡ Some at
    by (inl same) more = let here : test first ≡ true = subst (λ (k : ℕ). test k ≡ true) same is in rw here (ap (λ (k : ℕ). Some k) (sym same))
    by (inr other) more = rw (others first (omega arith) (omega (arith, le, other))) (more (omega (arith, le, other)))

nowhere : (test : ℕ → Bool) (first count : ℕ) → ((i : ℕ) → first ≤ i → i < first + count → test i ≡ false) → find test (range_with_len first count) ≡ None
nowhere test first zero others = refl
nowhere test first (suc count) others = rw (others first (omega arith) (omega arith)) (nowhere test (first + 1) count (λ i le lt. others i (omega (arith, le)) (omega (arith, lt))))

-- the bit of a word, among those from another on
bit_from : (bits first i : ℕ) → first ≤ i → bit_at bits i ≡ bit_at (bits / 2 ^ first) (i - first)
bit_from bits first i le =
    let e : i ≡ first + (i - first) = omega (arith, le) in
    ap (bit_at bits) e ∙ ap (λ x. x % 2) (sym (shr-shr bits first (i - first)))

-- no bit from a word on
pub none_from : (bits : ℕ) (set : List Bool) (first rest : ℕ) → set_of_bits bits ≡ set → (first < 64) × (rest ≡ bits / 2 ^ first) → rest ≡ 0 → None ≡ find (has_word set) (range_with_len first (64 - first))
none_from bits set first rest is by none =
    sym (nowhere (has_word set) first (64 - first) (λ i le low.
    has_bit bits set i is (omega (arith, low, by.0)) ∙ ap (λ d. d == 1) (bit_from bits first i le ∙ (ap (λ n. bit_at n (i - first)) (sym by.1 ∙ none) ∙ bit_at-zero (i - first)))))

-- the lowest bit from a word on is that of a word of a cell
pub next_low : (bits first : ℕ) → bits < 2 ^ 64 → first < 64 → 0 < bits / 2 ^ first → first + trailing_zeros w64 (bits / 2 ^ first) < 64
next_low bits first small lt some = by (cases_lt at 64)
  where
    at : ℕ
    at = first + trailing_zeros w64 (bits / 2 ^ first)

    by : (at < 64) ⊎ (64 ≤ at) → at < 64
    by (inl low) = low
    by (inr past) =
        let lowest = bit_at-trailing_zeros w64 (bits / 2 ^ first) some (omega (arith, small, shr_le bits first)) in
        let off : at - first ≡ trailing_zeros w64 (bits / 2 ^ first) = omega arith in
        let one : bit_at bits at ≡ 1 = bit_from bits first at (omega arith) ∙ (ap (λ k. bit_at (bits / 2 ^ first) k) off ∙ lowest.1) in
        absurd (omega (arith, one, bit_at_above bits 64 at small past))

-- it is the next word of the set
pub next_is : (bits : ℕ) (set : List Bool) (first : ℕ) → bits < 2 ^ 64 → set_of_bits bits ≡ set → first < 64 → 0 < bits / 2 ^ first → Some (first + trailing_zeros w64 (bits / 2 ^ first)) ≡ find (has_word set) (range_with_len first (64 - first))
next_is bits set first small is lt some =
    let rest = bits / 2 ^ first in
    let at = first + trailing_zeros w64 rest in
    let low : at < 64 = next_low bits first small lt some in
    let lowest = bit_at-trailing_zeros w64 rest some (omega (arith, small, shr_le bits first)) in
    let off : at - first ≡ trailing_zeros w64 rest = omega arith in
    sym (found (has_word set) first (64 - first) at (omega arith) (omega (arith, low, lt))
    (has_bit bits set at is low ∙ ap (λ d. d == 1) (bit_from bits first at (omega arith) ∙ (ap (λ k. bit_at rest k) off ∙ lowest.1)))
    (λ i more less. has_bit bits set i is (omega (arith, less, low)) ∙ ap (λ d. d == 1) (bit_from bits first i more ∙ lowest.2 (i - first) (omega (arith, less, off, more)))))

-- the same of what is left of the bits
pub next_rest : (bits : ℕ) (set : List Bool) (first rest : ℕ) → bits < 2 ^ 64 → set_of_bits bits ≡ set → (first < 64) × (rest ≡ bits / 2 ^ first) → 0 < rest → Some (first + trailing_zeros w64 rest) ≡ find (has_word set) (range_with_len first (64 - first))
next_rest bits set first rest small is by some =
    ap (λ n. Some (first + trailing_zeros w64 n)) by.1 ∙ next_is bits set first small is by.0 (omega (arith, by.1, some))

pub next_bounds : (bits first rest : ℕ) → bits < 2 ^ 64 → (first < 64) × (rest ≡ bits / 2 ^ first) → 0 < rest → (first ≤ first + trailing_zeros w64 rest) × (first + trailing_zeros w64 rest < 64)
next_bounds bits first rest small by some =
    (omega arith, subst (λ (n : ℕ). first + trailing_zeros w64 n < 64) (sym by.1) (next_low bits first small by.0 (omega (arith, by.1, some))))

-- ---- the bits of a set

pub same_bits : (bits : ℕ) (set : List Bool) → bits < 2 ^ 64 → set_of_bits bits ≡ set → bits_of_set set ≡ bits
same_bits bits set lt is = ap bits_of_set (sym is) ∙ bits_again bits lt
