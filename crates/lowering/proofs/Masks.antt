-- The mask of at most n words is below 2^n, so what is added to the mask of fewer than 64 words fits a word.
use Rattle.std.proofs.Common.{◌≡◌, ◌∙◌, ℕ, zero, suc, ◌<◌, ◌≤◌, ◌+◌, ◌-◌, ◌*◌, ◌%◌, ◌^◌, List, [], ◌∷◌, length, get_or, take, drop, refl, ap, arith}
use Rattle.std.proofs.Math.Nat.{pow-suc, mod-eq_of_lt}
use Rattle.std.proofs.lemmas.List.{take_all}
use Rattle.pools.specs.declared.word_kind.WordKind.{WordKind}
use Rattle.pools.specs.declared.word_kind.WordKind.TheVariants as word
use Rattle.lowering.specs.Tables.{bit_of, mask_of}

small_bit : (w : WordKind) → bit_of w ≤ 1
small_bit (word.Integer bits) = omega arith
small_bit (word.Reference layout) = omega arith

mask_below : (n : ℕ) (words : List WordKind) → length words ≤ n → mask_of words < 2 ^ n
mask_below zero [] few = omega arith
mask_below zero (w ∷ words) few = absurd (omega (arith, few))
mask_below (suc n) [] few = let none = mask_below n [] (omega arith) in omega (arith, none, pow-suc 2 n)
mask_below (suc n) (w ∷ words) few =
    let bit = small_bit w in
    let rest = mask_below n words (omega (arith, few)) in
    omega (arith, bit, rest, pow-suc 2 n)

small_mask : (words : List WordKind) → length words < 64 → mask_of words < 2 ^ 63
small_mask words few = mask_below 63 words (omega (arith, few))

-- twice a mask and a bit wrap nowhere below twice its bound
no_wrap : (m b h n : ℕ) → m < h → b ≤ 1 → n ≡ h + h → ((m + m) % n + b) % n ≡ b + 2 * m
no_wrap m b h n small low double =
    let first : (m + m) % n ≡ m + m = mod-eq_of_lt (omega arith) in
    let second : ((m + m) + b) % n ≡ (m + m) + b = mod-eq_of_lt (omega arith) in
    let sum : (m + m) + b ≡ b + 2 * m = omega arith in
    rw first (second ∙ sum)

-- a mask is made of that of all words but the first and of the bit of the first
pub mask_step : (words : List WordKind) (first : WordKind) (m b : ℕ) → 1 ≤ length words → length words ≤ 64 → first ≡ get_or words 0 first
    → m ≡ mask_of (take (length words - 1) (drop 1 words)) → b ≡ bit_of first → ((m + m) % 18446744073709551616 + b) % 18446744073709551616 ≡ mask_of words
mask_step [] first m b some few is mask bit = absurd (omega (arith, some))
mask_step (w ∷ ws) first m b some few is mask bit =
    let one : length (w ∷ ws) - 1 ≡ length ws = omega arith in
    let masked : m ≡ mask_of ws = mask ∙ ap mask_of (ap (λ (n : ℕ). take n ws) one ∙ take_all (length ws) ws (omega arith)) in
    let flag : b ≡ bit_of w = bit ∙ ap bit_of is in
    let small = small_mask ws (omega (arith, few)) in
    let low = small_bit w in
    rw (masked, flag) (no_wrap (mask_of ws) (bit_of w) (2 ^ 63) 18446744073709551616 small low refl)
