-- Decimal numbers only grow with further digits.
use Rattle.std.proofs.Common.{◌≡◌, ℕ, suc, ◌+◌, ◌-◌, ◌*◌, ◌<◌, ◌≤◌, List, [], ◌∷◌, Some, None, arith, ap, ◌∙◌, drop, drop-cons, get_or, length}
use Rattle.std.proofs.lemmas.Bool.Decides.{nat_tests}
use Rattle.std.proofs.lemmas.List.{drop_all}
use Rattle.name_text.specs.Numbers.{decimal_after, small}

pub decimal_grows : (n : ℕ) (digits : List ℕ) → n ≤ decimal_after n digits
decimal_grows n [] = omega arith
decimal_grows n (d ∷ digits) = let more = decimal_grows (10 * n + (d - 48)) digits in omega arith

pub small_is : (n m : ℕ) → n ≡ m → m < 18446744073709551616 → Some m ≡ small n
small_is n m e less = grind (arith, nat_tests)

pub small_none : (n : ℕ) → 18446744073709551616 ≤ n → None ≡ small n
small_none n le = grind (arith, nat_tests)

-- a number past the limit stays past it, whatever digits follow
pub too_large : (n m : ℕ) (d : ℕ) (digits : List ℕ) → n ≡ decimal_after m (d ∷ digits) → 18446744073709551616 ≤ 10 * m + (d - 48) → None ≡ small n
too_large n m d digits e le = let more = decimal_grows (10 * m + (d - 48)) digits in small_none n (omega arith)

-- the digits are used up
pub finished : (n m i : ℕ) (digits : List ℕ) → n ≡ decimal_after m (drop i digits) → length digits ≤ i → m < 18446744073709551616 → Some m ≡ small n
finished n m i digits e le less =
    let none : drop i digits ≡ [] = drop_all i digits le in
    small_is n m (e ∙ ap (decimal_after m) none) less

-- the next digit makes it too large
pub next_too_large : (n m i : ℕ) (digits : List ℕ) → n ≡ decimal_after m (drop i digits) → i < length digits → 18446744073709551616 ≤ 10 * m + (get_or digits i 0 - 48) → None ≡ small n
next_too_large n m i digits e less le =
    too_large n m (get_or digits i 0) (drop (suc i) digits) (e ∙ ap (decimal_after m) (drop-cons digits i 0 less)) le
