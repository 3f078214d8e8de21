-- Numbers: what the tests for equality and order say.
use Rattle.std.proofs.Common.{◌≡◌, ◌≢◌, ℕ, suc, ◌<◌, ◌≤◌, ◌==◌, max, Bool, true, false, not, if◌then◌else◌, Some, arith}
use Rattle.std.specs.Prelude.{nat_lt}
use Rattle.std.proofs.lemmas.Bool.Decides.{nat_tests}

pub test_true : (x y : ℕ) → (x == y) ≡ true → x ≡ y
test_true x y h = grind (arith, nat_tests)

pub test_false : (x y : ℕ) → (x == y) ≡ false → x ≢ y
test_false x y h = grind (arith, nat_tests)

pub test_yes : (x y : ℕ) → x ≡ y → (x == y) ≡ true
test_yes x y h = grind (arith, nat_tests)

pub test_no : (x y : ℕ) → x ≢ y → (x == y) ≡ false
test_no x y h = grind (arith, nat_tests)

pub test_same : (n : ℕ) → n == n ≡ true
test_same n = grind (arith, nat_tests)

pub not_null : (c : ℕ) → not (c == 0) ≡ true → c ≢ 0
not_null c h = grind (arith, nat_tests)

pub suc_not_null : (n : ℕ) → suc n == 0 ≡ false
suc_not_null n = grind (arith, nat_tests)

pub lt_true : (a b : ℕ) → nat_lt a b ≡ true → a < b
lt_true a b e = grind (arith, nat_tests)

pub lt_false : (a b : ℕ) → nat_lt a b ≡ false → b ≤ a
lt_false a b e = grind (arith, nat_tests)

pub lt_yes : (a b : ℕ) → a < b → nat_lt a b ≡ true
lt_yes a b e = grind (arith, nat_tests)

pub lt_no : (a b : ℕ) → b ≤ a → nat_lt a b ≡ false
lt_no a b e = grind (arith, nat_tests)

pub some_same : (a b : ℕ) → Some a ≡ Some b → a ≡ b
some_same a b e = cc

-- a raised word, and one exchanged where it is 0, stay other than 0
pub raised : (b : Bool) (m v : ℕ) → m ≢ 0 → (if b then max m v else m) ≢ 0
raised true m v h = omega arith
raised false m v h = h

pub exchanged : (b : Bool) (m v : ℕ) → m ≢ 0 → (if b then (if m == 0 then v else m) else m) ≢ 0
exchanged true m v h = rw (test_no m 0 h) h
exchanged false m v h = h
