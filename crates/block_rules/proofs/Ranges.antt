-- Numbers that come after another, and what a test chooses.
use Rattle.std.proofs.Common.{◌≡◌, ℕ, suc, ◌+◌, Bool, true, false, ◌∷◌, refl, ap, sym}
use Rattle.std.proofs.lemmas.Bool.{false≢true}
use Rattle.std.specs.Prelude.{if◌then◌else◌}
use Rattle.std.specs.List.{range_with_len}

-- what is chosen where the test holds
pub chosen : {X : Type 0} (b : Bool) (x y : X) → b ≡ true → (if b then x else y) ≡ x
chosen true x y e = refl
chosen false x y e = absurd (false≢true e)

-- and where it does not
pub passed : {X : Type 0} (b : Bool) (x y : X) → b ≡ false → (if b then x else y) ≡ y
passed true x y e = absurd (false≢true (sym e))
passed false x y e = refl

-- the first of the numbers that are left, and the others
pub range_next : (a n m : ℕ) → n ≡ suc m → range_with_len a n ≡ a ∷ range_with_len (a + 1) m
range_next a n m e = ap (λ k. range_with_len a k) e
