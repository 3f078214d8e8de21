-- Lists of numbers below a bound.
use Rattle.std.proofs.Common.{◌≡◌, ◌<◌, ℕ, Bool, true, false, Some, List, [], ◌∷◌, if◌then◌else◌, arith}
use Rattle.trace_sweep.specs.Newest.{first_of}

-- each number of the list is below the count
abbrev pub AreBelow : (count : ℕ) → List ℕ → Type 0
AreBelow count [] = Unit {0}
AreBelow count (cell ∷ listed) = (cell < count) × AreBelow count listed

-- its first is
pub first-below : (count : ℕ) (listed : List ℕ) (cell : ℕ) → AreBelow count listed → first_of listed ≡ Some cell → cell < count
first-below count [] cell are e = absurd cc
first-below count (d ∷ listed) cell are e = let same : d ≡ cell = cc in let lt = are.0 in omega (arith, same, lt)

-- with one more below it all are
pub add-below : (count : ℕ) (listed : List ℕ) (cell : ℕ) (b : Bool) → cell < count → AreBelow count listed → AreBelow count (if b then cell ∷ listed else listed)
add-below count listed cell true lt are = (lt, are)
add-below count listed cell false lt are = are
