-- The next cell of two stretches of cells.
use Rattle.std.proofs.Common.{◌≡◌, ◌≢◌, ℕ, suc, ◌+◌, ◌-◌, ◌++◌, ap, arith}
use Rattle.colours.specs.Calls.{Trying, tries_of, cells_up}

-- it is of the first stretch, while that has one
pub next-more : (next more first below : ℕ) → more ≢ 0 → Trying next (cells_up (next + 1) (more - 1) ++ cells_up first below) ≡ tries_of (cells_up next more ++ cells_up first below)
next-more next more first below some =
    let more_is : suc (more - 1) ≡ more = omega (arith, some) in
    let up : next + 1 ≡ suc next = omega arith in
    rw up (ap (λ n. tries_of (cells_up next n ++ cells_up first below)) more_is)
