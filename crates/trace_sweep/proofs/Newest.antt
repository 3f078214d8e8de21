-- The cells in an array, the newest first.
use Rattle.std.proofs.Common.{◌≡◌, ◌≤◌, ◌<◌, ◌+◌, ℕ, zero, suc, true, nat_lt, List, ◌∷◌, length, slice_index, slice_set, if◌then◌else◌, refl, ap, arith, add-one}
use Rattle.std.proofs.lemmas.Bool.Decides.{nat_tests}
use Rattle.std.proofs.lemmas.List.{get_or-set_same, get_or-set_other}
use Rattle.trace_sweep.specs.Turns.{list_limit}
use Rattle.trace_sweep.specs.Newest.{newest}

-- there are `count` of them
pub newest-length : (cells : List ℕ) (count : ℕ) → length (newest cells count) ≡ count
newest-length cells zero = refl
newest-length cells (suc count) = ap suc (newest-length cells count)

-- a cell stored at a later place changes none
newest-set : (cells : List ℕ) (at v count : ℕ) → count ≤ at → newest (slice_set cells at v) count ≡ newest cells count
newest-set cells at v zero le = refl
newest-set cells at v (suc count) le =
    let other : slice_index (slice_set cells at v) count ≡ slice_index cells count = get_or-set_other cells at count v 0 (λ e. omega (arith, le, e)) in
    rw (other, newest-set cells at v count (omega (arith, le))) refl

-- one cell more, where there is room
pub newest-add : (cells : List ℕ) (count v : ℕ) → count < 64 → length cells ≡ 64
    → newest (slice_set cells count v) (count + 1) ≡ (if nat_lt (length (newest cells count)) list_limit then v ∷ newest cells count else newest cells count)
newest-add cells count v lt full =
    let room : nat_lt count 64 ≡ true = grind (arith, nat_tests) in
    let long : length (newest cells count) ≡ count = newest-length cells count in
    let here : slice_index (slice_set cells count v) count ≡ v = get_or-set_same cells count v 0 (omega (arith, lt, full)) in
    let same = newest-set cells count v count (omega arith) in
    rw (add-one, long, room, here, same) refl
