-- What was written where a write is the last step of a function.
use Rattle.std.proofs.Common.{ℕ, ◌≡◌, List, Result, Ok, Err, is_ok, if◌then◌else◌, OnOk}

-- the text after a write that succeeds
pub on_ok_items : {A E : Type 0} (r : Result A E) (x y z : List ℕ) → y ≡ (if is_ok r then x else z) → OnOk r (y ≡ x)
on_ok_items (Ok v) x y z written = written
on_ok_items (Err e) x y z written = tt
