-- What a barriered store logs.
use Rattle.std.specs.Prelude.{ℕ, ◌≡◌, List, ◌∷◌, ◌++◌}
use Rattle.colours.specs.Steps.{Step, ReadOldValue, StoreAfterBarrier}
use Rattle.colours.specs.Calls.{marks, marks_of_new}

-- this old value was read and marked, so was the new one at a sync stage, and then the new one was stored. Null is not marked
abbrev pub Replaces : (stage cell word old new : ℕ) → (before after : List Step) → Type 0
Replaces stage cell word old new before after =
    after ≡ StoreAfterBarrier cell word new ∷ (marks_of_new stage new ++ (marks old ++ (ReadOldValue cell word old ∷ before)))

-- the same, whatever the old value
abbrev pub Writes : (stage cell word new : ℕ) → (before after : List Step) → Type 0
Writes stage cell word new before after = (old : ℕ) × Replaces stage cell word old new before after
