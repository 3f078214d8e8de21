-- What a safepoint logs.
use Rattle.std.specs.Prelude.{ℕ, ◌≡◌, ◌≢◌, Option, Some, None, List, ◌∷◌}
use Rattle.colours.specs.Steps.{Step, ReadPosted, StoreStage}
use Rattle.heap_table.specs.Safepoints.{before_answer}

-- the posted stage was read, and answered if it is another than the own one
abbrev pub Answers : (stage : ℕ) → (roots : List ℕ) → (before : List Step) → (answered : Option ℕ) → (after : List Step) → Type 0
Answers stage roots before None after = after ≡ ReadPosted stage ∷ before
Answers stage roots before (Some posted) after = (posted ≢ stage) × (after ≡ StoreStage posted roots ∷ before_answer posted roots (ReadPosted posted ∷ before))
