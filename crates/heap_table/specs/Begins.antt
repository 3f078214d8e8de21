-- What a try of a late thread logs and returns.
use Rattle.std.specs.Prelude.{ℕ, ◌≡◌, ◌≢◌, Bool, MatchBool, List, [], ◌∷◌}
use Rattle.colours.specs.Colours.{done}
use Rattle.colours.specs.Steps.{Step, ReadPostedFirst, EnterStage, ReadPostedAgain, StoreStage}

-- the posted stage was read and entered. The thread has begun if the second reading found it again; if it found another it has left
abbrev pub Begins : (before : List Step) → (begun : Bool) → (after : List Step) → Type 0
Begins before begun after = (posted : ℕ) × MatchBool begun
    (after ≡ ReadPostedAgain posted ∷ EnterStage posted ∷ ReadPostedFirst posted ∷ before)
    ((found : ℕ) × (found ≢ posted) × (after ≡ StoreStage done [] ∷ ReadPostedAgain found ∷ EnterStage posted ∷ ReadPostedFirst posted ∷ before))
