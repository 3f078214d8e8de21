-- What is told of a thread's roots after its move.
use Rattle.std.specs.Prelude.{◌≡◌, ◌≢◌, ◌⊎◌, List}
use Rattle.lemmas.specs.Lists.{IsIn}
use Rattle.runs.specs.Machine.{WordValue}
use Rattle.moves.specs.declared.roots_after.RootsAfter.{RootsAfter}
use Rattle.moves.specs.declared.roots_after.RootsAfter.TheVariants.{Same, Others}

-- what is told of these roots, after those before, is so
abbrev pub IsToldOfRoots : RootsAfter → (before after : List WordValue) → Type 0
IsToldOfRoots Same before after = after ≡ before
IsToldOfRoots Others before after = after ≢ before

-- each root after a move was one before it, or is one of the newest frames
abbrev pub AddsNewest : (before after newest : List WordValue) → Type 0
AddsNewest before after newest = (r : WordValue) → IsIn r after → IsIn r before ⊎ IsIn r newest
