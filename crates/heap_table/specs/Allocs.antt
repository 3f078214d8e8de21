-- What an allocation logs and returns. Any order of the pool's cells is one.
use Rattle.std.specs.Prelude.{ℕ, zero, suc, ◌+◌, ◌<◌, ◌≤◌, ◌≡◌, true, false, List, [], ◌∷◌, ◌++◌, length, slice_index}
use Rattle.lemmas.specs.Lists.{IsIn}
use Rattle.pools.specs.Heap.{Setup, IsOfLayout}
use Rattle.pools.specs.Pools.{first_cell}
use Rattle.colours.specs.Steps.{Step, Claim}

-- the tries of these cells, each of them lost
abbrev pub lost : (cells : List ℕ) → List Step
lost [] = []
lost (cell ∷ cells) = Claim cell false ∷ lost cells

-- each of these is another cell of the layout's pool
abbrev pub AreOfPool : Setup → (layout : ℕ) → (cells : List ℕ) → Type 0
AreOfPool s layout [] = Unit {0}
AreOfPool s layout (cell ∷ cells) = IsOfLayout s layout cell × ¬ IsIn cell cells × AreOfPool s layout cells

-- the result is null once each cell of the pool was tried in vain; otherwise it is the cell that the last try won
abbrev pub Allocates : Setup → (layout : ℕ) → (before : List Step) → (result : ℕ) → (after : List Step) → Type 0
Allocates s layout before zero after =
    (cells : List ℕ) × AreOfPool s layout cells × (length cells ≡ slice_index s.pools layout) × (after ≡ lost cells ++ before)
Allocates s layout before (suc cell) after =
    (cells : List ℕ) × AreOfPool s layout (suc cell ∷ cells) × (after ≡ Claim (suc cell) true ∷ (lost cells ++ before))

-- the cells of the layout's pool are those from `first` up to `end`, and `hinted` is one of them or the end
pub record IsPoolFrom (s : Setup) (layout first hinted end : ℕ) : Type 0 where
  pub is_layout : layout < length s.pools
  pub first_is : first ≡ first_cell s.pools layout
  pub end_is : end ≡ first + slice_index s.pools layout
  pub low : first ≤ hinted
  pub high : hinted ≤ end
