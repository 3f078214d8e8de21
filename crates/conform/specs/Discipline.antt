-- What is told of the parts of the discipline.
use Rattle.std.specs.Prelude.{ℕ, ◌≡◌, ◌≢◌, Bool, true, false, Option, Some, None, List, IsTrue, IfNone}
use Rattle.lemmas.specs.Lists.{IsIn}
use Rattle.pools.specs.Heap.{Setup, kind_of}
use Rattle.pools.specs.Layouts.{is_reference_kind}
use Rattle.colours.specs.Steps.{Step}
use Rattle.colours.specs.Mutator.{Fresh, MayUse, MayStore}
use Rattle.conform.specs.declared.rule.Rule.{Rule}
use Rattle.conform.specs.declared.rule.Rule.TheVariants as rule

-- the word is there; and for a barriered store it holds references
abbrev pub HasWord : Setup → (cell word : ℕ) → (is_barriered : Bool) → Type 0
HasWord s cell word true = IsTrue (is_reference_kind (kind_of s cell word))
HasWord s cell word false = kind_of s cell word ≢ None

-- the rule of a read's cell and word
abbrev pub IsWordRule : Setup → List Step → (cell word : ℕ) → (is_barriered : Bool) → Option Rule → Type 0
IsWordRule s log cell word b None = MayUse s log cell × HasWord s cell word b
IsWordRule s log cell word b (Some rule.NotHeld) = ¬ MayUse s log cell
IsWordRule s log cell word b (Some rule.Word) = ¬ HasWord s cell word b
IsWordRule s log cell word b (Some _) = ⊥

-- of a barriered store
abbrev pub IsBarrieredRule : Setup → List Step → (cell word value : ℕ) → Option Rule → Type 0
IsBarrieredRule s log cell word value None = MayUse s log cell × IsTrue (is_reference_kind (kind_of s cell word)) × MayStore s log (kind_of s cell word) value
IsBarrieredRule s log cell word value (Some rule.NotHeld) = ¬ MayUse s log cell
IsBarrieredRule s log cell word value (Some rule.Word) = ¬ IsTrue (is_reference_kind (kind_of s cell word))
IsBarrieredRule s log cell word value (Some rule.StoredValue) = ¬ MayStore s log (kind_of s cell word) value
IsBarrieredRule s log cell word value (Some _) = ⊥

-- of a plain store
abbrev pub IsPlainRule : Setup → List Step → (cell word value : ℕ) → Option Rule → Type 0
IsPlainRule s log cell word value None = MayUse s log cell × (IsTrue (is_reference_kind (kind_of s cell word)) → Fresh s log cell) × MayStore s log (kind_of s cell word) value
IsPlainRule s log cell word value (Some rule.NotHeld) = ¬ MayUse s log cell
IsPlainRule s log cell word value (Some rule.Word) = ¬ (kind_of s cell word ≢ None)
IsPlainRule s log cell word value (Some rule.NotFresh) = ¬ (IsTrue (is_reference_kind (kind_of s cell word)) → Fresh s log cell)
IsPlainRule s log cell word value (Some rule.StoredValue) = ¬ MayStore s log (kind_of s cell word) value
IsPlainRule s log cell word value (Some _) = ⊥

-- of the roots of an answer
abbrev pub IsRootRule : Setup → List Step → List ℕ → Option Rule → Type 0
IsRootRule s log roots None = (c : ℕ) → IsIn c roots → MayUse s log c
IsRootRule s log roots (Some rule.RootNotHeld) = ¬ ((c : ℕ) → IsIn c roots → MayUse s log c)
IsRootRule s log roots (Some _) = ⊥
