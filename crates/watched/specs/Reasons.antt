-- What a refusal says: each reason alone breaks the discipline of the step that was asked for.
use Rattle.std.specs.Prelude.{ℕ, ◌≡◌, ◌≢◌, ◌≤◌, ◌^◌, ◌⊎◌, None, Some, List, IsTrue}
use Rattle.lemmas.specs.Lists.{IsIn}
use Rattle.pools.specs.Heap.{Setup, kind_of, IsOfLayout}
use Rattle.pools.specs.declared.word_kind.WordKind.TheVariants.{Integer, Reference}
use Rattle.pools.specs.Layouts.{is_reference_kind}
use Rattle.colours.specs.Steps.{Step}
use Rattle.colours.specs.Mutator.{Held, Fresh, MayUse}
use Rattle.watched.specs.declared.refusal.Refusal.{Refusal}
use Rattle.watched.specs.declared.refusal.Refusal.TheVariants.{NotHeld, NoWord, NoReference, NotFresh, TooLarge, ValueNotHeld, OtherLayout, RootNotHeld}

-- why a word may not be touched
abbrev pub IsUseReason : Setup → List Step → (cell word : ℕ) → Refusal → Type 0
IsUseReason s log cell word NotHeld = ¬ MayUse s log cell
IsUseReason s log cell word NoWord = MayUse s log cell × (kind_of s cell word ≡ None)
IsUseReason s log cell word why = ⊥

-- why a value may not be stored in it
abbrev pub IsValueReason : Setup → List Step → (cell word value : ℕ) → Refusal → Type 0
IsValueReason s log cell word value TooLarge = (bits : ℕ) × (kind_of s cell word ≡ Some (Integer bits)) × (2 ^ bits ≤ value)
IsValueReason s log cell word value ValueNotHeld = IsTrue (is_reference_kind (kind_of s cell word)) × (value ≢ 0) × ¬ Held s log value
IsValueReason s log cell word value OtherLayout = (layout : ℕ) × (kind_of s cell word ≡ Some (Reference layout)) × Held s log value × ¬ IsOfLayout s layout value
IsValueReason s log cell word value why = ⊥

-- why it may not be stored without the barrier
abbrev pub IsPlainReason : Setup → List Step → (cell word value : ℕ) → Refusal → Type 0
IsPlainReason s log cell word value NotFresh = IsTrue (is_reference_kind (kind_of s cell word)) × ¬ Fresh s log cell
IsPlainReason s log cell word value why = IsUseReason s log cell word why ⊎ IsValueReason s log cell word value why

-- and why not after the barrier
abbrev pub IsWriteReason : Setup → List Step → (cell word value : ℕ) → Refusal → Type 0
IsWriteReason s log cell word value NoReference = (bits : ℕ) × (kind_of s cell word ≡ Some (Integer bits))
IsWriteReason s log cell word value why = IsUseReason s log cell word why ⊎ IsValueReason s log cell word value why

-- why these may not be named as roots
abbrev pub IsRootReason : Setup → List Step → (roots : List ℕ) → Refusal → Type 0
IsRootReason s log roots (RootNotHeld root) = IsIn root roots × ¬ MayUse s log root
IsRootReason s log roots why = ⊥
