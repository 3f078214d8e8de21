-- Which numbers of layouts may be listed.
use Rattle.std.specs.Prelude.{◌≡◌, ℕ, Bool, true, not, ◌&&◌, ◌||◌, ◌==◌, List, [], ◌∷◌, refl}
use Rattle.std.specs.List.{list_all, list_any}
use Rattle.std.proofs.Common.{ap, ◌∙◌}
use Rattle.ir_ast.specs.declared.module.Module.{Module}
use Rattle.ir_ast.specs.declared.outside.LayoutNumber.{LayoutNumber}
use Rattle.types.specs.LayoutNumbers.{is_layout_number}
use Rattle.certs.specs.Fits.{stands_for}

-- a layout is listed
abbrev pub has_layout : List LayoutNumber → (layout : ℕ) → Bool
has_layout lines layout = list_any (λ (line : LayoutNumber). line.layout == layout) lines

-- a number is listed
abbrev pub has_number : List LayoutNumber → (number : ℕ) → Bool
has_number lines number = list_any (λ (line : LayoutNumber). line.number == number) lines

-- no layout and no number stands twice
abbrev pub are_numbered_once : List LayoutNumber → Bool
are_numbered_once [] = true
are_numbered_once (line ∷ rest) = not (has_layout rest line.layout || has_number rest line.number) && are_numbered_once rest

-- a layout of the module, and a number of 32 bits
abbrev pub may_number : Module → LayoutNumber → Bool
may_number m line = list_any (stands_for line.layout) m.struct_of && is_layout_number line.number

-- numbers of layouts of a module of the wide forms, each layout and each number once
abbrev pub numbers_fit : Module → List LayoutNumber → Bool
numbers_fit m [] = true
numbers_fit m (line ∷ lines) = m.wide && (list_all (may_number m) (line ∷ lines) && are_numbered_once (line ∷ lines))

-- ---- two modules of the same structs

module _ (m n : Module) (structs : n.struct_of ≡ m.struct_of) where
  -- the same numbers may be listed
  pub numbers_same : n.wide ≡ m.wide → (lines : List LayoutNumber) → numbers_fit n lines ≡ numbers_fit m lines
  numbers_same wide [] = refl
  numbers_same wide (line ∷ lines) =
      ap (λ b. b && (list_all (may_number n) (line ∷ lines) && are_numbered_once (line ∷ lines))) wide
      ∙ ap (λ x. m.wide && (list_all (λ (one : LayoutNumber). list_any (stands_for one.layout) x && is_layout_number one.number) (line ∷ lines) && are_numbered_once (line ∷ lines))) structs
