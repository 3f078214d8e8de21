-- Which functions outside of a module may be trusted, and what certificates may say of the code outside.
use Rattle.std.specs.Prelude.{◌≡◌, ℕ, Bool, true, not, ◌&&◌, ◌==◌, List, [], ◌∷◌, Option, Some, None, slice_get, refl}
use Rattle.std.specs.List.{list_all, list_any}
use Rattle.std.proofs.Common.{ap, ap₂, ◌∙◌}
use Rattle.ir_ast.specs.declared.items_of_module.SymbolSort.{SymbolSort}
use Rattle.ir_ast.specs.declared.items_of_module.SymbolSort.TheVariants.{Unknown, Global, Declared, Defined}
use Rattle.ir_ast.specs.declared.module.Module.{Module}
use Rattle.ir_ast.specs.declared.outside.Outside.{Outside}
use Rattle.types.specs.RuntimeCall.{is_outside, is_outside_declare, is_outside_sort}
use Rattle.certs.specs.NumbersFit.{numbers_fit, numbers_same}

-- no name stands twice
abbrev pub are_once : List ℕ → Bool
are_once [] = true
are_once (s ∷ rest) = not (list_any (λ t. t == s) rest) && are_once rest

-- functions outside of a module of the wide forms, each once
abbrev pub functions_fit : Module → List ℕ → Bool
functions_fit m [] = true
functions_fit m functions = m.wide && (list_all (is_outside m) functions && are_once functions)

-- such functions, and numbers of layouts
abbrev pub foreign_fits : Module → Outside → Bool
foreign_fits m foreign = functions_fit m foreign.functions && numbers_fit m foreign.numbers

-- ---- two modules of which the same functions are outside

module _ (m n : Module) (sorts : n.sorts ≡ m.sorts) (declares : (d : ℕ) → is_outside_declare (slice_get n.declares d) ≡ is_outside_declare (slice_get m.declares d)) where
  same_by : (sort : Option SymbolSort) → is_outside_sort n sort ≡ is_outside_sort m sort
  same_by None = refl
  same_by (Some Unknown) = refl
  same_by (Some (Global g)) = refl
  same_by (Some (Declared d)) = declares d
  same_by (Some (Defined f)) = refl

  same_outside : is_outside n ≡ is_outside m
  same_outside = λ along s. (ap (λ x. is_outside_sort n (slice_get x s)) sorts ∙ same_by (slice_get m.sorts s)) along

  -- the same may be trusted
  pub functions_same : n.wide ≡ m.wide → (symbols : List ℕ) → functions_fit n symbols ≡ functions_fit m symbols
  functions_same wide [] = refl
  functions_same wide (s ∷ rest) =
      ap (λ b. b && (list_all (is_outside n) (s ∷ rest) && are_once (s ∷ rest))) wide
      ∙ ap (λ (test : ℕ → Bool). m.wide && (list_all test (s ∷ rest) && are_once (s ∷ rest))) same_outside

  -- and the same may be said, where the structs are the same too
  pub foreign_same : n.struct_of ≡ m.struct_of → n.wide ≡ m.wide → (foreign : Outside) → foreign_fits n foreign ≡ foreign_fits m foreign
  foreign_same structs wide foreign = ap₂ (λ a b. a && b) (functions_same wide foreign.functions) (numbers_same m n structs wide foreign.numbers)
