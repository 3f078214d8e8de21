-- Shapes that fit a module fit it where one function is replaced, none of whose root slots lacks a shape.
use Rattle.std.proofs.Common.{◌≡◌, ℕ, zero, suc, List, [], ◌∷◌, Bool, Option, Some, None, true, ◌&&◌, refl, sym, subst, ◌∙◌}
use Rattle.std.specs.Prelude.{slice_get, slice_set}
use Rattle.std.specs.List.{list_all}
use Rattle.lemmas.specs.Bools.{and_first, and_second, and_true}
use Rattle.ir_ast.specs.declared.function.Function.{Function}
use Rattle.ir_ast.specs.declared.module.Module.{Module}
use Rattle.ir_ast.specs.declared.shapes.Shapes.{Shapes}
use Rattle.certs.specs.Families.{is_opaque_text}
use Rattle.certs.specs.ShapesFit.{all_shapes_fit, global_fits, root_row_fits, roots_fit, row_fits, shape_fits, shapes_fit}
use Rattle.ir_text.specs.Replaced.{put_function}
use Rattle.layout.specs.Functions.{with_functions}
use Rattle.answers.specs.Laws.{RootsFitAlone}
use Rattle.recheck.specs.ShapedRoots.{roots_there}
use Rattle.recheck.specs.RootShapes.{missing_root}

-- ---- one of the functions is another one

module _ (test : Function → Bool) where
  all_set : (functions : List Function) (i : ℕ) (f : Function) → (slice_get (slice_set functions i f) i ≡ Some f → test f ≡ true) → list_all test functions ≡ true → list_all test (slice_set functions i f) ≡ true
  all_set [] i f one h = refl
  all_set (g ∷ functions) zero f one h = and_true (test f) (list_all test functions) (one refl) (and_second (test g) (list_all test functions) h)
  all_set (g ∷ functions) (suc i) f one h =
      and_true (test g) (list_all test (slice_set functions i f)) (and_first (test g) (list_all test functions) h) (all_set functions i f one (and_second (test g) (list_all test functions) h))

  all_put : (put : Option Function) (functions : List Function) (i : ℕ) → ((f : Function) → slice_get (put_function i put functions) i ≡ Some f → test f ≡ true) → list_all test functions ≡ true
      → list_all test (put_function i put functions) ≡ true
  all_put None functions i one h = h
  all_put (Some f) functions i one h = all_set functions i f (one f) h

-- ---- with these functions

-- what is asked of shapes, but for root slots
abbrev tables_fit : Module → Shapes → Bool
tables_fit m given = list_all (row_fits m) given.words && row_fits m given.globals && list_all (root_row_fits m) given.roots && list_all (global_fits m given) m.globals

module _ (m : Module) (fs : List Function) where
  shape_by : (shape : Option ℕ) → shape_fits (with_functions m fs) shape ≡ shape_fits m shape
  shape_by None = refl
  shape_by (Some layout) = refl

  row_same : row_fits (with_functions m fs) ≡ row_fits m
  row_same = λ along row. list_all (λ shape. shape_by shape along) row

  root_row_same : root_row_fits (with_functions m fs) ≡ root_row_fits m
  root_row_same = λ along roots. row_same along roots.layouts

  tables_same : (given : Shapes) → tables_fit (with_functions m fs) given ≡ tables_fit m given
  tables_same given = λ along. list_all (row_same along) given.words && row_same along given.globals && list_all (root_row_same along) given.roots && list_all (global_fits m given) m.globals

  -- shapes fit where they fitted and the functions' root slots have some
  shapes_with : (shapes : Option Shapes) → shapes_fit m shapes ≡ true → ((given : Shapes) → shapes ≡ Some given → list_all (roots_fit m given) m.functions ≡ true → list_all (roots_fit (with_functions m fs) given) fs ≡ true)
      → shapes_fit (with_functions m fs) shapes ≡ true
  shapes_with None h each = h
  shapes_with (Some given) h each =
      let fit = and_second (is_opaque_text m) (all_shapes_fit m given) h in
      let tables = and_first (tables_fit m given) (list_all (roots_fit m given) m.functions) fit in
      and_true (is_opaque_text m) (all_shapes_fit (with_functions m fs) given) (and_first (is_opaque_text m) (all_shapes_fit m given) h)
      (and_true (tables_fit (with_functions m fs) given) (list_all (roots_fit (with_functions m fs) given) fs) (tables_same given ∙ tables)
      (each given refl (and_second (tables_fit m given) (list_all (roots_fit m given) m.functions) fit)))

module _ (alone : RootsFitAlone) (m : Module) (func : ℕ) (put : Option Function) where
  -- shapes fit a module with another function, none of whose root slots lacks a shape
  pub shapes_put : (shapes : Option Shapes) → m.shapes ≡ shapes → shapes_fit m shapes ≡ true → missing_root (with_functions m (put_function func put m.functions)) func ≡ None
      → shapes_fit (with_functions m (put_function func put m.functions)) shapes ≡ true
  shapes_put shapes same fit none = shapes_with m fs shapes fit each
    where
      fs : List Function
      fs = put_function func put m.functions

      tests : (given : Shapes) → roots_fit m given ≡ roots_fit (with_functions m fs) given
      tests given = λ along f. sym (alone m fs given f) along

      each : (given : Shapes) → shapes ≡ Some given → list_all (roots_fit m given) m.functions ≡ true → list_all (roots_fit (with_functions m fs) given) fs ≡ true
      each given is h =
          all_put (roots_fit (with_functions m fs) given) put m.functions func (λ f at. roots_there (with_functions m fs) func f given at (same ∙ is) none)
          (subst (λ (test : Function → Bool). list_all test m.functions ≡ true) (tests given) h)
