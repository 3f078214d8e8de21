-- Where no root slot of a function lacks a shape, the shapes of its module fit the function.
use Rattle.std.proofs.Common.{◌≡◌, ℕ, zero, suc, ◌+◌, List, [], ◌∷◌, Bool, Option, Some, None, true, false, ◌&&◌, ◌||◌, if◌then◌else◌, arith, refl, subst}
use Rattle.std.specs.Prelude.{not, is_some, slice_get, unwrap_or}
use Rattle.std.specs.List.{list_all}
use Rattle.lemmas.specs.Bools.{and_true}
use Rattle.ir_ast.specs.Names.{name_at}
use Rattle.ir_ast.specs.Shapes.{root_shape}
use Rattle.ir_ast.specs.declared.block.Block.{Block}
use Rattle.ir_ast.specs.declared.function.Function.{Function}
use Rattle.ir_ast.specs.declared.instr.Instr.{Instr}
use Rattle.ir_ast.specs.declared.memory.MemoryOp.TheVariants.{Alloca}
use Rattle.ir_ast.specs.declared.module.Module.{Module}
use Rattle.ir_ast.specs.declared.op.Op.{Op}
use Rattle.ir_ast.specs.declared.op.Op.TheVariants.{Memory}
use Rattle.ir_ast.specs.declared.shapes.Shapes.{Shapes}
use Rattle.types.specs.References.{is_opaque}
use Rattle.certs.specs.Fits.{is_value}
use Rattle.certs.specs.RootNames.{root_names}
use Rattle.certs.specs.ShapesFit.{body_fits, op_fits, root_of, roots_fit, slot_fits}
use Rattle.recheck.specs.RootShapes.{is_shaped, missing_from, missing_of, missing_root}

-- what each element passes all pass
all_true : {A : Type 0} (test : A → Bool) (xs : List A) → ((x : A) → test x ≡ true) → list_all test xs ≡ true
all_true test [] each = refl
all_true test (x ∷ xs) each = and_true (test x) (list_all test xs) (each x) (all_true test xs each)

-- ---- a function whose root slots have shapes

-- none is missing, so not this one
not_this : (slot : ℕ) (rest : Option ℕ) (missing : Bool) → (if missing then Some slot else rest) ≡ None → missing ≡ false
not_this slot rest true h = absurd cc
not_this slot rest false h = refl

-- and none of the rest
not_rest : (slot : ℕ) (rest : Option ℕ) (missing : Bool) → (if missing then Some slot else rest) ≡ None → rest ≡ None
not_rest slot rest true h = absurd cc
not_rest slot rest false h = h

-- a root slot that is not missing has a shape
has_shape : (root shaped : Bool) → (root && not shaped) ≡ false → root ≡ true → shaped ≡ true
has_shape true true h is = refl
has_shape true false h is = absurd cc
has_shape false shaped h is = absurd cc

-- a slot of type `ptr` of which the name is a root's and has a shape
slot_by : (opaque value root shaped : Bool) → (root ≡ true → shaped ≡ true) → (not opaque || not (value && root) || shaped) ≡ true
slot_by false value root shaped h = refl
slot_by true false root shaped h = refl
slot_by true true false shaped h = refl
slot_by true true true shaped h = h refl

module _ (n : Module) (f : Function) where
  none_missing : (slot : ℕ) (roots : List Bool) → missing_from n f slot roots ≡ None → (i : ℕ) → unwrap_or (slice_get roots i) false ≡ true → is_shaped n f (slot + i) ≡ true
  none_missing slot [] h i is = absurd cc
  none_missing slot (root ∷ roots) h zero is =
      let here : slot ≡ slot + zero = omega arith in
      subst (λ (k : ℕ). is_shaped n f k ≡ true) here
      (has_shape root (is_shaped n f slot) (not_this slot (missing_from n f (slot + 1) roots) (root && not (is_shaped n f slot)) h) is)
  none_missing slot (root ∷ roots) h (suc i) is =
      let there : slot + 1 + i ≡ slot + suc i = omega arith in
      subst (λ (k : ℕ). is_shaped n f k ≡ true) there
      (none_missing (slot + 1) roots (not_rest slot (missing_from n f (slot + 1) roots) (root && not (is_shaped n f slot)) h) i is)

  module _ (given : Shapes) (same : n.shapes ≡ Some given) (none : missing_from n f 0 (root_names n f) ≡ None) where
    root_has_shape : (slot : ℕ) → unwrap_or (slice_get (root_names n f) slot) false ≡ true → is_some (root_of given f slot) ≡ true
    root_has_shape slot is =
        let here : 0 + slot ≡ slot = omega arith in
        subst (λ (x : Option Shapes). is_some (root_shape x f.symbol (name_at f.locals slot)) ≡ true) same
        (subst (λ (k : ℕ). is_shaped n f k ≡ true) here (none_missing 0 (root_names n f) none slot is))

    slot_ok : (name held : ℕ) → slot_fits n given f name held ≡ true
    slot_ok name held = slot_by (is_opaque n held) (is_value f name) (unwrap_or (slice_get (root_names n f) name) false) (is_some (root_of given f name)) (root_has_shape name)

    op_ok : (name : Option ℕ) (x : Op) → op_fits n given f name x ≡ true
    op_ok (Some name) (Memory (Alloca held)) = slot_ok name held
    op_ok _ _ = refl

    roots_ok : roots_fit n given f ≡ true
    roots_ok =
        all_true (λ (block : Block). body_fits n given f block.body) f.blocks
        (λ block. all_true (λ (instr : Instr). op_fits n given f instr.result instr.op) block.body (λ instr. op_ok instr.result instr.op))

-- what is none of a function whose module has shapes
none_of : (given : Shapes) (shapes : Option Shapes) (slot : Option ℕ) → shapes ≡ Some given → (if is_some shapes then slot else None) ≡ None → slot ≡ None
none_of given None slot is h = absurd cc
none_of given (Some x) slot is h = h

-- the shapes of the module fit the function with this number, if no root slot of it lacks one
pub roots_there : (n : Module) (func : ℕ) (f : Function) (given : Shapes) → slice_get n.functions func ≡ Some f → n.shapes ≡ Some given → missing_root n func ≡ None → roots_fit n given f ≡ true
roots_there n func f given at same none =
    roots_ok n f given same (none_of given n.shapes (missing_from n f 0 (root_names n f)) same (subst (λ (x : Option Function). missing_of n x ≡ None) at none))
