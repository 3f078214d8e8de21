-- The name of a root slot stands for a value, where what a function names by number is there.
use Rattle.std.proofs.Common.{◌≡◌, ℕ, zero, suc, Bool, true, false, List, [], ◌∷◌, length, slice_get, Option, Some, None, inl, inr, refl, sym, subst}
use Rattle.std.specs.Prelude.{replicate, slice_set}
use Rattle.std.specs.List.{AllByRecursion}
use Rattle.lemmas.specs.All.{all_get}
use Rattle.lemmas.specs.Lists.{set_either}
use Rattle.ir_ast.specs.declared.block.Block.{Block}
use Rattle.ir_ast.specs.declared.function.Function.{Function}
use Rattle.ir_ast.specs.declared.function.LocalSort.{LocalSort}
use Rattle.ir_ast.specs.declared.function.LocalSort.TheVariants as local
use Rattle.ir_ast.specs.declared.instr.Instr.{Instr}
use Rattle.ir_ast.specs.declared.memory.MemoryOp.TheVariants as memory
use Rattle.ir_ast.specs.declared.module.Module.{Module}
use Rattle.ir_ast.specs.declared.op.Op.{Op}
use Rattle.ir_ast.specs.declared.op.Op.TheVariants as op
use Rattle.shadow_stack.specs.Slots.{SlotTable, slots_of}
use Rattle.ir_print_law.specs.PartsWithin.{HasResult, IsOfValue}
use Rattle.ir_print_law.specs.Within.{IsBlockWithin, IsFunctionWithin, IsInstrWithin, IsWithin}
use Rattle.certs.specs.Fits.{is_value, is_value_sort}
use Rattle.certs.specs.RootNames.{is_root, root_recorded, roots_of_blocks, roots_recorded}
use Rattle.certificate.specs.Named.{HasRootValues}

value_sort : (sort : Option LocalSort) → IsOfValue sort → is_value_sort sort ≡ true
value_sort None is = absurd is
value_sort (Some local.Unknown) is = absurd is
value_sort (Some (local.Value t)) is = refl
value_sort (Some (local.Slot held)) is = refl
value_sort (Some (local.Element block place)) is = refl
value_sort (Some (local.Block b)) is = absurd is

unmarked : (n slot : ℕ) → slice_get (replicate n false) slot ≡ Some true → ⊥
unmarked zero slot e = absurd cc
unmarked (suc n) zero e = absurd cc
unmarked (suc n) (suc slot) e = unmarked n slot e

module _ (m : Module) (f : Function) (slots : SlotTable) where
  -- each name that is marked is a value's
  abbrev AreValues : List Bool → Type 0
  AreValues roots = (slot : ℕ) → slice_get roots slot ≡ Some true → is_value f slot ≡ true

  none_marked : (n : ℕ) → AreValues (replicate n false)
  none_marked n slot e = absurd (unmarked n slot e)

  one_marked : (roots : List Bool) (value : ℕ) (root : Bool) → is_value f value ≡ true → AreValues roots → AreValues (slice_set roots value root)
  one_marked roots value root is h slot e = elim (set_either roots value root slot true e) [
    | inl p ↦ h slot p
    | inr p ↦ subst (λ (j : ℕ). is_value f j ≡ true) (sym p.0) is
  ]

  op_marked : (x : Op) (result : Option ℕ) (roots : List Bool) → HasResult f result → AreValues roots → AreValues (root_recorded slots x result roots)
  op_marked (op.Memory (memory.Alloca held)) (Some value) roots has h = one_marked roots value (is_root slots value) (value_sort (slice_get f.sorts value) has.1) h
  op_marked (op.Memory (memory.Alloca held)) None roots has h = h
  op_marked (op.Memory (memory.Buffer held count)) result roots has h = h
  op_marked (op.Memory (memory.Load loaded place_type place)) result roots has h = h
  op_marked (op.Memory (memory.Store stored x place_type place)) result roots has h = h
  op_marked (op.Number x) result roots has h = h
  op_marked (op.Element x) result roots has h = h
  op_marked (op.Cast x) result roots has h = h
  op_marked (op.Choice x) result roots has h = h
  op_marked (op.Call x) result roots has h = h

  body_marked : (body : List Instr) (roots : List Bool) → AllByRecursion (IsInstrWithin m f) body → AreValues roots → AreValues (roots_recorded slots body roots)
  body_marked [] roots within h = h
  body_marked (instr ∷ body) roots within h = body_marked body (root_recorded slots instr.op instr.result roots) within.1 (op_marked instr.op instr.result roots within.0.0 h)

  blocks_marked : (blocks : List Block) (roots : List Bool) → AllByRecursion (IsBlockWithin m f) blocks → AreValues roots → AreValues (roots_of_blocks slots blocks roots)
  blocks_marked [] roots within h = h
  blocks_marked (block ∷ blocks) roots within h = blocks_marked blocks (roots_recorded slots block.body roots) within.1 (body_marked block.body roots within.0.2 h)

pub root_values : (m : Module) → IsWithin m → HasRootValues m
root_values m within number f at =
    let own : IsFunctionWithin m f = all_get (IsFunctionWithin m) m.functions number f within.functions at in
    blocks_marked m f (slots_of m f) f.blocks (replicate (length f.locals) false) own.blocks (none_marked m f (slots_of m f) (length f.locals))
