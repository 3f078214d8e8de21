-- A printable module is printable once it is opaque.
use Rattle.std.proofs.Common.{◌<◌, ◌≤◌, ℕ, List, [], map, length, Option, ◌⊎◌, inl, inr, sym, subst}
use Rattle.std.specs.List.{AllByRecursion}
use Rattle.ir_ast.specs.Places.{map-length}
use Rattle.ir_ast.specs.declared.function.Function.{Function}
use Rattle.ir_ast.specs.declared.function.Parameter.{Parameter}
use Rattle.ir_ast.specs.declared.items_of_module.Declare.{Declare}
use Rattle.ir_ast.specs.declared.items_of_module.Global.{Global}
use Rattle.ir_ast.specs.declared.items_of_module.StructType.{StructType}
use Rattle.ir_ast.specs.declared.module.Module.{Module}
use Rattle.name_text.specs.Readings.{AreBytes}
use Rattle.copies.specs.Opaque.{new_number, opaque_block, opaque_declare, opaque_function, opaque_global, opaque_parameter, opaque_struct}
use Rattle.ir_print_law.specs.Definitions.{AreDefined, AreNew}
use Rattle.ir_print_law.specs.Parts.{IsVoid}
use Rattle.ir_print_law.specs.Printable.{IsAnyType, IsBlock, IsDeclare, IsFunction, IsGlobal, IsInitial, IsParameter, IsPassed, IsPrintable, IsStructType, IsSymbol}
use Rattle.migration_law.specs.PartsBefore.{ArePartsBefore}
use Rattle.migration_law.proofs.OpsAfter.{all_map, block, defined_same, symbols_same, values_same}
use Rattle.migration_law.proofs.ShapesAfter.{bits_same, held_still, numbers, o, opaque_shape, passed_still, struct_shape_still, structs_same, type_still, void_still}
use Rattle.ir_forms.specs.declared.written.Word.{Word}

-- as many on both sides
few : {A B : Type 0} (g : A → B) (xs : List A) (most : ℕ) → length xs ≤ most → length (map g xs) ≤ most
few g xs most h = subst (λ k. k ≤ most) (sym (map-length g xs)) h

module _ (m : Module) (ordered : ArePartsBefore m.types) where
  passed : (t : ℕ) → IsPassed m t → IsPassed (o m ordered) (new_number (numbers m ordered) t)
  passed t h = (opaque_shape h.0, type_still m ordered h.0 t h.1, passed_still h.0 h.2)

  result : (t : ℕ) → IsVoid m t ⊎ IsPassed m t → IsVoid (o m ordered) (new_number (numbers m ordered) t) ⊎ IsPassed (o m ordered) (new_number (numbers m ordered) t)
  result t (inl h) = inl (void_still m ordered t h)
  result t (inr h) = inr (passed t h)

  function : (f : Function) → IsFunction m f → IsFunction (o m ordered) (opaque_function (numbers m ordered) f)
  function f h =
      let made = opaque_function (numbers m ordered) f in
      record {
        returned = result f.returned h.returned;
        parameters = all_map (IsParameter m) (IsParameter (o m ordered)) (opaque_parameter (numbers m ordered)) f.parameters (λ (x : Parameter) p. passed x.written p) h.parameters;
        collector = h.collector;
        definitions = subst (AreDefined [] 0) (sym (defined_same m ordered f)) h.definitions;
        values = subst (λ keys. length keys ≤ 1000000) (sym (values_same m ordered f)) h.values;
        has_block = subst (λ k. 0 < k) (sym (map-length (opaque_block (numbers m ordered)) f.blocks)) h.has_block;
        few_blocks = few (opaque_block (numbers m ordered)) f.blocks 65535 h.few_blocks;
        blocks = all_map (IsBlock m f) (IsBlock (o m ordered) made) (opaque_block (numbers m ordered)) f.blocks (block m ordered f) h.blocks;
      }

  struct : (x : StructType) → IsStructType m x → IsStructType (o m ordered) (opaque_struct (numbers m ordered) x)
  struct x h = (opaque_shape h.0, type_still m ordered h.0 x.body h.1, struct_shape_still h.0 h.2)

  global : (x : Global) → IsGlobal m x → IsGlobal (o m ordered) (opaque_global (numbers m ordered) x)
  global x h =
      (opaque_shape h.0, type_still m ordered h.0 x.held h.1, held_still h.0 h.2, subst (λ (bits : Word). IsInitial bits x.initial) (sym (bits_same h.0)) h.3)

  any_type : (t : ℕ) → IsAnyType m t → IsAnyType (o m ordered) (new_number (numbers m ordered) t)
  any_type t h = (opaque_shape h.0, type_still m ordered h.0 t h.1)

  any_result : (t : ℕ) → IsVoid m t ⊎ IsAnyType m t → IsVoid (o m ordered) (new_number (numbers m ordered) t) ⊎ IsAnyType (o m ordered) (new_number (numbers m ordered) t)
  any_result t (inl h) = inl (void_still m ordered t h)
  any_result t (inr h) = inr (any_type t h)

  declare : (x : Declare) → IsDeclare m x → IsDeclare (o m ordered) (opaque_declare (numbers m ordered) x)
  declare x h = (any_result x.returned h.0, all_map (IsAnyType m) (IsAnyType (o m ordered)) (new_number (numbers m ordered)) x.parameters any_type h.1, h.2)

  pub printable : IsPrintable m → IsPrintable (o m ordered)
  printable h = record {
    struct_names = subst (λ names. AllByRecursion AreBytes names × AreNew [] names) (sym (structs_same m ordered)) h.struct_names;
    symbols = subst (λ names. AllByRecursion (IsSymbol m.wide) names × AreNew [] names) (sym (symbols_same m ordered)) h.symbols;
    structs = all_map (IsStructType m) (IsStructType (o m ordered)) (opaque_struct (numbers m ordered)) m.structs struct h.structs;
    globals = all_map (IsGlobal m) (IsGlobal (o m ordered)) (opaque_global (numbers m ordered)) m.globals global h.globals;
    few_globals = few (opaque_global (numbers m ordered)) m.globals 4096 h.few_globals;
    declares = all_map (IsDeclare m) (IsDeclare (o m ordered)) (opaque_declare (numbers m ordered)) m.declares declare h.declares;
    few_declares = few (opaque_declare (numbers m ordered)) m.declares 65535 h.few_declares;
    functions = all_map (IsFunction m) (IsFunction (o m ordered)) (opaque_function (numbers m ordered)) m.functions function h.functions;
    few_functions = few (opaque_function (numbers m ordered)) m.functions 65535 h.few_functions;
  }
