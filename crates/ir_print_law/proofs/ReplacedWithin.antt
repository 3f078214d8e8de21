-- The numbers of a module are within its tables where one of its functions is replaced.
use Rattle.std.proofs.Common.{◌≡◌, ℕ, ◌<◌, ◌≤◌, List, length, slice_get, Some, sym, subst, arith, inl, inr}
use Rattle.lemmas.specs.All.{all_get, all_so}
use Rattle.lemmas.specs.Lists.{get_some}
use Rattle.std.proofs.lemmas.List.{length-set}
use Rattle.ir_ast.specs.declared.function.Function.{Function}
use Rattle.ir_ast.specs.declared.ir_type.IrType.{IrType}
use Rattle.ir_ast.specs.declared.items_of_module.Global.{Global}
use Rattle.ir_ast.specs.declared.items_of_module.StructType.{StructType}
use Rattle.ir_ast.specs.declared.module.Module.{Module}
use Rattle.ir_tokens.specs.Bytes.{Text}
use Rattle.ir_text.specs.Replaced.{IsReplaced}
use Rattle.name_text.specs.Readings.{AreBytes}
use Rattle.ir_print_law.specs.ModuleNames.{HasModuleNames}
use Rattle.ir_print_law.specs.PartsWithin.{HasSymbol}
use Rattle.ir_print_law.specs.Wholes.{IsWhole}
use Rattle.ir_print_law.specs.Within.{IsFunctionWithin, IsStructWithin, IsGlobalWithin, IsDeclareWithin, IsWithin}
use Rattle.ir_print_law.proofs.LongerTypes.{with_types}
use Rattle.ir_print_law.proofs.PartsWithin.{functions_have}
use Rattle.ir_print_law.proofs.ReplacedWhole.{all_set, becomes, edited}
use Rattle.ir_print_law.proofs.Tables.{Begins, begins_length}
use Rattle.ir_print_law.proofs.WithinRead.{IsInnerOf}
use Rattle.ir_print_law.proofs.PartsLonger.{MeansAsMuch, type_longer}
use Rattle.ir_print_law.proofs.WithinLonger.{declare_longer, function_longer}

module _ (m : Module) (whole : IsWhole m) (within : IsWithin m) (func : ℕ) (old : Function) (at : slice_get m.functions func ≡ Some old) where
  -- the names mean what they mean in the module, whatever its types are
  names_again : (types : List IrType) → HasModuleNames (with_types m types m.functions)
  names_again types =
      let n = whole.names in record {
        struct_names = n.struct_names;
        structs = n.structs;
        layouts = n.layouts;
        symbols = n.symbols;
        sorts = n.sorts;
        globals = n.globals;
        declares = n.declares;
        functions = n.functions;
        named_globals = n.named_globals;
        named_declares = n.named_declares;
        named_functions = n.named_functions;
        own = n.own;
      }

  -- and so they do where a function is replaced
  means : (types : List IrType) (f : Function) → MeansAsMuch (with_types m types m.functions) (edited m whole func old at types f)
  means types f =
      let same = length-set m.functions func f in record {
        symbols = λ symbol h. h;
        globals = λ symbol h. h;
        functions = λ symbol h. (
          h.0,
          elim h.1 [
            | inl declared ↦ inl declared
            | inr defined ↦ inr (defined.0, defined.1, let less = defined.2 in omega (arith, less, same))
          ],
        );
      }

  means_still : (types : List IrType) (f : Function) → MeansAsMuch m (edited m whole func old at types f)
  means_still types f = let more = means types f in record { symbols = λ symbol h. h; globals = λ symbol h. h; functions = λ symbol h. more.functions symbol h }

  edited_within : (types : List IrType) (f : Function) → Begins m.types types → IsFunctionWithin (with_types m types m.functions) f
      → IsWithin (edited m whole func old at types f)
  edited_within types f more own =
      let n = edited m whole func old at types f in
      let mid = with_types m types m.functions in
      let more_types : length m.types ≤ length n.types = begins_length m.types types more in
      let names = means_still types f in
      let same : length mid.types ≤ length n.types = omega arith in record {
        structs = all_so (IsStructWithin m) (IsStructWithin n) m.structs (λ (x : StructType) h. (h.0, type_longer m n more_types names x.body h.1)) within.structs;
        globals = all_so (IsGlobalWithin m) (IsGlobalWithin n) m.globals (λ (x : Global) h. (h.0, type_longer m n more_types names x.held h.1)) within.globals;
        declares = all_so (IsDeclareWithin m) (IsDeclareWithin n) m.declares (declare_longer m n more_types names) within.declares;
        functions = all_set (IsFunctionWithin n) m.functions func f
            (all_so (IsFunctionWithin m) (IsFunctionWithin n) m.functions (function_longer m n more_types names) within.functions)
            (function_longer mid n same (means types f) f own);
      }

  -- what was read, as a function of the module
  function_within : (types : List IrType) (f : Function) → Begins m.types types → f.symbol ≡ old.symbol → IsInnerOf (with_types m types m.functions) f
      → IsFunctionWithin (with_types m types m.functions) f
  function_within types f more symbol_is inner =
      let inside = inner (names_again types) in
      let old_within = all_get (λ (x : Function). HasSymbol m x.symbol) m.functions func old (functions_have m whole.names) at in
      record { symbol = subst (HasSymbol m) (sym symbol_is) old_within; returned = inside.0; parameters = inside.1; sorts = inside.2; slots = inside.3; blocks = inside.4 }

  old_is_within : (bytes : Text) (n : Module) → AreBytes bytes → IsReplaced m func bytes n → IsWithin n
  old_is_within bytes n own h =
      let b = becomes m whole func old at bytes n own h in
      let is = b.2 in
      subst IsWithin b.3 (edited_within b.0.types b.1 is.begins (function_within b.0.types b.1 is.begins is.symbol_is is.inner))

-- the module in which a function is replaced
pub replaced_is_within : (m : Module) (func : ℕ) (bytes : Text) (n : Module) → IsWhole m → IsWithin m → func < length m.functions → AreBytes bytes → IsReplaced m func bytes n → IsWithin n
replaced_is_within m func bytes n whole within less own h = let old = get_some m.functions func less in old_is_within m whole within func old.0 old.1 bytes n own h
