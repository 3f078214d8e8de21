-- The names of a module that is read are found as what they name.
use Rattle.std.proofs.Common.{◌≡◌, ◌<◌, ◌^◌, true, List, length, Some, None, Option, is_some, slice_get, refl, ap, sym, subst, ◌∙◌, inl, inr, ◌⊎◌}
use Rattle.ir_ast.specs.declared.function.Function.{Function}
use Rattle.ir_ast.specs.declared.function.LocalSort.{LocalSort}
use Rattle.ir_ast.specs.declared.items_of_module.SymbolSort.{SymbolSort}
use Rattle.ir_ast.specs.declared.items_of_module.SymbolSort.TheVariants as symbol
use Rattle.ir_ast.specs.declared.module.Module.{Module}
use Rattle.ir_tokens.specs.Bytes.{Text}
use Rattle.ir_print_law.specs.FunctionNames.{IsKeyOfName, IsKeyOfNumber, HasNames}
use Rattle.ir_print_law.specs.ModuleNames.{HasModuleNames}
use Rattle.ir_print_law.specs.ModuleNames as names
use Rattle.types.specs.Globals.{global_of_sort}
use Rattle.types.specs.RuntimeCall.{is_outside_sort}
use Rattle.certs.specs.Fits.{is_value_sort}
use Rattle.certificate.specs.KeyText.{name_key_text}
use Rattle.certificate.specs.Named.{AreNames, IsNameKey, IsNumberKey, IsNamedFunction, IsNamed}
use Rattle.certificate.specs.Print.{name_text, key_text}
use Rattle.cert_print_law.specs.Printed.{AreShort, HasShortNames}
use Rattle.cert_print_law.proofs.Keys.{number_key}

table : (xs : List Text) → names.AreNames xs → AreShort name_text xs → AreNames xs
table xs are short number name there = let own = are number name there in ((own.0, short number name there), own.1)

global_sort : (sort : Option SymbolSort) → is_some (global_of_sort sort) ≡ true → (own : SymbolSort) × (sort ≡ Some own)
global_sort None e = absurd cc
global_sort (Some own) e = (own, refl)

outside_sort : (m : Module) (sort : Option SymbolSort) → is_outside_sort m sort ≡ true → (own : SymbolSort) × (sort ≡ Some own)
outside_sort m None e = absurd cc
outside_sort m (Some own) e = (own, refl)

value_sort : (sort : Option LocalSort) → is_value_sort sort ≡ true → (own : LocalSort) × (sort ≡ Some own)
value_sort None e = absurd cc
value_sort (Some own) e = (own, refl)

key_is : (key : Text) → IsKeyOfName key ⊎ IsKeyOfNumber key → length (key_text key) < 2 ^ 24 → IsNameKey key ⊎ IsNumberKey key
key_is key (inl is) short =
    let text : key_text key ≡ name_text is.0 = ap key_text is.2 ∙ name_key_text is.0 in
    inl (is.0, is.2, (is.1, subst (λ (t : Text). length t < 2 ^ 24) text short))
key_is key (inr is) short = inr (subst IsNumberKey (sym is.2) (number_key is.0 is.1))

function_named : (f : Function) → HasNames f → AreShort key_text f.locals → IsNamedFunction f
function_named f own short = record {
  names = λ number key there. let is = own.keys number key there in (key_is key is.0 (short number key there), is.1);
  values = λ value is. let sort = value_sort (slice_get f.sorts value) is in own.values value sort.0 sort.1;
  parameters = own.parameters;
  labels = own.labels;
}

pub module_named : (m : Module) → HasModuleNames m → HasShortNames m → IsNamed m
module_named m own short = record {
  symbols = table m.symbols own.symbols short.symbols;
  globals = λ name is. let sort = global_sort (slice_get m.sorts name) is in own.sorts name sort.0 sort.1;
  outside = λ name is. let sort = outside_sort m (slice_get m.sorts name) is in own.sorts name sort.0 sort.1;
  structs = table m.struct_names own.struct_names short.structs;
  layouts = λ layout name there. let is = own.layouts layout name there in (is.0.0, is.0.1, is.0.2, is.1);
  functions = λ number f there.
      (let sort = own.functions number f there in (own.sorts f.symbol (symbol.Defined number) sort, sort, function_named f (own.own number f there) (short.locals number f there)));
}
