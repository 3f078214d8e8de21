-- Each function and each layout of a program whose names mean its items is the one that has its name.
use Rattle.std.proofs.Common.{◌≡◌, ℕ, zero, suc, ◌<◌, true, List, [], ◌∷◌, length, Option, Some, None, slice_get, refl, ap, sym, subst, ◌∙◌, arith}
use Rattle.std.specs.Prelude.{nat_lt, if◌then◌else◌, unwrap_or}
use Rattle.std.proofs.lemmas.Bool.Decides.{nat_tests}
use Rattle.lemmas.specs.Lists.{get_some}
use Rattle.ir_ast.specs.Names.{place_of}
use Rattle.ir_ast.specs.StructNames.{struct_name}
use Rattle.ir_ast.specs.declared.function.Function.{Function}
use Rattle.ir_ast.specs.declared.items_of_module.StructType.{StructType}
use Rattle.ir_ast.specs.declared.items_of_module.SymbolSort.TheVariants as symbol
use Rattle.ir_ast.specs.declared.module.Module.{Module}
use Rattle.ir_tokens.specs.Bytes.{Text}
use Rattle.name_text.specs.Readings.{IsShort}
use Rattle.name_text.specs.declared.blank.Blank.TheVariants as blank
use Rattle.ir_print_law.specs.ModuleNames.{AreNames, HasModuleNames}
use Rattle.layout.specs.Layouts.{LaidOut, AreLayouts, AreLayoutsOf}
use Rattle.pools.specs.declared.word_kind.WordKind.{WordKind}
use Rattle.types.specs.References.{struct_in}
use Rattle.trace_text.specs.Names.{function_named, function_by, sort_at, layout_named, struct_at}
use Rattle.trace_text.specs.Print.{name_at, name_text}
use Rattle.trace_text.specs.Traces.{AreNamed, symbol_name}
use Rattle.cert_print_law.specs.Printed.{AreShort}
use Rattle.cert_print_law.specs.PrintedTraces.{HasShortItems}

-- ---- names of a table

-- the name at a place of a table is short, and is found there
abbrev IsFoundAt : List Text → ℕ → Type 0
IsFoundAt names number = IsShort blank.Kept (name_at names number) × (place_of (name_at names number) names ≡ Some number)

found_at : (names : List Text) → AreNames names → AreShort name_text names → (number : ℕ) → number < length names → IsFoundAt names number
found_at names are short number less =
    let name = get_some names number less in
    let here : name_at names number ≡ name.0 = ap (λ (found : Option Text). unwrap_or found []) name.1 in
    let own = are number name.0 name.1 in (
      subst (IsShort blank.Kept) (sym here) (own.0, short number name.0 name.1),
      ap (λ (text : Text). place_of text names) here ∙ own.1,
    )

-- ---- layouts

-- there is a struct for each layout
struct_of_layout : (m : Module) (structs : List StructType) (layouts : List (List WordKind)) (layout : ℕ) → AreLayoutsOf m structs layouts → layout < length layouts
    → (struct : StructType) × (slice_get structs layout ≡ Some struct)
struct_of_layout m [] [] layout are less = absurd (omega (arith, less))
struct_of_layout m [] (words ∷ layouts) layout are less = absurd are
struct_of_layout m (struct ∷ structs) [] layout are less = absurd are
struct_of_layout m (struct ∷ structs) (words ∷ layouts) zero are less = (struct, refl)
struct_of_layout m (struct ∷ structs) (words ∷ layouts) (suc layout) are less = struct_of_layout m structs layouts layout are.1 (omega (arith, less))

module _ (p : LaidOut) (own : HasModuleNames p.of_module) (laid : AreLayouts p.of_module p.layouts) (short : HasShortItems p.of_module) where
  -- a function with this number is the one of its name
  abbrev IsFunctionNamed : ℕ → Option Function → Type 0
  IsFunctionNamed function f =
      IsShort blank.Kept (symbol_name p.of_module f) × (function_named p.of_module (Some (symbol_name p.of_module f)) ≡ Some function)

  -- so is a layout
  abbrev IsLayoutNamed : ℕ → Option StructType → Type 0
  IsLayoutNamed layout struct =
      IsShort blank.Kept (struct_name p.of_module struct) × (layout_named p.of_module (Some (struct_name p.of_module struct)) ≡ Some layout)

  function_is : (function : ℕ) → function < length p.of_module.functions → IsFunctionNamed function (slice_get p.of_module.functions function)
  function_is function less =
      let f = get_some p.of_module.functions function less in
      let sort = own.functions function f.0 f.1 in
      let found = found_at p.of_module.symbols own.symbols short.symbols f.0.symbol (own.sorts f.0.symbol (symbol.Defined function) sort) in
      let there : nat_lt function (length p.of_module.functions) ≡ true = grind (arith, nat_tests) in
      let named : function_named p.of_module (Some (name_at p.of_module.symbols f.0.symbol)) ≡ Some function =
      ap (λ place. function_by p.of_module (sort_at p.of_module place)) found.1 ∙ ap (function_by p.of_module) sort ∙ ap (λ less. if less then Some function else None) there in
      subst (IsFunctionNamed function) (sym f.1) (found.0, named)

  layout_is : (layout : ℕ) → layout < length p.layouts → IsLayoutNamed layout (slice_get p.of_module.structs layout)
  layout_is layout less =
      let struct = struct_of_layout p.of_module p.of_module.structs p.layouts layout laid.0 less in
      let meant = own.structs layout struct.0 struct.1 in
      let found = found_at p.of_module.struct_names own.struct_names short.structs struct.0.name (own.layouts layout struct.0.name meant).1 in
      let named : layout_named p.of_module (Some (struct_name p.of_module (Some struct.0))) ≡ Some layout =
      ap (struct_at p.of_module) found.1 ∙ ap struct_in meant in
      subst (IsLayoutNamed layout) (sym struct.1) (found.0, named)

  -- each function and each layout has a short name, and is the one that has it
  pub program_named : AreNamed p
  program_named = record {
    short_function = λ function less. (function_is function less).0;
    function = λ function less. (function_is function less).1;
    short_layout = λ layout less. (layout_is layout less).0;
    layout = λ layout less. (layout_is layout less).1;
  }
