-- What the names of a module mean.
use Rattle.std.specs.Prelude.{◌≡◌, ℕ, ◌<◌, List, length, Some, slice_get}
use Rattle.ir_ast.specs.Names.{place_of}
use Rattle.ir_ast.specs.declared.function.Function.{Function}
use Rattle.ir_ast.specs.declared.items_of_module.Declare.{Declare}
use Rattle.ir_ast.specs.declared.items_of_module.Global.{Global}
use Rattle.ir_ast.specs.declared.items_of_module.StructType.{StructType}
use Rattle.ir_ast.specs.declared.items_of_module.SymbolSort.{SymbolSort}
use Rattle.ir_ast.specs.declared.items_of_module.SymbolSort.TheVariants as symbol
use Rattle.ir_ast.specs.declared.module.Module.{Module}
use Rattle.ir_tokens.specs.Bytes.{Text}
use Rattle.name_text.specs.Readings.{AreBytes}
use Rattle.ir_print_law.specs.FunctionNames.{HasNames}

-- each name of a table is bytes, and is found at its place
abbrev pub AreNames : List Text → Type 0
AreNames names = (number : ℕ) (name : Text) → slice_get names number ≡ Some name → AreBytes name × (place_of name names ≡ Some number)

-- the item with this number has this name
abbrev pub IsNumbered : {A : Type 0} → (name_of : A → ℕ) → List A → (number name : ℕ) → Type 0
IsNumbered {A = A} name_of items number name = (item : A) × (slice_get items number ≡ Some item) × (name_of item ≡ name)

-- Each struct, global and function has a name of its own, which means it, and a name means nothing else. So it is within each function.
pub record HasModuleNames (m : Module) : Type 0 where
  pub struct_names : AreNames m.struct_names
  pub structs : (layout : ℕ) (struct : StructType) → slice_get m.structs layout ≡ Some struct → slice_get m.struct_of struct.name ≡ Some (Some layout)
  pub layouts : (layout name : ℕ) → slice_get m.struct_of name ≡ Some (Some layout) → IsNumbered (λ (s : StructType). s.name) m.structs layout name × (name < length m.struct_names)
  pub symbols : AreNames m.symbols
  pub sorts : (name : ℕ) (sort : SymbolSort) → slice_get m.sorts name ≡ Some sort → name < length m.symbols
  pub globals : (number : ℕ) (global : Global) → slice_get m.globals number ≡ Some global → slice_get m.sorts global.symbol ≡ Some (symbol.Global number)
  pub declares : (number : ℕ) (declared : Declare) → slice_get m.declares number ≡ Some declared → slice_get m.sorts declared.symbol ≡ Some (symbol.Declared number)
  pub functions : (number : ℕ) (f : Function) → slice_get m.functions number ≡ Some f → slice_get m.sorts f.symbol ≡ Some (symbol.Defined number)
  pub named_globals : (name number : ℕ) → slice_get m.sorts name ≡ Some (symbol.Global number) → IsNumbered (λ (g : Global). g.symbol) m.globals number name
  pub named_declares : (name number : ℕ) → slice_get m.sorts name ≡ Some (symbol.Declared number) → IsNumbered (λ (d : Declare). d.symbol) m.declares number name
  pub named_functions : (name number : ℕ) → slice_get m.sorts name ≡ Some (symbol.Defined number) → IsNumbered (λ (f : Function). f.symbol) m.functions number name
  pub own : (number : ℕ) (f : Function) → slice_get m.functions number ≡ Some f → HasNames f
