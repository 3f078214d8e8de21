-- Modules in which each name is found as what it names.
use Rattle.std.specs.Prelude.{◌≡◌, ℕ, ◌^◌, ◌<◌, true, List, length, slice_get, Some, is_some, ◌⊎◌}
use Rattle.std.specs.List.{list_all}
use Rattle.ir_ast.specs.LocalKeys.{key_of_name, key_of_digits}
use Rattle.ir_ast.specs.Names.{place_of}
use Rattle.ir_ast.specs.declared.block.Block.{Block}
use Rattle.ir_ast.specs.declared.function.Function.{Function}
use Rattle.ir_ast.specs.declared.function.LocalSort.TheVariants as local
use Rattle.ir_ast.specs.declared.function.Parameter.{Parameter}
use Rattle.ir_ast.specs.declared.items_of_module.Global.{Global as AGlobal}
use Rattle.ir_ast.specs.declared.items_of_module.StructType.{StructType}
use Rattle.ir_ast.specs.declared.items_of_module.SymbolSort.TheVariants as sort
use Rattle.ir_ast.specs.declared.module.Module.{Module}
use Rattle.ir_tokens.specs.Bytes.{Text, is_digit}
use Rattle.name_text.specs.Readings.{IsShort}
use Rattle.name_text.specs.declared.blank.Blank.TheVariants as blank
use Rattle.types.specs.Globals.{global_named}
use Rattle.types.specs.RuntimeCall.{is_outside}
use Rattle.certs.specs.Fits.{is_value}
use Rattle.certs.specs.RootNames.{root_names}

-- each name of a table is such a name, and is found at its place
abbrev pub AreNames : List Text → Type 0
AreNames names = (number : ℕ) (name : Text) → slice_get names number ≡ Some name → IsShort blank.Kept name × (place_of name names ≡ Some number)

-- the key of such a name
abbrev pub IsNameKey : Text → Type 0
IsNameKey key = (name : Text) × (key ≡ key_of_name name) × IsShort blank.Kept name

-- the number of a value or a block without a name, without zeros before it, shorter than a text may be
abbrev pub IsNumberKey : Text → Type 0
IsNumberKey key = (0 < length key) × (list_all is_digit key ≡ true) × (key_of_digits key ≡ key) × (length key < 2 ^ 24)

-- each key of a table is the key of a name or a number, and is found at its place
abbrev pub AreKeys : List Text → Type 0
AreKeys keys = (number : ℕ) (key : Text) → slice_get keys number ≡ Some key → (IsNameKey key ⊎ IsNumberKey key) × (place_of key keys ≡ Some number)

-- the names of a function, and what they name
pub record IsNamedFunction (f : Function) : Type 0 where
  pub names : AreKeys f.locals
  pub values : (value : ℕ) → is_value f value ≡ true → value < length f.locals
  pub parameters : (place : ℕ) (parameter : Parameter) → slice_get f.parameters place ≡ Some parameter → parameter.value ≡ place
  pub labels : (number : ℕ) (block : Block) → slice_get f.blocks number ≡ Some block → (block.label < length f.locals) × (slice_get f.sorts block.label ≡ Some (local.Block number))

-- the names of a module, and what they name
pub record IsNamed (m : Module) : Type 0 where
  pub symbols : AreNames m.symbols
  pub globals : (symbol : ℕ) → is_some (global_named m symbol) ≡ true → symbol < length m.symbols
  pub outside : (symbol : ℕ) → is_outside m symbol ≡ true → symbol < length m.symbols
  pub structs : AreNames m.struct_names
  pub layouts : (layout name : ℕ) → slice_get m.struct_of name ≡ Some (Some layout) → (struct : StructType) × (slice_get m.structs layout ≡ Some struct) × (struct.name ≡ name) × (name < length m.struct_names)
  pub functions : (number : ℕ) (f : Function) → slice_get m.functions number ≡ Some f → (f.symbol < length m.symbols) × (slice_get m.sorts f.symbol ≡ Some (sort.Defined number)) × IsNamedFunction f

-- each global is what its name names
abbrev pub HasGlobals : Module → Type 0
HasGlobals m = (number : ℕ) (global : AGlobal) → slice_get m.globals number ≡ Some global → slice_get m.sorts global.symbol ≡ Some (sort.Global number)

-- each struct is what its name names
abbrev pub HasStructs : Module → Type 0
HasStructs m = (layout : ℕ) (struct : StructType) → slice_get m.structs layout ≡ Some struct → slice_get m.struct_of struct.name ≡ Some (Some layout)

-- each root slot's name is that of a value
abbrev pub HasRootValues : Module → Type 0
HasRootValues m = (function : ℕ) (f : Function) → slice_get m.functions function ≡ Some f → (slot : ℕ) → slice_get (root_names m f) slot ≡ Some true → is_value f slot ≡ true
