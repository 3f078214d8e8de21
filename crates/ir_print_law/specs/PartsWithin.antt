-- Numbers within the tables of a module and of one of its functions: names, types, operands, and parts of instructions of several families.
use Rattle.std.specs.Prelude.{◌≡◌, ℕ, ◌<◌, List, length, Option, Some, None, ◌⊎◌, slice_get}
use Rattle.ir_ast.specs.declared.argument.Argument.{Argument}
use Rattle.ir_ast.specs.declared.function.Function.{Function}
use Rattle.ir_ast.specs.declared.function.LocalSort.{LocalSort}
use Rattle.ir_ast.specs.declared.function.LocalSort.TheVariants as local
use Rattle.ir_ast.specs.declared.items_of_module.SymbolSort.TheVariants as sort
use Rattle.ir_ast.specs.declared.module.Module.{Module}
use Rattle.ir_ast.specs.declared.operand.Operand.{Operand}
use Rattle.ir_ast.specs.declared.operand.Operand.TheVariants as operand

-- ---- numbers

-- the table of types has this number
abbrev pub HasType : Module → (written : ℕ) → Type 0
HasType m written = written < length m.types

-- the table of names of structs has it
abbrev pub HasStructName : Module → (name : ℕ) → Type 0
HasStructName m name = name < length m.struct_names

-- the table of global names has it
abbrev pub HasSymbol : Module → (symbol : ℕ) → Type 0
HasSymbol m symbol = symbol < length m.symbols

-- it is the name of a global that the module has
abbrev pub HasGlobal : Module → (symbol : ℕ) → Type 0
HasGlobal m symbol = HasSymbol m symbol × ((number : ℕ) × (slice_get m.sorts symbol ≡ Some (sort.Global number)) × (number < length m.globals))

-- it is the name of a function that the module declares or defines
abbrev pub HasFunction : Module → (symbol : ℕ) → Type 0
HasFunction m symbol =
    HasSymbol m symbol
    × (((number : ℕ) × (slice_get m.sorts symbol ≡ Some (sort.Declared number)) × (number < length m.declares))
    ⊎ ((number : ℕ) × (slice_get m.sorts symbol ≡ Some (sort.Defined number)) × (number < length m.functions)))

-- it is the name of a global, or of a function
abbrev pub HasAddress : Module → (symbol : ℕ) → Type 0
HasAddress m symbol = HasGlobal m symbol ⊎ HasFunction m symbol

-- the table of local names has it
abbrev pub HasLocal : Function → (value : ℕ) → Type 0
HasLocal f value = value < length f.locals

-- what a local name stands for is a value
abbrev pub IsOfValue : Option LocalSort → Type 0
IsOfValue (Some (local.Value t)) = Unit {0}
IsOfValue (Some (local.Slot held)) = Unit {0}
IsOfValue (Some (local.Element block place)) = Unit {0}
IsOfValue _ = ⊥

-- what each slot holds, by these sorts of local names, is one of this number of types
abbrev pub AreSlotsBelow : (count : ℕ) → List LocalSort → Type 0
AreSlotsBelow count sorts = (value held : ℕ) → slice_get sorts value ≡ Some (local.Slot held) → held < count

-- it is the local name of a value
abbrev pub HasValue : Function → (value : ℕ) → Type 0
HasValue f value = HasLocal f value × IsOfValue (slice_get f.sorts value)

-- it is the local name of a block that the function has
abbrev pub HasBlock : Function → (label : ℕ) → Type 0
HasBlock f label = HasLocal f label × ((block : ℕ) × (slice_get f.sorts label ≡ Some (local.Block block)) × (block < length f.blocks))

-- it is that of a block that may be branched to: any but the entry
abbrev pub HasTarget : Function → (label : ℕ) → Type 0
HasTarget f label =
    HasLocal f label × ((block : ℕ) × (slice_get f.sorts label ≡ Some (local.Block block)) × (0 < block) × (block < length f.blocks))

-- the number of the value that is given, if one is
abbrev pub HasResult : Function → Option ℕ → Type 0
HasResult f None = Unit {0}
HasResult f (Some value) = HasValue f value

-- ---- operands

-- what an instruction of this function reads
abbrev pub IsOperandWithin : Module → Function → Operand → Type 0
IsOperandWithin m f (operand.Constant x) = Unit {0}
IsOperandWithin m f (operand.Local value) = HasValue f value
IsOperandWithin m f (operand.Global symbol) = HasAddress m symbol
IsOperandWithin m f (operand.CastGlobal from symbol to) = HasType m from × HasAddress m symbol × HasType m to

-- an operand with its type
abbrev pub IsArgumentWithin : Module → Function → Argument → Type 0
IsArgumentWithin m f x = HasType m x.written × IsOperandWithin m f x.operand

-- two operands of one type
abbrev pub ArePairWithin : Module → Function → (written : ℕ) → (first second : Operand) → Type 0
ArePairWithin m f written first second = HasType m written × IsOperandWithin m f first × IsOperandWithin m f second

-- an operand and another type for it
abbrev pub IsConvertedWithin : Module → Function → (from : ℕ) → Operand → (to : ℕ) → Type 0
IsConvertedWithin m f from x to = HasType m from × IsOperandWithin m f x × HasType m to
