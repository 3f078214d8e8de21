-- A module with opaque pointers in the place of its typed ones.
use Rattle.std.specs.Prelude.{ℕ, List, [], ◌∷◌, ◌++◌, map, Option, Some, None, option_map, slice_get, unwrap_or}
use Rattle.ir_ast.specs.declared.argument.Argument.{Argument}
use Rattle.ir_ast.specs.declared.block.Block.{Block}
use Rattle.ir_ast.specs.declared.calls.Call.{Call}
use Rattle.ir_ast.specs.declared.casts.Cast.{Cast}
use Rattle.ir_ast.specs.declared.choices.Choice.{Choice}
use Rattle.ir_ast.specs.declared.choices.Incoming.{Incoming}
use Rattle.ir_ast.specs.declared.choices.Phi.{Phi}
use Rattle.ir_ast.specs.declared.elements.Element.{Element}
use Rattle.ir_ast.specs.declared.ends.End.{End}
use Rattle.ir_ast.specs.declared.ends.End.TheVariants as end
use Rattle.ir_ast.specs.declared.floats.FloatOp.{FloatOp}
use Rattle.ir_ast.specs.declared.floats.FloatOp.TheVariants as float
use Rattle.ir_ast.specs.declared.function.Function.{Function}
use Rattle.ir_ast.specs.declared.function.LocalSort.{LocalSort}
use Rattle.ir_ast.specs.declared.function.LocalSort.TheVariants as sort
use Rattle.ir_ast.specs.declared.function.Parameter.{Parameter}
use Rattle.ir_ast.specs.declared.instr.Instr.{Instr}
use Rattle.ir_ast.specs.declared.ir_type.IrType.{IrType}
use Rattle.ir_ast.specs.declared.ir_type.IrType.TheVariants as type
use Rattle.ir_ast.specs.declared.items_of_module.Declare.{Declare}
use Rattle.ir_ast.specs.declared.items_of_module.Global.{Global}
use Rattle.ir_ast.specs.declared.items_of_module.StructType.{StructType}
use Rattle.ir_ast.specs.declared.memory.MemoryOp.{MemoryOp}
use Rattle.ir_ast.specs.declared.memory.MemoryOp.TheVariants as memory
use Rattle.ir_ast.specs.declared.module.Module.{Module}
use Rattle.ir_ast.specs.declared.numbers.NumberOp.{NumberOp}
use Rattle.ir_ast.specs.declared.numbers.NumberOp.TheVariants as number
use Rattle.ir_ast.specs.declared.op.Op.{Op}
use Rattle.ir_ast.specs.declared.op.Op.TheVariants as op
use Rattle.ir_ast.specs.declared.operand.Operand.{Operand}
use Rattle.ir_ast.specs.declared.operand.Operand.TheVariants as operand
use Rattle.ir_ast.specs.Types.{number_of_type, numbered_type}

-- ---- types

-- the number that a type gets; a number outside the table stays
abbrev pub new_number : (numbers : List ℕ) → (written : ℕ) → ℕ
new_number numbers written = unwrap_or (slice_get numbers written) written

-- a type whose parts have these new numbers: a pointer becomes `ptr`
abbrev pub opaque_type : (numbers : List ℕ) → IrType → IrType
opaque_type numbers type.Void = type.Void
opaque_type numbers (type.Integer bits) = type.Integer bits
opaque_type numbers type.Float = type.Float
opaque_type numbers type.Double = type.Double
opaque_type numbers (type.Pointer part) = type.Opaque
opaque_type numbers type.Opaque = type.Opaque
opaque_type numbers (type.Array length part) = type.Array length (new_number numbers part)
opaque_type numbers type.EmptyStruct = type.EmptyStruct
opaque_type numbers (type.Struct first rest) = type.Struct (new_number numbers first) (new_number numbers rest)
opaque_type numbers (type.Named name) = type.Named name

-- a table of types, and the number in it of each type of another table
pub record Renumbered : Type 0 where
  pub types : List IrType
  pub numbers : List ℕ

-- with one type more of the other table
abbrev pub with_type : IrType → Renumbered → Renumbered
with_type written r =
    let made = opaque_type r.numbers written in
    record { types = numbered_type made r.types; numbers = r.numbers ++ number_of_type made r.types ∷ [] }

-- with these types more, one after the other
abbrev pub with_types : List IrType → Renumbered → Renumbered
with_types [] r = r
with_types (written ∷ types) r = with_types types (with_type written r)

-- a whole table
abbrev pub opaque_types : List IrType → Renumbered
opaque_types types = with_types types (record { types = []; numbers = [] })

-- ---- what is written with types

-- a bitcast of a global is the global
abbrev pub opaque_operand : Operand → Operand
opaque_operand (operand.Constant c) = operand.Constant c
opaque_operand (operand.Local value) = operand.Local value
opaque_operand (operand.Global symbol) = operand.Global symbol
opaque_operand (operand.CastGlobal from symbol to) = operand.Global symbol

-- an entry of a phi
abbrev pub opaque_incoming : Incoming → Incoming
opaque_incoming x = record { operand = opaque_operand x.operand; from = x.from }

-- each of these is what it was, with the new numbers of its types
module _ (numbers : List ℕ) where
  abbrev pub opaque_argument : Argument → Argument
  opaque_argument x = record { written = new_number numbers x.written; operand = opaque_operand x.operand }

  abbrev pub opaque_float : FloatOp → FloatOp
  opaque_float (float.Arithmetic kind written first second) = float.Arithmetic kind (new_number numbers written) (opaque_operand first) (opaque_operand second)
  opaque_float (float.Negate written x) = float.Negate (new_number numbers written) (opaque_operand x)
  opaque_float (float.Compare kind written first second) = float.Compare kind (new_number numbers written) (opaque_operand first) (opaque_operand second)
  opaque_float (float.Convert kind from x to) = float.Convert kind (new_number numbers from) (opaque_operand x) (new_number numbers to)

  abbrev pub opaque_number : NumberOp → NumberOp
  opaque_number (number.Arithmetic kind written first second) = number.Arithmetic kind (new_number numbers written) (opaque_operand first) (opaque_operand second)
  opaque_number (number.Resize kind from x to) = number.Resize kind (new_number numbers from) (opaque_operand x) (new_number numbers to)
  opaque_number (number.Compare kind written first second) = number.Compare kind (new_number numbers written) (opaque_operand first) (opaque_operand second)
  opaque_number (number.Float x) = number.Float (opaque_float x)

  abbrev pub opaque_memory : MemoryOp → MemoryOp
  opaque_memory (memory.Alloca held) = memory.Alloca (new_number numbers held)
  opaque_memory (memory.Buffer held count) = memory.Buffer (new_number numbers held) (option_map opaque_argument count)
  opaque_memory (memory.Load loaded place_type place) = memory.Load (new_number numbers loaded) (new_number numbers place_type) (opaque_operand place)
  opaque_memory (memory.Store stored value place_type place) = memory.Store (new_number numbers stored) (opaque_operand value) (new_number numbers place_type) (opaque_operand place)

  abbrev pub opaque_element : Element → Element
  opaque_element x = record { source = new_number numbers x.source; base_type = new_number numbers x.base_type; base = opaque_operand x.base; indices = map opaque_argument x.indices }

  abbrev pub opaque_cast : Cast → Cast
  opaque_cast x = record { from = new_number numbers x.from; operand = opaque_operand x.operand; to = new_number numbers x.to }

  abbrev pub opaque_choice : Choice → Choice
  opaque_choice x = record {
    condition_type = new_number numbers x.condition_type;
    condition = opaque_operand x.condition;
    written = new_number numbers x.written;
    chosen = opaque_operand x.chosen;
    other = opaque_operand x.other;
  }

  abbrev pub opaque_call : Call → Call
  opaque_call x = record { returned = new_number numbers x.returned; callee = x.callee; arguments = map opaque_argument x.arguments }

  abbrev pub opaque_op : Op → Op
  opaque_op (op.Number x) = op.Number (opaque_number x)
  opaque_op (op.Memory x) = op.Memory (opaque_memory x)
  opaque_op (op.Element x) = op.Element (opaque_element x)
  opaque_op (op.Cast x) = op.Cast (opaque_cast x)
  opaque_op (op.Choice x) = op.Choice (opaque_choice x)
  opaque_op (op.Call x) = op.Call (opaque_call x)

  abbrev pub opaque_instr : Instr → Instr
  opaque_instr x = record { result = x.result; op = opaque_op x.op }

  abbrev pub opaque_phi : Phi → Phi
  opaque_phi x = record { value = x.value; written = new_number numbers x.written; incoming = map opaque_incoming x.incoming }

  abbrev pub opaque_end : End → End
  opaque_end (end.Jump target) = end.Jump target
  opaque_end (end.Branch condition_type condition taken other) = end.Branch (new_number numbers condition_type) (opaque_operand condition) taken other
  opaque_end (end.Switch written value otherwise cases) = end.Switch (new_number numbers written) (opaque_operand value) otherwise cases
  opaque_end end.Unreachable = end.Unreachable
  opaque_end end.ReturnVoid = end.ReturnVoid
  opaque_end (end.Return x) = end.Return (opaque_argument x)

  abbrev pub opaque_block : Block → Block
  opaque_block x = record { label = x.label; phis = map opaque_phi x.phis; body = map opaque_instr x.body; end = opaque_end x.end }

  abbrev pub opaque_parameter : Parameter → Parameter
  opaque_parameter x = record { written = new_number numbers x.written; value = x.value }

  abbrev pub opaque_sort : LocalSort → LocalSort
  opaque_sort sort.Unknown = sort.Unknown
  opaque_sort (sort.Value written) = sort.Value (new_number numbers written)
  opaque_sort (sort.Slot held) = sort.Slot (new_number numbers held)
  opaque_sort (sort.Element block place) = sort.Element block place
  opaque_sort (sort.Block block) = sort.Block block

  abbrev pub opaque_function : Function → Function
  opaque_function x = record {
    symbol = x.symbol;
    returned = new_number numbers x.returned;
    parameters = map opaque_parameter x.parameters;
    collector = x.collector;
    locals = x.locals;
    sorts = map opaque_sort x.sorts;
    blocks = map opaque_block x.blocks;
  }

  abbrev pub opaque_struct : StructType → StructType
  opaque_struct x = record { name = x.name; body = new_number numbers x.body }

  abbrev pub opaque_global : Global → Global
  opaque_global x = record { symbol = x.symbol; is_constant = x.is_constant; held = new_number numbers x.held; initial = x.initial }

  abbrev pub opaque_declare : Declare → Declare
  opaque_declare x = record { symbol = x.symbol; runtime = x.runtime; returned = new_number numbers x.returned; parameters = map (new_number numbers) x.parameters }

-- ---- a module

-- each pointer type is `ptr`, each bitcast of a global is the global, and all else is as it was
abbrev pub opaque_module : Module → Module
opaque_module m =
    let r = opaque_types m.types in
    record m {
      types = r.types;
      structs = map (opaque_struct r.numbers) m.structs;
      globals = map (opaque_global r.numbers) m.globals;
      declares = map (opaque_declare r.numbers) m.declares;
      functions = map (opaque_function r.numbers) m.functions;
    }
