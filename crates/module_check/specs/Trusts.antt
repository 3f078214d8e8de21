-- The functions outside of a module that its functions call.
use Rattle.std.specs.Prelude.{ℕ, Bool, true, false, ◌==◌, ◌&&◌, if◌then◌else◌, List, [], ◌∷◌, length, map, filter, replicate, slice_get, slice_set, unwrap_or}
use Rattle.std.specs.List.{list_any}
use Rattle.ir_ast.specs.declared.block.Block.{Block}
use Rattle.ir_ast.specs.declared.function.Function.{Function}
use Rattle.ir_ast.specs.declared.instr.Instr.{Instr}
use Rattle.ir_ast.specs.declared.items_of_module.Declare.{Declare}
use Rattle.ir_ast.specs.declared.module.Module.{Module}
use Rattle.ir_ast.specs.declared.op.Op.{Op}
use Rattle.ir_ast.specs.declared.op.Op.TheVariants.{Call}
use Rattle.types.specs.RuntimeCall.{is_outside}

-- an instruction calls the function of this name
abbrev pub op_calls : (symbol : ℕ) → Op → Bool
op_calls symbol (Call x) = x.callee == symbol
op_calls symbol _ = false

-- so does one of a block
abbrev pub block_calls : (symbol : ℕ) → Block → Bool
block_calls symbol block = list_any (λ instr. op_calls symbol instr.op) block.body

-- and of a function
abbrev pub function_calls : (symbol : ℕ) → Function → Bool
function_calls symbol f = list_any (block_calls symbol) f.blocks

-- and of a module
abbrev pub calls : Module → (symbol : ℕ) → Bool
calls m symbol = list_any (function_calls symbol) m.functions

-- the functions outside that the functions of a module call, in the order of their declares
abbrev pub outside_called : Module → List ℕ
outside_called m = filter (λ s. is_outside m s && calls m s) (map (λ d. d.symbol) m.declares)

-- what is trusted where each of them is: nothing where the wide forms may not stand
abbrev pub to_trust : Module → List ℕ
to_trust m = if m.wide then outside_called m else []

-- ---- in one pass

-- what an instruction calls is marked
abbrev pub mark_op : Op → (called : List Bool) → List Bool
mark_op (Call x) called = slice_set called x.callee true
mark_op _ called = called

-- so is what those of a block call
abbrev pub mark_body : List Instr → (called : List Bool) → List Bool
mark_body [] called = called
mark_body (instr ∷ body) called = mark_body body (mark_op instr.op called)

-- and those of blocks
abbrev pub mark_blocks : List Block → (called : List Bool) → List Bool
mark_blocks [] called = called
mark_blocks (block ∷ blocks) called = mark_blocks blocks (mark_body block.body called)

-- and those of functions
abbrev pub mark_functions : List Function → (called : List Bool) → List Bool
mark_functions [] called = called
mark_functions (f ∷ functions) called = mark_functions functions (mark_blocks f.blocks called)

-- a name is marked
abbrev pub is_marked : (called : List Bool) → (symbol : ℕ) → Bool
is_marked called symbol = unwrap_or (slice_get called symbol) false

-- what is called of a module
abbrev pub marked : Module → List Bool
marked m = mark_functions m.functions (replicate (length m.sorts) false)

-- a declare is of a function outside that is marked
abbrev pub is_marked_outside : Module → (called : List Bool) → (symbol : ℕ) → Bool
is_marked_outside m called symbol = is_outside m symbol && is_marked called symbol

-- the functions outside that are marked, of these declares
abbrev pub outside_marked : Module → (called : List Bool) → List Declare → List ℕ
outside_marked m called declares = filter (is_marked_outside m called) (map (λ (d : Declare). d.symbol) declares)
