-- What is found of a function once.
use Rattle.std.specs.Prelude.{◌≡◌}
use Rattle.ir_ast.specs.declared.function.Function.{Function}
use Rattle.ir_ast.specs.declared.module.Module.{Module}
use Rattle.shadow_stack.specs.Slots.{slots_of}
use Rattle.block_check.specs.Predecessors.{ArePredecessors}
use Rattle.block_check.specs.PhiOperands.{AreOperandTables}
use Rattle.block_check.specs.declared.function_tables.FunctionTables.{FunctionTables}

-- its slots, its predecessors, and what comes in to its phis
pub record IsOf (m : Module) (f : Function) (tables : FunctionTables) : Type 0 where
  pub slots : tables.slots ≡ slots_of m f
  pub predecessors : ArePredecessors f tables.predecessors
  pub operands : AreOperandTables f f.blocks tables.operands.items
