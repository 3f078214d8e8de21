-- The function that is checked, as the definitions see it.
use Rattle.std.specs.Prelude.{◌≡◌, slice_get, Some}
use Rattle.shadow_stack.specs.Slots.{slots_of}
use Rattle.block_rules.specs.Edges.{RuleContext}
use Rattle.block_check.specs.Rows.{AreEntryFacts}
use Rattle.block_check.specs.Predecessors.{ArePredecessors}
use Rattle.block_check.specs.PhiOperands.{AreOperandTables}
use Rattle.block_check.specs.declared.under_check.FunctionUnderCheck.{FunctionUnderCheck}

-- the function with its slots and its certificate
abbrev pub seen : FunctionUnderCheck → RuleContext
seen s = record { program = s.context.program.now; certs = s.context.certs.now.sections; function = s.context.function.now; slots = s.context.slots.now; section = slice_get s.context.certs.now.sections s.func }

-- what is found of a function once is right: it is the one with its number, with its slots. Its predecessors are listed, what comes in to its phis is recorded, and what was found before is what its first blocks begin with
pub record IsReady (s : FunctionUnderCheck) : Type 0 where
  pub there : slice_get s.context.program.now.of_module.functions s.func ≡ Some s.context.function.now
  pub slots : s.context.slots.now ≡ slots_of s.context.program.now.of_module s.context.function.now
  pub predecessors : ArePredecessors s.context.function.now s.predecessors.now
  pub operands : AreOperandTables s.context.function.now s.context.function.now.blocks s.operands.now
  pub rows : AreEntryFacts (seen s) s.rows.now
