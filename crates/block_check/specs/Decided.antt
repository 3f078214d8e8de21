-- What decides an edge of a branch.
use Rattle.std.specs.Prelude.{ℕ, Bool, Option, Some, None}
use Rattle.ir_ast.specs.declared.operand.Operand.{Operand}
use Rattle.ir_ast.specs.declared.operand.Operand.TheVariants.{Local}

-- the value of the condition, if it is one, with what it is on this edge
abbrev pub decided_by : Operand → (taken : Bool) → Option (ℕ × Bool)
decided_by (Local c) taken = Some (c, taken)
decided_by _ taken = None
