-- The operands that are addresses outside of a module.
use Rattle.std.specs.Prelude.{Bool, false}
use Rattle.ir_ast.specs.declared.module.Module.{Module}
use Rattle.ir_ast.specs.declared.operand.Operand.{Operand}
use Rattle.ir_ast.specs.declared.operand.Operand.TheVariants.{Global, CastGlobal}
use Rattle.types.specs.RuntimeCall.{is_outside}

-- an operand is an address outside: the name of something outside, or a constant bitcast of one
abbrev pub is_outside_operand : Module → Operand → Bool
is_outside_operand m (Global symbol) = is_outside m symbol
is_outside_operand m (CastGlobal from symbol to) = is_outside m symbol
is_outside_operand m _ = false
