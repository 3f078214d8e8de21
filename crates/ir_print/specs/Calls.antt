-- How calls are printed.
use Rattle.std.specs.Prelude.{List, [], ◌∷◌, ◌++◌, codes}
use Rattle.ir_ast.specs.declared.calls.Call.{Call}
use Rattle.ir_ast.specs.declared.module.Module.{Module}
use Rattle.ir_tokens.specs.Bytes.{Text}
use Rattle.ir_print.specs.Names.{global_text}
use Rattle.ir_print.specs.Types.{type_text}
use Rattle.ir_print.specs.Operands.{argument_text, listed}

-- a call
abbrev pub call_text : Module → (locals : List Text) → Call → Text
call_text m locals x = codes "call " ++ type_text m x.returned ++ 32 ∷ global_text m x.callee ++ 40 ∷ listed (argument_text m locals) x.arguments ++ 41 ∷ []
