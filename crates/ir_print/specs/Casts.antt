-- How bitcasts are printed.
use Rattle.std.specs.Prelude.{List, ◌++◌, codes}
use Rattle.ir_ast.specs.declared.casts.Cast.{Cast}
use Rattle.ir_ast.specs.declared.module.Module.{Module}
use Rattle.ir_tokens.specs.Bytes.{Text}
use Rattle.ir_print.specs.Parts.{typed, converted_text}

-- a bitcast
abbrev pub cast_text : Module → (locals : List Text) → Cast → Text
cast_text m locals x = codes "bitcast " ++ converted_text m locals (typed x.from x.operand) x.to
