-- How getelementptr is lowered.
use Rattle.std.specs.Prelude.{ℕ, Bool, List, ◌∷◌, [], ◌++◌, Option, codes}
use Rattle.std.specs.List.{flat_map}
use Rattle.ir_ast.specs.declared.argument.Argument.{Argument}
use Rattle.ir_ast.specs.declared.elements.Element.{Element}
use Rattle.ir_ast.specs.declared.module.Module.{Module}
use Rattle.ir_tokens.specs.Bytes.{Text}
use Rattle.ir_print.specs.Elements.{element_word, index_text}
use Rattle.ir_print.specs.Instructions.{result_text}
use Rattle.ir_print.specs.Operands.{argument_text}
use Rattle.ir_print.specs.Parts.{typed}
use Rattle.lowering.specs.Types.{words_text}
use Rattle.lowering.specs.Words.{local_line}

-- `T, ptr V`, with T in words
abbrev pub based_text : Module → (locals : List Text) → (source : ℕ) → Argument → Text
based_text m locals source base = words_text m source ++ codes ", " ++ argument_text m locals base

-- a getelementptr in words
abbrev pub element_text : Module → (locals : List Text) → Element → Text
element_text m locals x = element_word ++ based_text m locals x.source (typed x.base_type x.base) ++ flat_map (index_text m locals) x.indices

-- the line of a getelementptr
abbrev pub element_line : (recorded : Bool) → Module → (locals : List Text) → (result : Option ℕ) → Element → Text
element_line recorded m locals result x = local_line recorded ++ codes "  " ++ result_text locals result ++ element_text m locals x ++ 10 ∷ []
