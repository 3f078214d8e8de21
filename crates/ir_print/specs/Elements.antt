-- How getelementptr is printed.
use Rattle.std.specs.Prelude.{List, ◌++◌, codes}
use Rattle.std.specs.List.{flat_map}
use Rattle.ir_ast.specs.declared.argument.Argument.{Argument}
use Rattle.ir_ast.specs.declared.elements.Element.{Element}
use Rattle.ir_ast.specs.declared.module.Module.{Module}
use Rattle.ir_tokens.specs.Bytes.{Text}
use Rattle.ir_print.specs.Operands.{argument_text}
use Rattle.ir_print.specs.Parts.{typed, placed_text}

-- `, T V`, an index
abbrev pub index_text : Module → (locals : List Text) → Argument → Text
index_text m locals x = codes ", " ++ argument_text m locals x

-- the word of a getelementptr
unfoldable pub element_word : Text
element_word = codes "getelementptr "

-- a getelementptr
abbrev pub element_text : Module → (locals : List Text) → Element → Text
element_text m locals x = element_word ++ placed_text m locals x.source (typed x.base_type x.base) ++ flat_map (index_text m locals) x.indices
