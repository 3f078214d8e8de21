-- How numbers of layouts are printed.
use Rattle.std.specs.Prelude.{List, [], ◌∷◌, ◌++◌, codes}
use Rattle.std.specs.List.{flat_map}
use Rattle.std.specs.Fmt.{decimal}
use Rattle.ir_ast.specs.declared.module.Module.{Module}
use Rattle.ir_ast.specs.declared.outside.LayoutNumber.{LayoutNumber}
use Rattle.ir_tokens.specs.Bytes.{Text}
use Rattle.certificate.specs.NameTexts.{layout_text}

-- the line of one
abbrev pub number_line_text : Module → LayoutNumber → Text
number_line_text m line = codes "number " ++ (layout_text m line.layout ++ 32 ∷ (decimal line.number ++ 10 ∷ []))

-- the lines of these, in their order
abbrev pub numbers_text : Module → List LayoutNumber → Text
numbers_text m lines = flat_map (number_line_text m) lines
