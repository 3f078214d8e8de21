-- How functions outside that are trusted are printed.
use Rattle.std.specs.Prelude.{ℕ, List, [], ◌∷◌, ◌++◌, codes}
use Rattle.std.specs.List.{flat_map}
use Rattle.ir_ast.specs.declared.module.Module.{Module}
use Rattle.ir_tokens.specs.Bytes.{Text}
use Rattle.certificate.specs.NameTexts.{global_text}

-- the line of one
abbrev pub foreign_line_text : Module → (symbol : ℕ) → Text
foreign_line_text m symbol = codes "foreign " ++ (global_text m symbol ++ (codes " none" ++ 10 ∷ []))

-- the lines of these, in their order
abbrev pub foreign_text : Module → List ℕ → Text
foreign_text m symbols = flat_map (foreign_line_text m) symbols
