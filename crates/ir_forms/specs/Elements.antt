-- getelementptr.
use Rattle.std.specs.Prelude.{ℕ}
use Rattle.grammar.specs.Grammar.{pure, ◌>>=◌, ◌>>◌}
use Rattle.ir_tokens.specs.declared.token.Kind.TheVariants as k
use Rattle.ir_ast.specs.declared.elements.Element.{Element}
use Rattle.ir_forms.specs.declared.site.Site.{Site}
use Rattle.ir_forms.specs.Input.{Form, expect}
use Rattle.ir_forms.specs.Names.{set_element}
use Rattle.ir_forms.specs.Written.{any_type}
use Rattle.ir_forms.specs.Decorations.{flagged_word}
use Rattle.ir_forms.specs.Lists.{indices}
use Rattle.ir_forms.specs.Memory.{place_of}

-- `getelementptr T, T* V, T W, ..`
unfoldable pub element : Site → ℕ → Form Element
element site value = do
  flagged_word
  whole ← any_type
  expect k.Comma
  base ← place_of whole
  xs ← indices
  set_element value site.block site.place
  pure (record { source = whole.id; base_type = base.written; base = base.operand; indices = xs })
