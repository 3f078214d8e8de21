-- Bitcasts, and values under other names.
use Rattle.std.specs.Prelude.{ℕ, Bool, ◌&&◌, codes}
use Rattle.std.specs.Str.{bytes_eq}
use Rattle.grammar.specs.Grammar.{pure, ◌>>=◌, ◌>>◌}
use Rattle.ir_tokens.specs.declared.token.Kind.TheVariants as k
use Rattle.ir_ast.specs.declared.casts.Cast.{Cast}
use Rattle.ir_forms.specs.Cursor.{spelling}
use Rattle.ir_forms.specs.declared.input.Input.{Input}
use Rattle.ir_forms.specs.Input.{Form, skip, expect}
use Rattle.ir_forms.specs.Names.{set_type}
use Rattle.ir_forms.specs.Written.{scalar}
use Rattle.ir_forms.specs.Lists.{typed}

-- `bitcast T V to U`
unfoldable pub bitcast : ℕ → Form Cast
bitcast value = do
  skip
  from ← typed
  expect k.To
  to ← scalar
  set_type value to.id
  pure (record { from = from.written; operand = from.operand; to = to.id })

-- the next token is the word `freeze`, where the wide forms may stand
unfoldable pub freezes : Input → Bool
freezes i = i.wide && bytes_eq (spelling i.cursor) (codes "freeze")

-- `freeze T V`: the value under another name
unfoldable pub freeze : ℕ → Form Cast
freeze value = do
  skip
  x ← typed
  set_type value x.written
  pure (record { from = x.written; operand = x.operand; to = x.written })
