use Rattle.std.proofs.Common.{◌≡◌, ◌<◌, sym, ◌∙◌, refl, [], ◌∷◌, length, arith}
use Rattle.std.specs.Prelude.{None}
use Rattle.ir_tokens.specs.Bytes.{Text}
use Rattle.ir_tokens.specs.Keywords.{kind_in, keywords}
use Rattle.ir_tokens.proofs.Words.{no_keyword, row_of}
use Rattle.ir_tokens.proofs.keyword.keyword.Goals as goal

pub returns-else-is_lowercase : goal.returns-else-is_lowercase
returns-else-is_lowercase c = no_keyword c.args.word.now (sym c.is_lowercase.ensures ∙ c.if-is_lowercase.false)

empty : (word : Text) → length word < 1 → None ≡ kind_in keywords word
empty [] h = no_keyword [] refl
empty (b ∷ bs) h = absurd (omega arith)

pub returns-in-empty : goal.returns-in-empty
returns-in-empty c = empty c.args.word.now c.in-empty.len_below

pub returns-then-is_lowercase : goal.returns-then-is_lowercase
returns-then-is_lowercase c = c.kind_in_row.ensures ∙ row_of c.args.word.now (sym c.is_lowercase.ensures ∙ c.if-is_lowercase.true)
