use Rattle.std.proofs.Common.{◌≡◌, ℕ, ◌<◌, List, map, get_or, refl, ap, ◌∙◌, arith}
use Rattle.std.proofs.lemmas.List.FromFn.{get_or-map-range_with_len}
use Rattle.std.specs.List.{range_with_len}
use Rattle.ir_tokens.specs.Bytes.{class_of}
use Rattle.ir_tokens.specs.declared.class.ByteClass.{ByteClass}
use Rattle.ir_tokens.specs.declared.class.ByteClass.TheVariants as k
use Rattle.ir_tokens.specs.declared.class.TheConstants.{CLASS}
use Rattle.ir_tokens.proofs.class.class_of.Goals as goal

-- the table holds the class of each byte
table_is : CLASS ≡ map class_of (range_with_len 0 256)
unfolding class_of
table_is = refl

class_at : (byte : ℕ) → byte < 256 → get_or CLASS byte k.End ≡ class_of byte
class_at byte h = ap (λ (table : List ByteClass). get_or table byte k.End) table_is ∙ get_or-map-range_with_len class_of 0 256 byte byte k.End h (omega arith)

pub returns : goal.returns
returns c = class_at c.args.byte (omega arith)
