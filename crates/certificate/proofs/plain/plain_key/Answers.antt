use Rattle.std.proofs.Common.{◌≡◌, get_or, Some, sym, ap, ◌∙◌, rules, arith}
use Rattle.std.proofs.lemmas.Grind.{common_steps}
use Rattle.ir_tokens.specs.Bytes.{Text}
use Rattle.certificate.proofs.PlainNames.{signed_key, signed_number}
use Rattle.certificate.proofs.plain.plain_key.Goals as goal

pub returns-then-is_plain_text : goal.returns-then-is_plain_text
returns-then-is_plain_text c =
    let first : get_or c.args.word.now 0 0 ≡ 37 = first_of (omega arith, search rules, grind (arith, common_steps)) in
    signed_key c.args.word.now (omega arith) first (sym c.is_plain_text.ensures ∙ c.if-is_plain_text.true)

pub returns-then-is_number_text : goal.returns-then-is_number_text
returns-then-is_number_text c =
    let first : get_or c.args.word.now 0 0 ≡ 37 = first_of (omega arith, search rules, grind (arith, common_steps)) in
    signed_number c.args.word.now (omega arith) first (sym c.is_number_text.ensures ∙ c.if-is_number_text.true)
    ∙ ap (λ (key : Text). Some key) (sym c.key_of_digits.ensures)
