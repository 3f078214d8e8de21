use Rattle.std.proofs.Common.{◌≡◌, get_or, sym, ◌∙◌, rules, arith}
use Rattle.std.proofs.lemmas.Grind.{common_steps}
use Rattle.certificate.proofs.PlainNames.{signed_global}
use Rattle.certificate.proofs.plain.plain_global.Goals as goal

pub returns-then-is_plain_text : goal.returns-then-is_plain_text
returns-then-is_plain_text c =
    let first : get_or c.args.word.now 0 0 ≡ 64 = first_of (omega arith, search rules, grind (arith, common_steps)) in
    signed_global c.args.word.now (omega arith) first (sym c.is_plain_text.ensures ∙ c.if-is_plain_text.true)
