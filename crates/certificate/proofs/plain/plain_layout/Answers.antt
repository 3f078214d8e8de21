use Rattle.std.proofs.Common.{sym, ◌∙◌}
use Rattle.certificate.proofs.PlainNames.{plain_layout_read}
use Rattle.certificate.proofs.plain.plain_layout.Goals as goal

pub returns-then-is_plain_text : goal.returns-then-is_plain_text
returns-then-is_plain_text c = plain_layout_read c.args.word.now (sym c.is_plain_text.ensures ∙ c.if-is_plain_text.true)
