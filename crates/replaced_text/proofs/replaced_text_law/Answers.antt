use Rattle.replaced_text.proofs.Replaced.{replaced_printed}
use Rattle.replaced_text.proofs.replaced_text_law.Goals as goal

pub returns : goal.returns
returns c = replaced_printed c.grown_law.ensures c.replaced_law.ensures.alone
