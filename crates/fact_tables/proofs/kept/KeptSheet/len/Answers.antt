use Rattle.std.proofs.Common.{◌∙◌, ap, length, sym}
use Rattle.fact_tables.proofs.KeptRows.{length_among}
use Rattle.fact_tables.proofs.kept.KeptSheet.len.Goals as goal

pub returns : goal.returns
returns c = sym (length_among c.self.inside.count c.self.inside.rows.items) ∙ ap length c.self.view_is
