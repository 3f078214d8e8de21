use Rattle.std.proofs.Common.{◌∙◌}
use Rattle.block_check.proofs.RecordedEntries.{recorded_is}
use Rattle.block_check.proofs.phis.operand_from.Goals as goal

pub returns : goal.returns
returns c = c.recorded_from.ensures ∙ recorded_is c.args.under_check.now c.requires c.args.to c.args.place c.args.from
