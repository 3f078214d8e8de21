use Rattle.std.proofs.Common.{◌∙◌}
use Rattle.block_check.proofs.RecordedEntries.{entries_are}
use Rattle.block_check.proofs.entries.are_entries.Goals as goal

pub returns : goal.returns
returns c =
    c.are_recorded.ensures
    ∙ entries_are c.args.under_check.now c.args.to c.args.place c.args.incoming.now c.requires.ready c.requires.within c.requires.at
