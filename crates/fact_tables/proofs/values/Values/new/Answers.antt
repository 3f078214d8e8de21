use Rattle.fact_tables.proofs.Changes.{blank_facts}
use Rattle.fact_tables.proofs.values.Values.new.Goals as goal

pub returns : goal.returns
returns c = blank_facts c.args.count c.in_ok-sheet.sheet c.new-2.result.items c.in_ok-sheet.ensures c.new-2.ensures.items
