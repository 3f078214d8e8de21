use Rattle.fact_tables.proofs.Changes.{blank_facts}
use Rattle.fact_tables.proofs.values.Values.resize.Goals as goal

pub returns-clause-ok : goal.returns-clause-ok
returns-clause-ok c = blank_facts c.args.count c.resize.new.self c.clear.new.self.items c.in_ok-resize.ensures.ok c.clear.ensures.items
