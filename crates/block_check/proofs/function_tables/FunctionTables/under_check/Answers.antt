use Rattle.std.proofs.Common.{◌∙◌}
use Rattle.block_check.proofs.EntryFactsLists.{entry_facts_seen}
use Rattle.block_check.proofs.function_tables.FunctionTables.under_check.Goals as goal

pub returns-clause-ready : goal.returns-clause-ready
returns-clause-ready c = record {
  there = c.requires.there;
  slots = c.requires.slots ∙ c.requires.of.slots;
  predecessors = c.requires.of.predecessors;
  operands = rw c.as_slice.ensures.value c.requires.of.operands;
  rows = entry_facts_seen c.args.context.program.now c.args.context.certs.now.sections c.args.func c.args.context.function.now c.args.context.slots.now c.args.rows.now (c.requires.slots ∙ c.requires.of.slots) c.requires.rows;
}
