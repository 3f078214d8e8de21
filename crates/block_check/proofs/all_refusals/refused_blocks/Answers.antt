use Rattle.std.proofs.Common.{slice_get}
use Rattle.block_rules.specs.Certified.{context_of}
use Rattle.block_check.proofs.EntryFactsLists.{no_entry_facts}
use Rattle.block_check.proofs.all_refusals.refused_blocks.Goals as goal

pub under_check-requires-clause-rows : goal.under_check-requires-clause-rows
under_check-requires-clause-rows c = no_entry_facts (context_of c.args.program.now c.args.certs.now.sections c.function_of-function.result.now (slice_get c.args.certs.now.sections c.args.func))
