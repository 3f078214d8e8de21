use Rattle.std.proofs.Common.{◌≡◌, slice_get, Some}
use Rattle.block_check.proofs.EntryFactsLists.{entry_facts_there}
use Rattle.block_check.proofs.check.answer_block.Goals as goal

pub under_check-requires-clause-rows : goal.under_check-requires-clause-rows
under_check-requires-clause-rows c =
    let there : slice_get c.args.program.now.of_module.functions c.args.func ≡ Some c.function_of-function.result.now = cc in
    entry_facts_there c.args.program.now c.args.certs.now.sections c.args.func c.function_of-function.result.now c.args.rows.now there c.requires.rows
