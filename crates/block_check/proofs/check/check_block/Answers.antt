use Rattle.block_check.specs.Exact.{certified_only, refused_only}
use Rattle.block_check.proofs.EntryFactsLists.{nothing_there}
use Rattle.block_check.proofs.check.check_block.Goals as goal

pub answer_block-requires-clause-rows : goal.answer_block-requires-clause-rows
answer_block-requires-clause-rows c = nothing_there c.args.program.now c.args.certs.now.sections c.args.func

pub returns-clause-certified : goal.returns-clause-certified
returns-clause-certified c = certified_only c.args.program.now c.args.certs.now.sections c.args.func c.args.block c.answer_block.result c.answer_block.ensures

pub returns-clause-refused : goal.returns-clause-refused
returns-clause-refused c = refused_only c.args.program.now c.args.certs.now.sections c.args.func c.args.block c.answer_block.result c.answer_block.ensures
