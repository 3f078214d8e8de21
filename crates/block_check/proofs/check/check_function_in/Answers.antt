use Rattle.block_rules.specs.Functions.{blocks_in}
use Rattle.block_check.specs.Exact.{function_certified_only, function_refused_only}
use Rattle.block_check.proofs.EntryFactsLists.{nothing_there}
use Rattle.block_check.proofs.check.check_function_in.Goals as goal

pub answer_function-requires-clause-rows : goal.answer_function-requires-clause-rows
answer_function-requires-clause-rows c = nothing_there c.args.program.now c.args.certs.now.sections c.args.func

pub returns-clause-certified : goal.returns-clause-certified
returns-clause-certified c = function_certified_only c.args.program.now c.args.certs.now.sections c.args.func (blocks_in c.args.program.now c.args.func) c.answer_function.result c.answer_function.ensures

pub returns-clause-refused : goal.returns-clause-refused
returns-clause-refused c = function_refused_only c.args.program.now c.args.certs.now.sections c.args.func (blocks_in c.args.program.now c.args.func) c.answer_function.result c.answer_function.ensures
