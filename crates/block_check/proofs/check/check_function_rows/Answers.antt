use Rattle.std.proofs.Common.{List, subst, sym}
use Rattle.facts.specs.Facts.{FactSet}
use Rattle.block_rules.specs.Functions.{blocks_in}
use Rattle.block_check.specs.Exact.{function_certified_only, function_refused_only}
use Rattle.block_check.specs.Rows.{AreEntryFactsOf}
use Rattle.block_check.proofs.EntryFactsLists.{entry_facts_of_rows}
use Rattle.block_check.proofs.check.check_function_rows.Goals as goal

pub answer_function-answer-requires-clause-rows : goal.answer_function-answer-requires-clause-rows
answer_function-answer-requires-clause-rows c =
    let entry_facts : AreEntryFactsOf c.args.program.now c.args.certs.now.sections c.args.func c.args.rows.now = entry_facts_of_rows c.args.program.now c.args.certs.now.sections c.args.func c.args.rows.now c.requires.rows in
    subst (λ (l : List FactSet). AreEntryFactsOf c.args.program.now c.args.certs.now.sections c.args.func l) (sym c.blocks-2.ensures) entry_facts

pub returns-clause-certified : goal.returns-clause-certified
returns-clause-certified c = function_certified_only c.args.program.now c.args.certs.now.sections c.args.func (blocks_in c.args.program.now c.args.func) c.answer_function-answer.result c.answer_function-answer.ensures

pub returns-clause-refused : goal.returns-clause-refused
returns-clause-refused c = function_refused_only c.args.program.now c.args.certs.now.sections c.args.func (blocks_in c.args.program.now c.args.func) c.answer_function-answer.result c.answer_function-answer.ensures
