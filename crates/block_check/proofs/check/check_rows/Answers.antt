use Rattle.std.proofs.Common.{List, subst, sym}
use Rattle.facts.specs.Facts.{FactSet}
use Rattle.block_check.specs.Exact.{certified_only, refused_only}
use Rattle.block_check.specs.Rows.{AreEntryFactsOf}
use Rattle.block_check.proofs.EntryFactsLists.{entry_facts_of_rows}
use Rattle.block_check.proofs.check.check_rows.Goals as goal

pub answer_block-requires-clause-rows : goal.answer_block-requires-clause-rows
answer_block-requires-clause-rows c =
    let entry_facts : AreEntryFactsOf c.args.program.now c.args.certs.now.sections c.args.func c.args.rows.now = entry_facts_of_rows c.args.program.now c.args.certs.now.sections c.args.func c.args.rows.now c.requires.rows in
    subst (λ (l : List FactSet). AreEntryFactsOf c.args.program.now c.args.certs.now.sections c.args.func l) (sym c.blocks-2.ensures) entry_facts

pub returns-clause-certified : goal.returns-clause-certified
returns-clause-certified c = certified_only c.args.program.now c.args.certs.now.sections c.args.func c.args.block c.answer_block.result c.answer_block.ensures

pub returns-clause-refused : goal.returns-clause-refused
returns-clause-refused c = refused_only c.args.program.now c.args.certs.now.sections c.args.func c.args.block c.answer_block.result c.answer_block.ensures
