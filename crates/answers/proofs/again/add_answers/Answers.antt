use Rattle.std.specs.Option.{option_copied}
use Rattle.answers.proofs.Rows.{if_kept}
use Rattle.answers.proofs.again.add_answers.Goals as goal

pub answer_to-requires-clause-rows : goal.answer_to-requires-clause-rows
answer_to-requires-clause-rows c = if_kept c.args.program.now c.args.certs.now.sections _ c.args.kept.now (option_copied c.get.result) c.get.ensures c.requires.kept
