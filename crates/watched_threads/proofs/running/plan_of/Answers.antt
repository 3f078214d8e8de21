use Rattle.mutators.proofs.Plans.{plan_is}
use Rattle.program_runner.specs.SetupHeaps.{few_words}
use Rattle.watched_threads.proofs.running.plan_of.Goals as goal

pub returns-clause-is : goal.returns-clause-is
returns-clause-is c = plan_is c.args.given.program.now c.args.given.setup.now c.len.ensures c.requires.late c.layouts.ensures.layouts c.globals.ensures c.requires.values

pub returns-clause-words : goal.returns-clause-words
returns-clause-words c = few_words c.args.given.program.now.of_module c.layouts.result.now c.layouts.ensures.laid_out
