use Rattle.machine.proofs.frames.after_end.Goals as goal

pub returns-in-ReturnVoid-clause-entered : goal.returns-in-ReturnVoid-clause-entered
returns-in-ReturnVoid-clause-entered c = c.leave_function.ensures.entered c.args.entered.now.tables c.requires.entered
