use Rattle.runs.specs.Machine.{machine_of}
use Rattle.serving.proofs.Endings.{may_answer, went_on, stays_at_call, stays_before}
use Rattle.serving.proofs.Results.{on_err}
use Rattle.serving.proofs.serving.go_on.Goals as goal

pub answer-requires : goal.answer-requires
answer-requires g c = (c.args.me.now.setup, may_answer (machine_of g.R.Machine.action g.R.Machine.after_answer g.R.Machine.roots) g.R.Runner.fits _ _ _ _ _ c.requires.may c.few_cells_law.ensures c.in_ok-answer.ensures.ok)

pub returns-in_err-answer-clause-err : goal.returns-in_err-answer-clause-err
returns-in_err-answer-clause-err g c = on_err c.from_residual.result (stays_before (machine_of g.R.Machine.action g.R.Machine.after_answer g.R.Machine.roots) g.R.Runner.fits _ _ _ _ c.requires.may c.in_err-answer.ensures.err)

pub returns-in_err-after-clause-err : goal.returns-in_err-after-clause-err
returns-in_err-after-clause-err g c = on_err c.from_residual-in_err-after.result (stays_at_call (machine_of g.R.Machine.action g.R.Machine.after_answer g.R.Machine.roots) _ _ _ _ _ c.in_ok-answer.ensures.ok)

pub returns-clause-ok : goal.returns-clause-ok
returns-clause-ok g c = went_on (machine_of g.R.Machine.action g.R.Machine.after_answer g.R.Machine.roots) g.R.Runner.fits _ _ _ _ _ _ (g.met.R.Runner.keeps_kinds c.args.me.now.setup c.args.machine.now c.requires.may.fits) c.in_ok-answer.ensures.ok c.in_ok-after.ensures.ok
