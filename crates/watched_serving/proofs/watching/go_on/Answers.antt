use Rattle.std.proofs.lemmas.Result.{err_from_is_err_and}
use Rattle.runs.specs.Machine.{machine_of}
use Rattle.watched_serving.proofs.Endings.{may_answer, went_on, not_begun, not_answered}
use Rattle.watched_serving.proofs.watching.go_on.Goals as goal

pub answer-requires : goal.answer-requires
answer-requires g c = (c.args.me.now.setup, may_answer (machine_of g.R.Machine.action g.R.Machine.after_answer g.R.Machine.roots) g.R.Runner.fits _ _ _ _ _ c.requires.may c.few_cells_law.ensures c.in_ok-answer.ensures.ok)

pub returns-in_err-answer-clause-halted : goal.returns-in_err-answer-clause-halted
returns-in_err-answer-clause-halted g c =
    let p = err_from_is_err_and c.from_residual.result c.from_residual.ensures.1 in
    rw (p.1, p.2) (not_begun (machine_of g.R.Machine.action g.R.Machine.after_answer g.R.Machine.roots) g.R.Runner.fits _ _ _ _ _ c.requires.may c.in_err-answer.ensures.same c.in_err-answer.ensures.why)

pub returns-in_err-after-clause-halted : goal.returns-in_err-after-clause-halted
returns-in_err-after-clause-halted g c =
    let p = err_from_is_err_and c.from_residual-in_err-after.result c.from_residual-in_err-after.ensures.1 in
    rw p.1 (not_answered (machine_of g.R.Machine.action g.R.Machine.after_answer g.R.Machine.roots) _ _ _ _ _ _ c.in_ok-answer.ensures.ok p.2)

pub returns-clause-ok : goal.returns-clause-ok
returns-clause-ok g c = went_on (machine_of g.R.Machine.action g.R.Machine.after_answer g.R.Machine.roots) g.R.Runner.fits _ _ _ _ _ _ (g.met.R.Runner.keeps_kinds c.args.me.now.setup c.args.machine.now c.requires.may.fits) c.in_ok-answer.ensures.ok c.in_ok-after.ensures.ok
