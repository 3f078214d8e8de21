-- The law is that of every machine whose states fit.
use Rattle.runs.specs.Machine.{machine_of}
use Rattle.stepping.proofs.BoundsOfThreads.{thread-grows}
use Rattle.stepping.proofs.Motions.{collector-grows}
use Rattle.stepping.proofs.growth_laws.growth_law.Goals as goal

pub returns-clause-threads : goal.returns-clause-threads
returns-clause-threads g c s starts run t thread_state h b =
    let m = machine_of g.M.Machine.action g.M.Machine.after_answer g.M.Machine.roots in
    thread-grows s m (g.M.Runner.fits s) (λ state fits. g.met.M.Runner.keeps_kinds s state fits) starts run t thread_state h (c.bounds_law.ensures s starts run b.is_run) b

pub returns-clause-collector : goal.returns-clause-collector
returns-clause-collector g c = collector-grows
