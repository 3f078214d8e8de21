use Rattle.watched_threads.proofs.Beginnings.{job_of}
use Rattle.watched_threads.proofs.jobs.new_job.Goals as goal

pub returns : goal.returns
returns c heap same new =
    job_of c.args.given.program.now c.args.given.setup.now heap c.args.number c.args.me c.in_ok-me.me c.args.thread _ c.begun_law.ensures same c.requires.may c.requires.begun new c.in_ok-me.ensures
