use Rattle.std.proofs.Common.{◌≡◌, ◌+◌, length}
use Rattle.heap_table.specs.Opening.{AreNew}
use Rattle.watched_threads.specs.Jobs.{AreJobs}
use Rattle.watched_threads.proofs.Beginnings.{AreFrom}
use Rattle.watched_threads.proofs.jobs.new_jobs.Given as goal

-- n threads have their tokens
abbrev pub invariant-loop-number : goal.invariant-loop-number
invariant-loop-number l = record {
  threads : AreFrom l.given.program.now l.given.setup.now l.number l.threads.items;
  some : length l.threads.items + l.number ≡ length l.given.setup.now.starts;
  fresh : AreNew l.heap l.number l.tokens.items;
  rest : length l.tokens.items + l.number ≡ length l.given.setup.now.starts;
  count : length l.jobs.items ≡ l.number;
  jobs : AreJobs l.given.program.now l.given.setup.now l.heap l.jobs.items;
}
