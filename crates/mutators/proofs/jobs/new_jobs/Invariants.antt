use Rattle.std.proofs.Common.{◌≡◌, ◌+◌, length}
use Rattle.heap_table.specs.Opening.{AreNew}
use Rattle.program_runner.specs.Setups.{EachBefore}
use Rattle.mutators.specs.Faults.{MayStart}
use Rattle.mutators.specs.Jobs.{AreJobs}
use Rattle.mutators.proofs.jobs.new_jobs.Given as goal

-- n threads have their tokens, and each of them may begin
abbrev pub invariant-loop-number : goal.invariant-loop-number
invariant-loop-number l = record {
  starts : l.begun-items ≡ l.setup.starts;
  fresh : AreNew l.heap l.number l.tokens.items;
  rest : length l.tokens.items + l.number ≡ length l.setup.starts;
  count : length l.jobs.items ≡ l.number;
  jobs : AreJobs l.accepted.program l.setup l.heap l.jobs.items;
  begun : EachBefore (MayStart l.accepted.program l.accepted.certs.sections) l.setup.starts l.number;
}
