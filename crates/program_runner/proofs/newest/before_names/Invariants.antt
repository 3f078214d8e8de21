use Rattle.std.proofs.Common.{◌≡◌, map, take}
use Rattle.program_safety.specs.Threads.{reference_in}
use Rattle.program_runner.proofs.newest.before_names.Given as goal

abbrev pub invariant-loop-place : goal.invariant-loop-place
invariant-loop-place l = take l.place l.last ≡ map reference_in (take l.place l.own)
