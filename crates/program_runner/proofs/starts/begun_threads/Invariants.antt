use Rattle.std.proofs.Common.{◌≡◌, map, take}
use Rattle.program_runner.specs.Setups.{MayBeginBefore, new_thread}
use Rattle.program_runner.proofs.starts.begun_threads.Given as goal

-- n threads have begun, and each of them may
abbrev pub invariant-loop-number : goal.invariant-loop-number
invariant-loop-number l =
    (l.begun-items ≡ l.setup.starts) × (l.threads.items ≡ map (new_thread l.program l.setup) (take l.number l.setup.starts)) × MayBeginBefore l.program l.setup.starts l.number
