use Rattle.std.proofs.Common.{◌≡◌, ◌≤◌, ◌+◌, drop, length}
use Rattle.std.specs.Prelude.{filter}
use Rattle.lowering.specs.Starts.{is_start}
use Rattle.lowering.proofs.starts.count_starts.Given as goal

abbrev pub invariant-loop-function : goal.invariant-loop-function
invariant-loop-function l =
    (l.count ≤ l.function-index) × (l.count + length (filter (is_start l.«module») (drop l.function-index l.functions)) ≡ length (filter (is_start l.«module») l.functions))
