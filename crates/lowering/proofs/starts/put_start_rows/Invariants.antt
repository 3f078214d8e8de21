use Rattle.std.proofs.Common.{◌≡◌, ◌≤◌, ◌++◌, drop}
use Rattle.std.specs.Prelude.{filter}
use Rattle.lowering.specs.Rows.{numbered}
use Rattle.lowering.specs.Starts.{is_start, start_row_at}
use Rattle.lowering.proofs.starts.put_start_rows.Given as goal

abbrev pub invariant-loop-function : goal.invariant-loop-function
invariant-loop-function l =
    (l.place ≤ l.function-index)
    × (l.out.items ++ numbered (start_row_at l.«module») l.place (filter (is_start l.«module») (drop l.function-index l.functions))
    ≡ l.fn.out.items ++ numbered (start_row_at l.«module») 0 (filter (is_start l.«module») l.functions))
