use Rattle.std.proofs.Common.{◌≡◌, ◌++◌, drop}
use Rattle.lowering.specs.Tables.{global_row_at}
use Rattle.lowering.specs.Rows.{numbered}
use Rattle.lowering.proofs.tables.put_global_rows.Given as goal

abbrev pub invariant-loop-global : goal.invariant-loop-global
invariant-loop-global l = (l.place ≡ l.global-index) × (l.out.items ++ numbered (global_row_at l.«module») l.place (drop l.global-index l.globals) ≡ l.fn.out.items ++ numbered (global_row_at l.«module») 0 l.globals)
