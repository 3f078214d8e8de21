-- One cell more, up to the last one.
use Rattle.std.proofs.Common.{◌≡◌, ◌+◌, List, sym, ap, ◌∙◌, subst, arith}
use Rattle.pools.specs.Heap.{cells, cells_in}
use Rattle.runs.specs.Machine.{WordValue}
use Rattle.stepping.specs.Starts.{AreRowsAtStart}
use Rattle.stepping.proofs.Beginnings.{no-rows, rows-more}
use Rattle.stepping.proofs.beginning.rows_at_start.Goals as goal

pub loop-cell-init : goal.loop-cell-init
loop-cell-init c s schema setup values = subst (λ (rows : List (List WordValue)). AreRowsAtStart s 0 rows) (sym c.new-rows.ensures) (no-rows s)

pub loop-cell-preserved : goal.loop-cell-preserved
loop-cell-preserved c s schema setup values =
    subst (λ (rows : List (List WordValue)). AreRowsAtStart s (c.loop-cell.cell + 1) rows) (sym c.in_ok-push.ensures.ok)
    (rows-more s c.loop-cell.cell c.loop-cell.rows c.in_ok-row_at_start.field-0 (c.loop-cell.invariant s schema setup values) (c.in_ok-row_at_start.ensures s schema setup values))

pub returns : goal.returns
returns c s schema setup values =
    let last : c.loop-cell.cell ≡ c.cells-cell-end.result = omega (arith, c.loop-cell-test.false) in
    let all : c.loop-cell.cell ≡ cells s = last ∙ c.cells-cell-end.ensures.cells ∙ sym (ap cells_in schema.pools) in
    subst (λ n. AreRowsAtStart s n c.loop-cell.rows) all (c.loop-cell.invariant s schema setup values)
