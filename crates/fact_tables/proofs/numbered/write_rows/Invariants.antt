use Rattle.std.proofs.Common.{◌≡◌, drop}
use Rattle.fact_tables.specs.Numbered.{written}
use Rattle.fact_tables.proofs.numbered.write_rows.Given as goal

abbrev pub invariant-loop-one : goal.invariant-loop-one
invariant-loop-one l = written l.fn.numbered l.fn.rows.items ≡ written (drop l.one-index l.fn.numbered) l.rows.items
