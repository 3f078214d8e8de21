use Rattle.std.proofs.Common.{◌≡◌, ◌++◌, drop, map}
use Rattle.fact_tables.specs.EachListed.{each_listed}
use Rattle.fact_tables.specs.Sheets.{blank, keep_row, class_of}
use Rattle.fact_tables.proofs.sweeps.keep_rows.Given as goal

abbrev pub invariant-loop-u : goal.invariant-loop-u
invariant-loop-u l = record {
  changed : each_listed blank (keep_row (map class_of l.fn.rows.items ++ l.added)) l.marked l.fn.rows.items ≡ each_listed blank (keep_row (map class_of l.fn.rows.items ++ l.added)) (drop l.u-index l.marked) l.rows.items;
  same : map class_of l.rows.items ≡ map class_of l.fn.rows.items;
}
