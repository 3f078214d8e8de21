use Rattle.std.proofs.Common.{◌≡◌, drop}
use Rattle.fact_tables.specs.EachListed.{each_listed}
use Rattle.fact_tables.specs.Sheets.{blank, changed}
use Rattle.fact_tables.proofs.sweeps.sweep.Given as goal

abbrev pub invariant-loop-u : goal.invariant-loop-u
invariant-loop-u l = each_listed blank (changed l.change) l.marked l.fn.rows.items ≡ each_listed blank (changed l.change) (drop l.u-index l.marked) l.rows.items
