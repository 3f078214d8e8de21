use Rattle.std.proofs.Common.{◌≡◌, drop}
use Rattle.fact_tables.specs.EachListed.{each_listed, copied}
use Rattle.fact_tables.specs.Sheets.{blank}
use Rattle.fact_tables.proofs.sweeps.copy.Given as goal

abbrev pub invariant-loop-v : goal.invariant-loop-v
invariant-loop-v l = each_listed blank (copied blank l.others) l.marked l.fn.rows.items ≡ each_listed blank (copied blank l.others) (drop l.v-index l.marked) l.rows.items
