use Rattle.std.proofs.Common.{◌≡◌, ◌-◌, length}
use Rattle.fact_tables.specs.EachListed.{each_listed}
use Rattle.fact_tables.specs.Sheets.{blank, changed}
use Rattle.fact_tables.specs.Uses.{chain}
use Rattle.fact_tables.proofs.sweeps.sweep_uses.Given as goal

abbrev pub invariant-loop-step : goal.invariant-loop-step
invariant-loop-step l = each_listed blank (changed l.change) (chain (length l.uses) l.uses l.initial.at) l.fn.rows.items ≡ each_listed blank (changed l.change) (chain (length l.uses - l.step) l.uses l.at) l.rows.items
