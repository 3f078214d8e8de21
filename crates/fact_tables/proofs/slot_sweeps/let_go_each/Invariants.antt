use Rattle.std.proofs.Common.{◌≡◌, ◌-◌, length}
use Rattle.fact_tables.specs.EachListed.{each_listed}
use Rattle.fact_tables.specs.Rows.{open_slot, let_go}
use Rattle.fact_tables.specs.Uses.{chain}
use Rattle.fact_tables.proofs.slot_sweeps.let_go_each.Given as goal

abbrev pub invariant-loop-step : goal.invariant-loop-step
invariant-loop-step l = each_listed open_slot (λ s. let_go l.c l.nonnull) (chain (length l.keepers.links.items) l.keepers.links.items l.initial.at) l.fn.slots.items ≡ each_listed open_slot (λ s. let_go l.c l.nonnull) (chain (length l.keepers.links.items - l.step) l.keepers.links.items l.at) l.slots.items
