use Rattle.std.proofs.Common.{◌≡◌, ◌-◌, length}
use Rattle.std.specs.List.{list_all}
use Rattle.fact_tables.specs.SlotRows.{covers_at}
use Rattle.fact_tables.specs.Uses.{chain}
use Rattle.fact_tables.proofs.slot_sweeps.covers.Given as goal

abbrev pub invariant-loop-step : goal.invariant-loop-step
invariant-loop-step l = list_all (covers_at l.c l.d l.here l.there) (chain (length l.keepers.links.items) l.keepers.links.items l.initial.at) ≡ list_all (covers_at l.c l.d l.here l.there) (chain (length l.keepers.links.items - l.step) l.keepers.links.items l.at)
