use Rattle.std.proofs.Common.{◌≡◌, ◌-◌, ◌++◌, length}
use Rattle.fact_tables.specs.Uses.{chain}
use Rattle.fact_tables.proofs.chains.Chains.list.Given as goal

abbrev pub invariant-loop-step : goal.invariant-loop-step
invariant-loop-step l = chain (length l.self.links.items) l.self.links.items l.initial.at ≡ l.numbers.items ++ chain (length l.self.links.items - l.step) l.self.links.items l.at
