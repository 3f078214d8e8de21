use Rattle.std.proofs.Common.{◌≡◌, ℕ, ◌<◌, length, get_or}
use Rattle.heap_rule.specs.Rule.{start}
use Rattle.run_words.proofs.opening.starts_of.Given as goal

abbrev pub invariant-loop-cell : goal.invariant-loop-cell
invariant-loop-cell l = record { next : l.next ≡ start l.plan l.cell; count : length l.starts.items ≡ l.cell; each : (k : ℕ) → k < l.cell → get_or l.starts.items k 0 ≡ start l.plan k }
