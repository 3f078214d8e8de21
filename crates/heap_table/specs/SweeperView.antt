-- What contracts see of the sweeper's fields, and what these keep.
use Rattle.std.specs.Prelude.{◌≡◌, List, []}
use Rattle.colours.specs.declared.turn.Turn.{Turn}
use Rattle.colours.specs.Collector.{Collection, Collects}
use Rattle.heap_rule.specs.View.{Share, OfThread, OfCollector}
use Rattle.trace_sweep.specs.Cycles.{collector_after}
use Rattle.trace_sweep.specs.Stands.{StandsAfter}
use Rattle.heap_table.specs.declared.sweeper.Sweeper.TheInside.{Inside}
use Rattle.heap_table.specs.Sweepers.{SweeperLog, IsInRange}

-- the log of the collector's share
abbrev pub turns_in : Share → List Turn
turns_in (OfThread thread log) = []
turns_in (OfCollector log) = log

-- the token, as contracts see it
abbrev pub sweeper_log : Inside → SweeperLog
sweeper_log w = record { table = w.token.table; setup = w.token.setup; log = turns_in w.token.share }

-- the token is the collector's; the collector is that of its log, is where its log leads, and that place names threads and cells of the heap
pub record IsSweeper (w : Inside) : Type 0 where
  pub own : w.token.share ≡ OfCollector (turns_in w.token.share)
  pub stands : StandsAfter w.token.setup (turns_in w.token.share) w.collector
  pub led : w.collector ≡ collector_after w.token.setup (turns_in w.token.share)
  pub placed : (c : Collection) → Collects w.token.setup (turns_in w.token.share) c → IsInRange w.token.setup c
