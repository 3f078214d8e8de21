-- When the collector may make a turn.
use Rattle.std.specs.Prelude.{◌+◌, ◌<◌, ◌^◌, List}
use Rattle.pools.specs.Heap.{Setup}
use Rattle.colours.specs.Colours.{cycle_of}
use Rattle.colours.specs.declared.turn.Turn.{Turn}
use Rattle.colours.specs.Collector.{Posting, posted_of, Collects}

-- where the next stage is posted after this log, it is one of a further cycle that may begin
abbrev pub MayTurn : Setup → List Turn → Type 0
MayTurn s log = Collects s log Posting → cycle_of (posted_of log + 1) < 2 ^ 60
