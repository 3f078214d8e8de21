-- What contracts see of a token's fields, and what these keep.
use Rattle.std.specs.Prelude.{◌<◌, ◌≡◌, List, []}
use Rattle.colours.specs.Steps.{Step}
use Rattle.heap_rule.specs.View.{Share, OfThread, OfCollector}
use Rattle.heap_table.specs.declared.mutator.Mutator.TheInside.{Inside}
use Rattle.heap_table.specs.Holders.{Holder, IsOfRun}
use Rattle.heap_table.specs.Nexts.{HoldsCells, IsStage}

-- the log of a thread's share
abbrev pub log_in : Share → List Step
log_in (OfThread thread log) = log
log_in (OfCollector log) = []

-- the token, as contracts see it
abbrev pub holder_of : Inside → Holder
holder_of m = record { table = m.token.table; setup = m.token.setup; thread = m.thread; log = log_in m.token.share }

-- the token is the thread's; what the log says is true of a run
pub record IsMutator (m : Inside) : Type 0 where
  pub own : m.token.share ≡ OfThread m.thread (log_in m.token.share)
  pub number : m.thread < m.token.setup.threads
  pub stage : IsStage (log_in m.token.share) m.stage
  pub of_run : IsOfRun (holder_of m)
  pub cells : HoldsCells m.token.setup (log_in m.token.share)
