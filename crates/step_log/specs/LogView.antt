-- What contracts see of a log, and what it keeps.
use Rattle.std.specs.Prelude.{length}
use Rattle.moves.specs.Runs.{AreActors}
use Rattle.step_log.specs.Logs.{Log}
use Rattle.step_log.specs.Upcoming.{actors_in}
use Rattle.step_log.specs.declared.stretch.StepLog.TheInside.{Inside}

-- the log that the code holds
abbrev pub log_seen : Inside → Log
log_seen i = record { world = i.recorder.world; before = i.recorder.before; steps = i.recorder.steps; left = actors_in i.upcoming }

-- the actors that are left are those of the world
abbrev pub IsKept : Inside → Type 0
IsKept i = AreActors (length i.recorder.world.setup.starts) (actors_in i.upcoming)
