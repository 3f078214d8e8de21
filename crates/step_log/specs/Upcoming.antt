-- The steps of a trace that are still to be made.
use Rattle.std.specs.Prelude.{List, ◌++◌, replicate}
use Rattle.moves.specs.declared.actor.Actor.{Actor}
use Rattle.replay.specs.Lists.{actors_of}
use Rattle.step_log.specs.declared.upcoming.Upcoming.{Upcoming}

-- their actors: those of the present line, and those of the lines after it
abbrev pub actors_in : Upcoming → List Actor
actors_in u = replicate u.left u.actor ++ actors_of u.lines.now
