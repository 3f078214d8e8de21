-- What contracts see of a world, and what it keeps.
use Rattle.program_runner.specs.Heaps.{heap_of}
use Rattle.stepping.specs.Reach.{IsSchemaOf}
use Rattle.replay.specs.declared.world.World.TheInside.{Inside}
use Rattle.program_runner.specs.Setups.{IsSetupOf, HasNoFault}
use Rattle.replay.specs.Worlds.{World, IsMade}

-- the world that the code holds
abbrev pub world_seen : Inside → World
world_seen i = record {
  program = i.program.now;
  setup = i.setup.now;
  threads = i.actors.threads.items;
  shared = i.actors.shared;
  collector = i.actors.collector;
  endings = i.endings;
}

-- it is what some actors make of its setup, in which each thread may begin
pub record IsKept (i : Inside) : Type 0 where
  pub schema : IsSchemaOf (heap_of i.program.now i.setup.now) i.actors.schema
  pub setup : IsSetupOf i.program.now i.setup.now
  pub no_fault : HasNoFault i.program.now i.setup.now
  pub made : IsMade (world_seen i)
