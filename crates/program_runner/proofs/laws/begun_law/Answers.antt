-- The thread is over the heap of its setup, and holds its arguments alone.
use Rattle.std.proofs.Common.{refl}
use Rattle.program_runner.specs.Heaps.{heap_of}
use Rattle.program_runner.specs.Begun.{begins, heap_is}
use Rattle.program_runner.proofs.laws.begun_law.Goals as goal

pub returns : goal.returns
returns c p setup function arguments values numbers these = record {
  over = refl;
  heap = heap_is p setup;
  frames = begins (heap_of p setup) p function arguments numbers these;
}
