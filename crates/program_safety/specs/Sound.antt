-- What is known of a thread along its share of a run: it has a log of its own, which the share bears out, and after which it is safe.
use Rattle.std.specs.Prelude.{ℕ, ◌<◌, ◌≡◌, List}
use Rattle.pools.specs.Heap.{Setup}
use Rattle.colours.specs.Mutator.{Fresh}
use Rattle.machine.specs.declared.answer.Answer.{Answer}
use Rattle.machine.specs.declared.value.Reference.{Reference as ThreadReference}
use Rattle.machine.specs.Log.{Log, Held, IsFresh, Safe}
use Rattle.runs.specs.Moves.{Move, steps_of}
use Rattle.runs.specs.Discipline.{Holds}
use Rattle.program_safety.specs.Threads.{ProgramThread, in_run}

-- what a log says is held is held by the share, and what it says is fresh is fresh in it, and no null
pub record BearsOut (heap : Setup) (share : List Move) (log : Log) : Type 0 where
  pub held : (at : ThreadReference) → Held log at → Holds heap share (in_run at)
  pub fresh : (cell : ℕ) → IsFresh log cell → (0 < cell) × Fresh heap (steps_of share) cell

-- a thread over this heap is safe after such a log, whatever possible answers it gets
pub record Sound (heap : Setup) (share : List Move) (thread : ProgramThread) : Type 0 where
  pub over : thread.heap ≡ heap
  pub log : Log
  pub borne_out : BearsOut heap share log
  pub safe : (answers : List Answer) → Safe heap thread.program thread.state log answers
