-- What contracts see of a program's thread over the heap of a setup.
use Rattle.std.specs.Prelude.{◌≡◌}
use Rattle.machine.specs.Machine.{action}
use Rattle.program_safety.specs.Threads.{ProgramThread}
use Rattle.program_runner.specs.Heaps.{heap_of}
use Rattle.program_runner.specs.declared.program_thread.ProgramThread.TheInside.{Inside}

-- the thread, over the heap of its setup
abbrev pub thread_seen : Inside → ProgramThread
thread_seen i = record { heap = heap_of i.program.now i.setup.now; program = i.program.now; state = i.thread.state; values = i.values.now }

-- the thread is one of the program, and what is kept is what it asks for
abbrev pub IsOfProgram : Inside → Type 0
IsOfProgram i = (i.thread.program ≡ i.program.now) × (i.asked ≡ action i.program.now i.thread.state)
