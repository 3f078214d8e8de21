-- The machine of a program's threads and the heap over which they run: crates that build on this one name them here.
pub use Rattle.program_runner.specs.Threads.{names, program_machine, reference_in}
pub use Rattle.program_runner.specs.Heaps.{heap_of, value_at_start, value_of_global}
