-- The threads of a program as a machine, and what is promised of their runs: crates that build on a program's thread name them here.
pub use Rattle.program_safety.specs.Threads.{ProgramThread, ended, names, program_machine, reference_in}
pub use Rattle.program_safety.specs.Safety.{AreCertified, CertifiedIsSafe, IsBegun, MeetPromises}
