pub mod Machine
pub mod Moves
pub mod Discipline
pub mod ModuleRuns
pub mod Broken
pub mod Promises
pub mod Soundness
pub mod NextMoves
pub mod Tries
pub mod Ends
pub mod RealThreads
pub mod NextMoveLemmas
pub mod TryLemmas
pub mod Shares
pub mod Calls
pub mod Standings
pub mod Causes
pub mod Theorems
-- ---- the proof of the safety theorem
mod Births
mod Safety
