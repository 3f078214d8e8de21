pub mod RealThreads
pub mod OnlyMoves
