-- What other crates cite of the collector's law.

-- in each run of the collector and of threads that obey the discipline: what is kept is alive, and so is what a step touches; the answers
-- of a step are possible; past a trace what is kept is black; and each word fits its kind
pub use Rattle.collector_law.specs.Safeties.{kept_alive, touches_alive, answers_possible, kept_black, words_fit}
-- each reference that a thread holds is alive
pub use Rattle.collector_law.specs.References.{references_alive}
-- a thread tries to claim only cells of the table
pub use Rattle.collector_law.specs.Claiming.{claim_cell}
-- the first word found that is no integer is a reference
pub use Rattle.collector_law.specs.Moves.{skip_found}
