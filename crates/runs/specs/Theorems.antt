-- What other crates cite of the safety theorem.

-- each run of careful threads over a heap that keeps its law is safe, and so no thread is ever at an instruction that has no meaning
pub use Rattle.runs.specs.Safety.{safe, never_wrong}
