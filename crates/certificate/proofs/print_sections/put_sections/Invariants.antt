use Rattle.std.proofs.Common.{◌≡◌, ◌++◌}
use Rattle.std.specs.Iterator.Adapters.{zip_first, zip_second}
use Rattle.std.specs.Slice.Iter.{iter_rest}
use Rattle.certificate.specs.Print.{sections_text}
use Rattle.certificate.proofs.print_sections.put_sections.Given as goal

abbrev pub invariant-loop-function : goal.invariant-loop-function
invariant-loop-function l = l.fn.out.items ++ sections_text l.«module» l.fn.functions l.fn.sections ≡ l.out.items ++ sections_text l.«module» (iter_rest (zip_first l.function-iterator)) (iter_rest (zip_second l.function-iterator))
