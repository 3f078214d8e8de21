use Rattle.std.proofs.Common.{◌≡◌, ◌++◌}
use Rattle.std.specs.Iterator.Adapters.{zip_first, zip_second}
use Rattle.std.specs.Slice.Iter.{iter_rest}
use Rattle.certificate.specs.Print.{parameters_text}
use Rattle.certificate.proofs.print_sections.put_parameters.Given as goal

abbrev pub invariant-loop-parameter : goal.invariant-loop-parameter
invariant-loop-parameter l = l.fn.out.items ++ parameters_text l.«module» l.function l.fn.parameters l.fn.promises ≡ l.out.items ++ parameters_text l.«module» l.function (iter_rest (zip_first l.parameter-iterator)) (iter_rest (zip_second l.parameter-iterator))
