use Rattle.std.proofs.Common.{◌≡◌, ◌++◌, length}
use Rattle.std.specs.Vec.Iter.{into_iter_items, into_iter_len}
use Rattle.certificate.specs.Text.{sections_in}
use Rattle.certificate.proofs.reader.sections_in.Given as goal

abbrev pub invariant-loop-kept : goal.invariant-loop-kept
invariant-loop-kept l = (l.sections ++ sections_in (into_iter_items l.kept-iterator) ≡ sections_in (into_iter_items l.initial.kept-iterator))
    × (into_iter_len l.kept-iterator ≡ length (into_iter_items l.kept-iterator))
