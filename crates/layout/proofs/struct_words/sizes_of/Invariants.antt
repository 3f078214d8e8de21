use Rattle.std.proofs.Common.{◌≡◌, map, take}
use Rattle.layout.specs.Survey.{size_in}
use Rattle.layout.proofs.struct_words.sizes_of.Given as goal

abbrev pub invariant-loop-mark : goal.invariant-loop-mark
invariant-loop-mark l = l.sizes ≡ map size_in (take l.mark-index l.survey.marks)
