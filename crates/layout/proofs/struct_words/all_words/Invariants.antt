use Rattle.std.proofs.Common.{◌≡◌, map, take}
use Rattle.layout.specs.Survey.{words_of}
use Rattle.layout.proofs.struct_words.all_words.Given as goal

abbrev pub invariant-loop-named : goal.invariant-loop-named
invariant-loop-named l = l.layouts ≡ map (words_of l.«module» l.survey.marks l.survey.fields.items) (take l.named-index l.structs)
