use Rattle.std.proofs.Common.{◌≡◌, ◌++◌, take}
use Rattle.std.specs.List.{flat_map}
use Rattle.certificate.specs.ShapesPrint.{words_text}
use Rattle.certificate.proofs.print_shapes.put_words.Given as goal

abbrev pub invariant-loop-named : goal.invariant-loop-named
invariant-loop-named l = l.out.items ≡ l.fn.out.items ++ flat_map (words_text l.«module» l.shapes) (take l.named-index l.structs)
