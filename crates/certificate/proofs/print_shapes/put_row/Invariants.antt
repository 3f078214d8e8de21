use Rattle.std.proofs.Common.{◌≡◌, ◌++◌, drop}
use Rattle.certificate.specs.ShapesPrint.{row_text}
use Rattle.certificate.proofs.print_shapes.put_row.Given as goal

abbrev pub invariant-loop-word : goal.invariant-loop-word
invariant-loop-word l = l.fn.out.items ++ row_text l.«module» l.name 0 l.row ≡ l.out.items ++ row_text l.«module» l.name l.word (drop l.word l.row)
