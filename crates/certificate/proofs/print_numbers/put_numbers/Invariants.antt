use Rattle.std.proofs.Common.{◌≡◌, ◌++◌, take}
use Rattle.std.specs.List.{flat_map}
use Rattle.certificate.specs.NumbersPrint.{number_line_text}
use Rattle.certificate.proofs.print_numbers.put_numbers.Given as goal

abbrev pub invariant-loop-line : goal.invariant-loop-line
invariant-loop-line l = l.out.items ≡ l.fn.out.items ++ flat_map (number_line_text l.«module») (take l.line-index l.lines)
