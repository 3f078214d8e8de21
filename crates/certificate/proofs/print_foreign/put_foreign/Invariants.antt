use Rattle.std.proofs.Common.{◌≡◌, ◌++◌, take}
use Rattle.std.specs.List.{flat_map}
use Rattle.certificate.specs.ForeignPrint.{foreign_line_text}
use Rattle.certificate.proofs.print_foreign.put_foreign.Given as goal

abbrev pub invariant-loop-symbol : goal.invariant-loop-symbol
invariant-loop-symbol l = l.out.items ≡ l.fn.out.items ++ flat_map (foreign_line_text l.«module») (take l.symbol-index l.symbols)
