use Rattle.std.proofs.Common.{◌≡◌, take}
use Rattle.ir_ast.proofs.symbol_list.SymbolList.from_slice.Given as goal

abbrev pub invariant-loop-symbol : goal.invariant-loop-symbol
invariant-loop-symbol l = l.list ≡ take l.symbol-index l.symbols
