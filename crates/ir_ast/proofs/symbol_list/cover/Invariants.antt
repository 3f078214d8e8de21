use Rattle.std.proofs.Common.{◌≡◌, ◌≤◌, ℕ, length}
use Rattle.ir_ast.specs.SymbolList.{is_marked}
use Rattle.ir_ast.proofs.symbol_list.cover.Given as goal

abbrev pub invariant-loop-place : goal.invariant-loop-place
invariant-loop-place l = ((s : ℕ) → is_marked l.marks s ≡ is_marked l.fn.marks s) × (l._place ≤ length l.marks)
