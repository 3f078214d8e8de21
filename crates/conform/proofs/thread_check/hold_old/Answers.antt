use Rattle.std.proofs.Common.{◌<◌, ◌∷◌, ℕ, sym, subst}
use Rattle.pools.specs.Heap.{cells}
use Rattle.colours.specs.Steps.{ReadOldValue}
use Rattle.watch.specs.Knows.{Knows}
use Rattle.conform.proofs.thread_check.hold_old.Goals as goal

pub returns : goal.returns
returns c = λ log k. let s = c.args.words.now.heap in let h = c.requires.1 in
    subst (λ (v : ℕ). Knows s (ReadOldValue c.args._cell c.args._word v ∷ log) c.found.new.self) c.reference_in.ensures
    (c.found.ensures.read_old s log c.args._cell c.args._word h.1 (subst (λ (v : ℕ). v < cells s) (sym c.reference_in.ensures) h.2) k)
