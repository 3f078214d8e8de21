use Rattle.std.proofs.Common.{◌≡◌, ◌<◌, ◌∷◌, ℕ, true, sym, subst, ◌∙◌}
use Rattle.pools.specs.Heap.{cells, kind_of}
use Rattle.pools.specs.Layouts.{is_reference_kind}
use Rattle.colours.specs.Steps.{ReadWord}
use Rattle.watch.specs.Knows.{Knows}
use Rattle.conform.proofs.thread_check.hold_read.Goals as goal

pub returns-then-is_reference : goal.returns-then-is_reference
returns-then-is_reference c = λ log k. let s = c.args.words.now.heap in
    let reference : is_reference_kind (kind_of s c.args.cell c.args.word) ≡ true = sym c.is_reference.ensures ∙ c.if-is_reference.true in
    subst (λ (v : ℕ). Knows s (ReadWord c.args.cell c.args.word v ∷ log) c.found.new.self) c.reference_in.ensures
    (c.found.ensures.read s log c.args.cell c.args.word reference (subst (λ (v : ℕ). v < cells s) (sym c.reference_in.ensures) (c.requires.1.1 reference)) k)
