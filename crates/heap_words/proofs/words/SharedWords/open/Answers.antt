use Rattle.std.proofs.Common.{ℕ, List, length, get_or, ap, ◌∙◌, arith}
use Rattle.pools.specs.Heap.{Setup, cells}
use Rattle.heap_rule.specs.Rule.{index}
use Rattle.heap_rule.specs.Seats.{opens}
use Rattle.heap_rule.specs.Places.{within}
use Rattle.heap_words.proofs.Beginning.{opens_at, size_found}
use Rattle.heap_words.proofs.words.SharedWords.open.Goals as goal

pub of_words-requires : goal.of_words-requires
of_words-requires c = let s = c.args.plan in let o = c.in_ok-opening.ensures in
    let count = size_found s c.args.starts.items c.cells.result c.index.result.now c.requires.starts (c.cells.ensures.cells ∙ ap (λ (x : Setup). cells x) c.plan.view_is) c.index.ensures in
    opens s c.deref.result.now c.requires.setup (ap length c.deref.ensures.value ∙ (o.count ∙ count))
    (λ p here. ap (λ (ws : List ℕ). get_or ws (index s p) 0) c.deref.ensures.value ∙ (o.words (index s p) (omega (arith, within s p here, count)) ∙ opens_at s p c.requires.setup here))
