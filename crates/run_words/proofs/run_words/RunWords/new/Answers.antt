use Rattle.std.proofs.Common.{ap, ◌∙◌, arith, refl}
use Rattle.pools.specs.Heap.{Setup, cells}
use Rattle.heap_rule.specs.Rule.{index}
use Rattle.heap_rule.specs.Places.{within}
use Rattle.run_words.proofs.Beginning.{opens_at, size_found}
use Rattle.run_words.proofs.Steps.{at_start}
use Rattle.run_words.proofs.run_words.RunWords.new.Goals as goal

pub returns : goal.returns
returns c = let s = c.args.plan.now in let o = c.in_ok-table.ensures in
    let count = size_found s c.in_ok-starts.starts.items c.cells.result c.index.result.now c.in_ok-starts.ensures (c.cells.ensures.cells ∙ ap (λ (x : Setup). cells x) c.plan.view_is) c.index.ensures in
    record { heap = refl; words = λ p here. let w = within s p here in o.words (index s p) (omega (arith, w, count)) ∙ (opens_at s p c.requires.setup here ∙ at_start s p) }
