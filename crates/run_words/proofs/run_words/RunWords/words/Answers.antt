use Rattle.std.proofs.Common.{◌-◌, ap, ◌∙◌}
use Rattle.pools.specs.Heap.{Setup, layout_at}
use Rattle.pools.specs.Layouts.{words_of}
use Rattle.run_words.specs.Words.{Words}
use Rattle.run_words.proofs.Beginning.{words_here}
use Rattle.run_words.proofs.run_words.RunWords.words.Goals as goal

pub returns : goal.returns
returns c = let e = c.plan.view_is ∙ ap (λ (w : Words). w.heap) c.self.view_is in
    c.words.ensures ∙ (ap (λ (s : Setup). words_of s.layouts c.pool_of.result) e ∙ words_here c.args.self.now.heap c.args.cell c.pool_of.result c.if-cell-eq0.false (c.pool_of.ensures.layout ∙ ap (λ (s : Setup). layout_at s.pools (c.args.cell - 1)) e))
