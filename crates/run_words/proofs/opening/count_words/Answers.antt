use Rattle.std.proofs.Common.{◌-◌, ap, length, ◌∙◌}
use Rattle.pools.specs.Heap.{Setup, layout_at}
use Rattle.pools.specs.Layouts.{words_of}
use Rattle.run_words.proofs.Beginning.{words_here}
use Rattle.run_words.proofs.opening.count_words.Goals as goal

pub returns : goal.returns
returns c = ap length (c.words.ensures ∙ (ap (λ (s : Setup). words_of s.layouts c.pool_of.result) c.plan.view_is
    ∙ words_here c.args.plan.now c.args.cell c.pool_of.result c.if-cell-eq0.false (c.pool_of.ensures.layout ∙ ap (λ (s : Setup). layout_at s.pools (c.args.cell - 1)) c.plan.view_is)))
