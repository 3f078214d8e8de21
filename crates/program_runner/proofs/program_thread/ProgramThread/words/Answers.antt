-- The words of a cell after that of the globals.
use Rattle.std.proofs.Common.{ap, ◌∙◌}
use Rattle.pools.specs.Layouts.{words_of}
use Rattle.program_runner.specs.Heaps.{heap_of}
use Rattle.program_runner.proofs.Words.{words_of_pool}
use Rattle.program_runner.proofs.program_thread.ProgramThread.words.Goals as goal

pub returns : goal.returns
returns c =
    let heap = heap_of c.self.inside.program.now c.self.inside.setup.now in
    rw (← c.self.view_is)
    (c.words.ensures ∙ ap (λ layouts. words_of layouts c.pool_of.result) c.layouts.ensures.layouts ∙ ap (words_of heap.layouts) c.pool_of.ensures.layout ∙ words_of_pool heap c.args.cell c.if-cell-eq0.false)
