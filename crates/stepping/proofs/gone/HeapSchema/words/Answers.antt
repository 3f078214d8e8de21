-- The words of a cell, whatever the heap with this schema.
use Rattle.stepping.proofs.Schemas.{words-in_pool}
use Rattle.stepping.proofs.gone.HeapSchema.words.Goals as goal

pub returns : goal.returns
returns c = λ s is. words-in_pool s c.args.self.now c.args.cell c.pool_of.result c.words.result.now is c.if-cell-eq0.false c.pool_of.ensures.layout c.words.ensures
