-- The kind is that of the cell's words.
use Rattle.std.proofs.Common.{List, ap, ◌∙◌, slice_get}
use Rattle.pools.specs.declared.word_kind.WordKind.{WordKind}
use Rattle.pools.specs.Heap.{kind_of}
use Rattle.stepping.proofs.gone.HeapSchema.kind.Goals as goal

pub returns-then-cell-from : goal.returns-then-cell-from
unfolding kind_of
returns-then-cell-from c = λ s fits lt. c.kind_at.ensures ∙ ap (λ (words : List WordKind). slice_get words c.args.word) (c.words.ensures s fits)
