use Rattle.std.proofs.Common.{List, slice_get, ap, ◌∙◌}
use Rattle.pools.specs.declared.word_kind.WordKind.{WordKind}
use Rattle.pools.specs.Heap.{kind_of}
use Rattle.run_words.proofs.run_words.RunWords.kind.Goals as goal

pub returns : goal.returns
unfolding kind_of
returns c = c.kind_at.ensures ∙ ap (λ (words : List WordKind). slice_get words c.args.word) c.words.ensures
