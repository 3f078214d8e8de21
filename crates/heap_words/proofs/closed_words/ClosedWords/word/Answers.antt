use Rattle.std.proofs.Common.{ℕ, get_or, ap, ◌∙◌}
use Rattle.std.specs.Slots.{slots_items}
use Rattle.heap_words.specs.Endings.{Closing, word_at}
use Rattle.heap_words.proofs.Indexing.{read_at}
use Rattle.heap_words.proofs.closed_words.ClosedWords.word.Goals as goal

pub returns : goal.returns
returns c = read_at (slots_items c.self.inside.closed.words) c.index_of.result c.word.result c.word.ensures ∙ (ap (λ (i : ℕ). get_or (slots_items c.self.inside.closed.words) i 0) c.index_of.ensures.place ∙ ap (λ (x : Closing). word_at x c.args.place) c.self.view_is)
