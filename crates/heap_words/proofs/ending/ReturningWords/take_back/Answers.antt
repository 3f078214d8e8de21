use Rattle.std.proofs.Common.{sym, ap, ◌∙◌, arith}
use Rattle.heap_rule.specs.Seats.{joins}
use Rattle.heap_words.specs.Tokens.{Holding, Shared}
use Rattle.heap_words.specs.Endings.{Gathered}
use Rattle.heap_words.proofs.Closing.{size_some}
use Rattle.heap_words.proofs.ending.ReturningWords.take_back.Goals as goal

pub join_seat-requires : goal.join_seat-requires
join_seat-requires c = let words_table = ap (λ (x : Shared). x.table) c.words.view_is in let some = size_some c.words.inside.table.shared.key in let count = c.words.invariant.words in (
  c.self.invariant.same ∙ sym words_table,
  ap (λ (x : Holding). x.table) c.token.view_is ∙ (c.requires.table ∙ sym (words_table ∙ ap (λ (x : Gathered). x.table) c.self.view_is)),
  c.token.invariant.bare,
  omega (arith, some, count),
  joins _ _ _ _ c.token.inside.seat.me.0 c.token.invariant.one.dealt,
)
