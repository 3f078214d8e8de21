-- What contracts see of the fields of closed words, and what these keep.
use Rattle.std.specs.Prelude.{◌^◌, ◌<◌, ◌≡◌}
use Rattle.std.specs.Slots.{slots_items, slots_len, IsFull}
use Rattle.heap_rule.specs.Rule.{size}
use Rattle.heap_words.specs.declared.closed_words.ClosedWords.TheInside.{Inside}
use Rattle.heap_words.specs.Endings.{Closing}
use Rattle.heap_words.specs.Places.{AreStarts}

-- the words that no thread shares any more
abbrev pub closing_in : Inside → Closing
closing_in c = record { setup = c.plan; words = slots_items c.closed.words }

-- all of them are there, and no slot is
pub record IsClosed (c : Inside) : Type 0 where
  pub count : slots_len c.closed.words ≡ size c.plan
  pub full : IsFull c.closed.words
  pub slots : slots_len c.closed.slots ≡ 0
  pub starts : AreStarts c.plan c.starts.items
  pub small : size c.plan < 2 ^ 63
