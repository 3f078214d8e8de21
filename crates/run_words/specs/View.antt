-- What contracts see of the fields, and what these keep.
use Rattle.std.specs.Prelude.{◌^◌, ◌<◌, ◌≡◌, length}
use Rattle.heap_rule.specs.Rule.{size}
use Rattle.heap_words.specs.Places.{AreStarts}
use Rattle.run_words.specs.declared.run_words.RunWords.TheInside.{Inside}
use Rattle.run_words.specs.Words.{Words}

-- the words, as contracts see them
abbrev pub words_in : Inside → Words
words_in w = record { heap = w.plan.now; table = w.table.items }

-- each cell is found in the table, and its places are numbers of the machine
pub record IsKept (w : Inside) : Type 0 where
  pub starts : AreStarts w.plan.now w.starts.items
  pub words : length w.table.items ≡ size w.plan.now
  pub small : size w.plan.now < 2 ^ 63
