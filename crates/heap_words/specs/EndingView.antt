-- What contracts see of words whose tokens come back, and what these keep.
use Rattle.std.specs.Prelude.{◌≡◌}
use Rattle.heap_words.specs.declared.ending.ReturningWords.TheInside.{Inside}
use Rattle.heap_words.specs.Endings.{Gathered}

-- the words and what came back, as contracts see them
abbrev pub gathered_in : Inside → Gathered
gathered_in e = record { setup = e.words.setup; table = e.words.table; shares = e.seat.me.0.shares }

-- one seat has all that came back
pub record IsEnding (e : Inside) : Type 0 where
  pub same : e.seat.table_id ≡ e.words.table
