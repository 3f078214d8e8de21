-- What is left of a heap at its end.
use Rattle.std.specs.Prelude.{◌≡◌, List, [], ◌∷◌}
use Rattle.pools.specs.Heap.{Setup}
use Rattle.colours.specs.declared.place.Place.{Place}
use Rattle.colours.specs.Runs.{Event, log_of, turns_of, word_after, IsHeapRun}
use Rattle.heap_rule.specs.Rule.{HasPlace}
use Rattle.heap_words.specs.Tokens.{Shared}
use Rattle.heap_words.specs.Endings.{Closing, word_at}
use Rattle.heap_table.specs.Holders.{Holder, IsOf}
use Rattle.heap_table.specs.Sweepers.{SweeperLog}

-- each token is of this heap
abbrev pub AreOf : Shared → List Holder → Type 0
AreOf heap [] = Unit {0}
AreOf heap (token ∷ tokens) = IsOf heap token × AreOf heap tokens

-- what each thread logged is its share of the run
abbrev pub HaveLogs : List Event → List Holder → Type 0
HaveLogs run [] = Unit {0}
HaveLogs run (token ∷ tokens) = (log_of token.thread run ≡ token.log) × HaveLogs run tokens

-- there is one run of the heap that ends in these words, and what the threads and the collector logged are their shares of it
pub record EndsSo (s : Setup) (tokens : List Holder) (sweeper : SweeperLog) (c : Closing) : Type 0 where
  pub run : List Event
  pub is_run : IsHeapRun s run
  pub words : (p : Place) → HasPlace s p → word_at c p ≡ word_after s run p
  pub threads : HaveLogs run tokens
  pub collector : turns_of run ≡ sweeper.log
