-- Words whose tokens come back, and the words at the end.
use Rattle.std.specs.Prelude.{ℕ, ◌≡◌, List, [], ◌∷◌, slice_index}
use Rattle.atomic_table.specs.Seated.{TableId}
use Rattle.pools.specs.Heap.{Setup}
use Rattle.colours.specs.declared.place.Place.{Place}
use Rattle.colours.specs.Runs.{Event, word_after, IsHeapRun}
use Rattle.heap_rule.specs.View.{Share}
use Rattle.heap_rule.specs.Rule.{HasPlace, index, IsShareIn}
use Rattle.heap_words.specs.Tokens.{Holding}

-- how the heap was set up, the table where its words lie, and the shares of the tokens that came back, the last one's first
pub record Gathered : Type 0 where
  pub setup : Setup
  pub table : TableId
  pub shares : List Share

-- the token is of these words
pub record IsBackAt (words : Gathered) (token : Holding) : Type 0 where
  pub table : token.table ≡ words.table
  pub setup : token.setup ≡ words.setup

-- how the heap was set up, and its words at the end, as they lie in the table
pub record Closing : Type 0 where
  pub setup : Setup
  pub words : List ℕ

-- one of the words
abbrev pub word_at : Closing → Place → ℕ
word_at c p = slice_index c.words (index c.setup p)

-- each of these is its actor's share of the run
abbrev pub AreSharesOf : List Event → List Share → Type 0
AreSharesOf run [] = Unit {0}
AreSharesOf run (share ∷ shares) = IsShareIn run share × AreSharesOf run shares

-- there is one run of the heap that ends in these words, and these are shares of it
pub record Ends (s : Setup) (shares : List Share) (c : Closing) : Type 0 where
  pub run : List Event
  pub is_run : IsHeapRun s run
  pub words : (p : Place) → HasPlace s p → word_at c p ≡ word_after s run p
  pub shares_are : AreSharesOf run shares
