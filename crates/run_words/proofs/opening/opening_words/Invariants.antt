use Rattle.std.proofs.Common.{◌≡◌, ℕ, ◌<◌, length, get_or}
use Rattle.heap_words.specs.Opening.{opening_word}
use Rattle.run_words.proofs.opening.opening_words.Given as goal

abbrev pub invariant-loop-at : goal.invariant-loop-at
invariant-loop-at l = record { count : length l.words.items ≡ l.at; words : (k : ℕ) → k < l.at → get_or l.words.items k 0 ≡ opening_word l.plan k }
