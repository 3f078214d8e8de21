use Rattle.std.proofs.Common.{◌≡◌}
use Rattle.std.specs.List.{flat_map, range_with_len}
use Rattle.certificate.specs.Print.{listed_word}
use Rattle.certificate.proofs.print.commas_and_words.Given as goal

abbrev pub invariant-loop-word : goal.invariant-loop-word
invariant-loop-word l = l.out.items ≡ flat_map (listed_word l.words) (range_with_len 0 l.word)
