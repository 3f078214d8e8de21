use Rattle.std.proofs.Common.{◌≡◌, ◌<◌, None, IfSome, drop}
use Rattle.pools.specs.WordSets.{no_words}
use Rattle.certificate.specs.Numbers.{words_after}
use Rattle.certificate.proofs.numbers.words_of_word.Given as goal

abbrev pub invariant-loop-byte : goal.invariant-loop-byte
invariant-loop-byte l = record {
  small : IfSome l.open (λ n. n < 64);
  words : words_after no_words None l.word ≡ words_after l.set l.open (drop l.byte-index l.word);
}
