use Rattle.std.proofs.Common.{◌≡◌, ◌-◌}
use Rattle.type_kinds.specs.WantedWords.{each_word}
use Rattle.type_kinds.proofs.Members.{each_left}
use Rattle.type_kinds.proofs.wanted_words.each_word.Given as goal

abbrev pub invariant-loop-word : goal.invariant-loop-word
invariant-loop-word l = each_word l.wanted l.layouts l.layout l.words ≡ each_left l.wanted l.layouts l.layout l.words l.from

abbrev pub decreases-loop-word : goal.decreases-loop-word
decreases-loop-word l = 64 - l.from
