use Rattle.std.proofs.Common.{◌≡◌, false, drop}
use Rattle.name_text.specs.Words.{past_word}
use Rattle.name_text.proofs.words.past_word.Given as goal

abbrev pub invariant-loop-i : goal.invariant-loop-i
invariant-loop-i l = past_word false l.bytes ≡ past_word l.quoted (drop l.i l.bytes)
