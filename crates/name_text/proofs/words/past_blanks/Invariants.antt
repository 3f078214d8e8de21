use Rattle.std.proofs.Common.{◌≡◌, drop}
use Rattle.name_text.specs.Words.{past_blanks}
use Rattle.name_text.proofs.words.past_blanks.Given as goal

abbrev pub invariant-loop-i : goal.invariant-loop-i
invariant-loop-i l = past_blanks l.bytes ≡ past_blanks (drop l.i l.bytes)
