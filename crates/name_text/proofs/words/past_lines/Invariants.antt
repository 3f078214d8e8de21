use Rattle.std.proofs.Common.{◌≡◌, false, drop}
use Rattle.name_text.specs.Words.{past_lines}
use Rattle.name_text.proofs.words.past_lines.Given as goal

abbrev pub invariant-loop-i : goal.invariant-loop-i
invariant-loop-i l = past_lines false l.bytes ≡ past_lines l.comment (drop l.i l.bytes)
