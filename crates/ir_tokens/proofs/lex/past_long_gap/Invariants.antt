use Rattle.std.proofs.Common.{◌≡◌, false, drop, take}
use Rattle.ir_tokens.specs.Tokens.{past_gap, ends_line}
use Rattle.ir_tokens.proofs.lex.past_long_gap.Given as goal

abbrev pub invariant-loop-i : goal.invariant-loop-i
invariant-loop-i l = record { gap : past_gap false l.bytes ≡ past_gap l.is_comment (drop l.i l.bytes); ends : l.ends ≡ ends_line (take l.i l.bytes) }
