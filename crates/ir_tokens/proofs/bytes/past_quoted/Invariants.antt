use Rattle.std.proofs.Common.{◌≡◌, ◌-◌, length}
use Rattle.ir_tokens.specs.Form.{quoted_from}
use Rattle.ir_tokens.proofs.bytes.past_quoted.Given as goal

abbrev pub invariant-loop-turn : goal.invariant-loop-turn
invariant-loop-turn l = quoted_from (length l.bytes) l.bytes ≡ quoted_from (l._turn-end - l._turn) l.rest
