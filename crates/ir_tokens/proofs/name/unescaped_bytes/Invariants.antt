use Rattle.std.proofs.Common.{◌≡◌, ◌-◌, ◌++◌, length}
use Rattle.ir_tokens.specs.Names.{unescaped_from}
use Rattle.ir_tokens.proofs.name.unescaped_bytes.Given as goal

abbrev pub invariant-loop-turn : goal.invariant-loop-turn
invariant-loop-turn l = unescaped_from (length l.bytes) l.bytes ≡ l.name ++ unescaped_from (l._turn-end - l._turn) l.rest
