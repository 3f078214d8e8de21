use Rattle.std.proofs.Common.{◌≡◌, ◌-◌, [], length, true}
use Rattle.ir_tokens.specs.Tokens.{lex_from}
use Rattle.ir_tokens.proofs.lex.lex.Given as goal

abbrev pub invariant-loop-turn : goal.invariant-loop-turn
invariant-loop-turn l = lex_from (length l.bytes) (length l.bytes) true [] l.bytes ≡ lex_from (l._turn-end - l._turn) (length l.bytes) l.is_first l.tokens l.rest
