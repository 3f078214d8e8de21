use Rattle.std.proofs.Common.{◌≡◌, length, map}
use Rattle.ir_tokens.specs.Keywords.{kind_in}
use Rattle.ir_tokens.proofs.keyword.kind_in.Given as goal

abbrev pub invariant-loop-entries : goal.invariant-loop-entries
invariant-loop-entries l = kind_in (map (λ e. (e.0.now, e.1)) l.entries) l.word ≡ kind_in (map (λ e. (e.0.now, e.1)) l.initial.entries) l.word

abbrev pub decreases-loop-entries : goal.decreases-loop-entries
decreases-loop-entries l = length l.entries
