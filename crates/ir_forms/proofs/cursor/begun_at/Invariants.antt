use Rattle.std.proofs.Common.{◌≡◌, length}
use Rattle.ir_forms.specs.Cursor.{begun_at}
use Rattle.ir_forms.proofs.cursor.begun_at.Given as goal

abbrev pub invariant-loop-tokens : goal.invariant-loop-tokens
invariant-loop-tokens l = begun_at l.place l.tokens ≡ begun_at l.place l.initial.tokens

abbrev pub decreases-loop-tokens : goal.decreases-loop-tokens
decreases-loop-tokens l = length l.tokens
