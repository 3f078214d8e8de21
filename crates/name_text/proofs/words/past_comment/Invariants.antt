use Rattle.std.proofs.Common.{◌≡◌, length}
use Rattle.name_text.specs.Words.{past_comment}
use Rattle.name_text.proofs.words.past_comment.Given as goal

abbrev pub invariant-loop-rest : goal.invariant-loop-rest
invariant-loop-rest l = past_comment l.bytes ≡ past_comment l.rest

abbrev pub decreases-loop-rest : goal.decreases-loop-rest
decreases-loop-rest l = length l.rest
