use Rattle.std.proofs.Common.{rules}
use Rattle.explain.specs.Codes.{code_named}
use Rattle.explain.proofs.code.Code.named.Goals as goal

pub loop-code-init : goal.loop-code-init
unfolding code_named
loop-code-init c = search rules
