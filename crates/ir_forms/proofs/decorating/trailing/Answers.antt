use Rattle.std.proofs.Common.{sym, ◌∙◌}
use Rattle.ir_forms.proofs.NoneThere.{no_trail}
use Rattle.ir_forms.proofs.decorating.trailing.Goals as goal

pub returns-else-sees : goal.returns-else-sees
returns-else-sees c = no_trail c.args.trail c.args.input.now (sym c.sees.ensures ∙ c.if-sees.false)
