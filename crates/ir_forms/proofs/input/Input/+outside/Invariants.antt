use Rattle.ir_forms.proofs.input.Input.+outside.Given as goal

abbrev pub decreases-outside : goal.decreases-outside
decreases-outside l = l.levels
