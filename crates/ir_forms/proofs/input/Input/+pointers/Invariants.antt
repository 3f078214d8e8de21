use Rattle.ir_forms.proofs.input.Input.+pointers.Given as goal

abbrev pub decreases-pointers : goal.decreases-pointers
decreases-pointers l = l.room
