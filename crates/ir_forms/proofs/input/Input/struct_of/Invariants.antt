use Rattle.std.proofs.Common.{◌≡◌, take}
use Rattle.ir_forms.specs.Written.{struct_of, before}
use Rattle.ir_forms.proofs.input.Input.struct_of.Given as goal

abbrev pub invariant-loop-at : goal.invariant-loop-at
invariant-loop-at l = (struct_of l.fn.room l.fields).read l.fn.self ≡ (before (take l.at l.fields) l.whole).read l.self
