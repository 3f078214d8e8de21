use Rattle.std.proofs.Common.{◌≡◌, map, take}
use Rattle.layout.specs.Survey.{struct_fields}
use Rattle.layout.proofs.fields.rows_of.Given as goal

abbrev pub invariant-loop-named : goal.invariant-loop-named
invariant-loop-named l = l.rows ≡ map (struct_fields l.survey.marks l.survey.fields.items) (take l.named-index l.structs)
