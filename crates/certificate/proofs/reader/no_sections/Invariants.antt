use Rattle.std.proofs.Common.{◌≡◌, None, map, take}
use Rattle.certificate.proofs.reader.no_sections.Given as goal

abbrev pub invariant-loop-function : goal.invariant-loop-function
invariant-loop-function l = l.sections.items ≡ map (λ _. None) (take l._function-index l.module.functions)
