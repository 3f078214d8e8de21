use Rattle.std.proofs.Common.{◌≡◌, take, map}
use Rattle.certs.specs.Plain.{plain_section}
use Rattle.cert_maker.proofs.plain.plain_sections.Given as goal

abbrev pub invariant-loop-function : goal.invariant-loop-function
invariant-loop-function l = l.sections ≡ map plain_section (take l.function-index l.functions)
