use Rattle.std.proofs.Common.{ap, refl}
use Rattle.std.specs.Option.{option_map}
use Rattle.reports.proofs.files.with_shapes_in.Goals as goal

pub returns-in-Err-clause-err : goal.returns-in-Err-clause-err
returns-in-Err-clause-err c = (refl, (c.in-Some.text.now, ap (λ bytes. option_map (λ text. text.now) bytes) c.in-Some.is, c.in-Err.ensures.fault))
