use Rattle.std.proofs.Common.{sym, ◌∙◌}
use Rattle.std.specs.Prelude.{◌==◌}
use Rattle.std.proofs.lemmas.Map.Keys.{any_passes_from_place}
use Rattle.ir_ast.specs.declared.function.Parameter.{Parameter}
use Rattle.block_rules.proofs.head.is_at_its_place.Goals as goal

pub returns-in-Some : goal.returns-in-Some
returns-in-Some c same =
    any_passes_from_place (λ (parameter : Parameter). parameter.value == c.args.value) c.args.function.now.parameters c.number.result c.in-Some.parameter.now (sym c.in-Some.ensures.value) (sym c.eq.ensures ∙ same)
