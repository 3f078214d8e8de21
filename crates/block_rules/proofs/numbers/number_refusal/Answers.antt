use Rattle.std.proofs.Common.{sym, ap, ◌∙◌}
use Rattle.block_rules.specs.FirstFailing.{first_failing}
use Rattle.block_rules.specs.Rules.{number_conditions}
use Rattle.block_rules.proofs.numbers.number_refusal.Goals as goal

pub returns-in-Arithmetic : goal.returns-in-Arithmetic
returns-in-Arithmetic c =
    let context = c.args.context.now in
    c.arithmetic_refusal.ensures c.in-Arithmetic.kind
    ∙ ap (λ op. first_failing (number_conditions context.program.now context.function.now context.slots.now c.args.here c.args.facts.now op)) (sym c.in-Arithmetic.is)
