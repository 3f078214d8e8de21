use Rattle.std.proofs.Common.{sym, ap, ◌∙◌}
use Rattle.block_rules.specs.FirstFailing.{first_failing}
use Rattle.block_rules.specs.Rules.{memory_conditions}
use Rattle.block_rules.proofs.memory.memory_refusal.Goals as goal

pub returns-in-Alloca : goal.returns-in-Alloca
returns-in-Alloca c =
    let context = c.args.context.now in
    c.alloca_refusal.ensures c.args.facts.now
    ∙ ap (λ op. first_failing (memory_conditions context.program.now context.function.now context.slots.now c.args.here c.args.facts.now c.args.defined op)) (sym c.in-Alloca.is)

pub returns-in-Buffer : goal.returns-in-Buffer
returns-in-Buffer c =
    let context = c.args.context.now in
    c.buffer_refusal.ensures 0
    ∙ ap (λ op. first_failing (memory_conditions context.program.now context.function.now context.slots.now c.args.here c.args.facts.now c.args.defined op)) (sym c.in-Buffer.is)
