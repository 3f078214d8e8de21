use Rattle.std.proofs.Common.{◌∙◌, List, ap, sym}
use Rattle.ir_ast.specs.declared.instr.Instr.{Instr}
use Rattle.facts.specs.Facts.{FactSet}
use Rattle.block_rules.specs.Certified.{phi_count}
use Rattle.block_rules.specs.Edges.{entry_facts_at}
use Rattle.diagnosis.specs.Before.{seen, after_all, body_before}
use Rattle.diagnosis.proofs.Followed.{followed}
use Rattle.diagnosis.proofs.before.facts_before.Goals as goal

pub returns-clause-as_checked : goal.returns-clause-as_checked
returns-clause-as_checked c last follows =
    let given = c.args.context.now in
    let s = seen given c.args.func in
    let entry = entry_facts_at s c.args.block in
    let body = body_before given c.args.block c.args.place in
    c.in_ok-follow.ensures
    ∙ ap (λ (facts : FactSet). after_all given facts c.body_before.result.now) c.in_ok-facts.ensures
    ∙ ap (λ (instrs : List Instr). after_all given entry instrs) c.body_before.ensures
    ∙ sym (followed s c.args.block (phi_count s c.args.block) entry body last follows)
