use Rattle.std.proofs.Common.{ℕ, List, Option, sym, ap, subst, ◌∙◌}
use Rattle.ir_ast.specs.declared.module.Module.{Module}
use Rattle.block_rules.specs.declared.block_fault.Refusal.{Refusal}
use Rattle.answers.specs.Edited.{touched, AreWithin, AreAnswersTo}
use Rattle.answers.proofs.Kept.{all_after, touched_within}
use Rattle.answers.proofs.again.answers_again.Goals as goal

pub find_all_rows-requires-clause-within : goal.find_all_rows-requires-clause-within
find_all_rows-requires-clause-within c =
    touched_within c.args.program.now.of_module c.args.replaced c.args.callers c.as_slice-funcs.result.now
    (c.as_slice-funcs.ensures ∙ c.in_ok-touched.ensures ∙ ap (λ (m : Module). touched m c.args.replaced c.args.callers) c.module.ensures.of_module) c.requires.within

pub answers_of-requires-clause-within : goal.answers_of-requires-clause-within
answers_of-requires-clause-within c =
    touched_within c.args.program.now.of_module c.args.replaced c.args.callers c.as_slice-funcs.result.now
    (c.as_slice-funcs.ensures ∙ c.in_ok-touched.ensures ∙ ap (λ (m : Module). touched m c.args.replaced c.args.callers) c.module.ensures.of_module) c.requires.within

pub answers_of-requires-clause-kept : goal.answers_of-requires-clause-kept
answers_of-requires-clause-kept c = c.find_all_rows.ensures.rows.1

pub put_answers-requires-clause-within : goal.put_answers-requires-clause-within
put_answers-requires-clause-within c =
    subst (λ (n : ℕ). AreWithin n c.as_slice-funcs.result.now) (sym c.requires.one_each)
    (touched_within c.args.program.now.of_module c.args.replaced c.args.callers c.as_slice-funcs.result.now
    (c.as_slice-funcs.ensures ∙ c.in_ok-touched.ensures ∙ ap (λ (m : Module). touched m c.args.replaced c.args.callers) c.module.ensures.of_module) c.requires.within)

pub returns-clause-again : goal.returns-clause-again
returns-clause-again c = λ p old are edit.
    all_after c.locality_law.ensures.certified c.locality_law.ensures.refused p old c.args.program.now c.args.certs.now.sections c.args.replaced c.args.callers edit c.as_slice-funcs.result.now
    (c.as_slice-funcs.ensures ∙ c.in_ok-touched.ensures ∙ ap (λ (m : Module). touched m c.args.replaced c.args.callers) c.module.ensures.of_module) c.args.kept.now.answers c.as_slice.result.now are c.requires.one_each
    (subst (λ (xs : List (Option Refusal)). AreAnswersTo c.args.program.now c.args.certs.now.sections c.as_slice-funcs.result.now xs) (sym c.as_slice.ensures) c.in_ok-anew.ensures) c.put_answers.new.answers c.put_answers.ensures
