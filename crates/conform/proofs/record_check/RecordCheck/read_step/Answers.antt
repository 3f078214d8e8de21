use Rattle.std.proofs.Common.{◌∷◌, ◌∙◌, arith, refl, sym, subst}
use Rattle.std.specs.Prelude.{IfNone}
use Rattle.colours.specs.Runs.{ByThread}
use Rattle.record_text.specs.Records.{run_of, step_with}
use Rattle.conform.specs.Checks.{IsCheckAfter}
use Rattle.conform.proofs.Records.{run_short, read_thread}
use Rattle.conform.proofs.record_check.RecordCheck.read_step.Goals as goal

pub overflow_add-self : goal.overflow_add-self
overflow_add-self c = let r = c.requires in let few = run_short r.1 in let l = r.3 in let k = r.2.steps in omega (arith, few, l, k)

pub returns-clause-read : goal.returns-clause-read
returns-clause-read c = λ s entries is entry said.
    let check = subst (λ o. IfNone o (IsCheckAfter s (ByThread c.args.thread (step_with c.as_slice.result.now c.args.step) ∷ run_of entries) c.step.new.self)) c.in_default-2.is (c.in_ok-rule.ensures.none s (run_of entries) is.run) in
    read_thread s entries c.args.self.now is entry c.args.thread c.args.step c.as_slice.result.now said (c.as_slice.ensures ∙ is.roots.each c.args.thread c.in-Some.roots.now (sym c.in-Some.ensures)) _ check c.forget_roots.ensures refl
