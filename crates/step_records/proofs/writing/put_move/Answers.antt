-- The roots that the move names, and then its step, if it is one.
use Rattle.std.proofs.Common.{ℕ, List, subst}
use Rattle.std.proofs.lemmas.Result.{err_from_is_err_and, on_ok_weaker}
use Rattle.moves.specs.Calls.{move_in}
use Rattle.runs.specs.ModuleRuns.{heap_of}
use Rattle.runs.specs.Moves.{step_of}
use Rattle.step_records.specs.Named.{roots_by, IsSaidBy}
use Rattle.step_records.specs.Recorded.{HasNamed}
use Rattle.step_records.proofs.Saying.{with_move, without_step}
use Rattle.step_records.proofs.writing.put_move.Goals as goal

pub returns-in_err-put_roots-clause-fault : goal.returns-in_err-put_roots-clause-fault
returns-in_err-put_roots-clause-fault c p setup =
    let e = err_from_is_err_and c.from_residual.result c.from_residual.ensures.1 in
    rw (e.1, e.2) (c.in_err-put_roots.ensures.fault p setup)

pub returns-in-Some-NoStep-clause-made : goal.returns-in-Some-NoStep-clause-made
returns-in-Some-NoStep-clause-made c run is =
    let made = c.args.made.now in
    let roots = c.args.roots.now in
    let new = c.put_roots.new.bytes.items in
    let named = subst (λ (l : List ℕ). HasNamed (heap_of run) c.args.thread l new) c.roots_by.ensures (c.in_ok-put_roots.ensures.named (heap_of run) is) in
    let says = subst (IsSaidBy (step_of (move_in roots made)) (roots_by made roots)) c.in-Some-NoStep.field-0-is (c.in-Some-NoStep.ensures.some roots) in
    without_step run c.args.thread (move_in roots made) (roots_by made roots) new named says.0 says.1

pub returns-in-Some-Step-clause-made : goal.returns-in-Some-Step-clause-made
returns-in-Some-Step-clause-made c run is =
    let made = c.args.made.now in
    let roots = c.args.roots.now in
    let old = c.put_roots.new.bytes.items in
    let new = c.put_said.new.bytes.items in
    let named = subst (λ (l : List ℕ). HasNamed (heap_of run) c.args.thread l old) c.roots_by.ensures (c.in_ok-put_roots.ensures.named (heap_of run) is) in
    let says = subst (IsSaidBy (step_of (move_in roots made)) (roots_by made roots)) c.in-Some-Step.field-0-is (c.in-Some-Step.ensures.some roots) in
    on_ok_weaker c.put_said.result (λ has. with_move run c.args.thread (move_in roots made) (roots_by made roots) c.in-Some-Step.step old new named has says.0 says.1)
    (c.put_said.ensures.said named.entries named.is_record)
