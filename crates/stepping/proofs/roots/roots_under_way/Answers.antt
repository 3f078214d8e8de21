-- After one thread more its roots are at the end.
use Rattle.std.proofs.Common.{◌<◌, List, length, take, ◌++◌, arith, ap, sym, ◌∙◌}
use Rattle.runs.specs.Machine.{WordValue}
use Rattle.stepping.specs.Roots.{roots_of}
use Rattle.stepping.proofs.RunRoots.{roots-of-more}
use Rattle.stepping.proofs.roots.roots_under_way.Goals as goal

pub loop-thread_state-preserved : goal.loop-thread_state-preserved
loop-thread_state-preserved g c =
    let roots = g.M.Machine.roots in
    let here : c.loop-thread_state.thread_state-index < length c.args.threads.now = omega arith in
    c.in_ok-extend_from_slice.ensures.items
    ∙ ap (λ (rs : List WordValue). rs ++ c.as_slice.result.now) c.loop-thread_state.invariant
    ∙ ap (λ (rs : List WordValue). roots_of roots (take c.loop-thread_state.thread_state-index c.args.threads.now) ++ rs) (c.as_slice.ensures.value ∙ c.in_ok-own_roots.ensures)
    ∙ sym (roots-of-more roots c.args.threads.now c.loop-thread_state.thread_state-index c.thread_state-item.result here c.thread_state-item.is)
