-- The walk after the step that was made.
use Rattle.std.proofs.Common.{◌≡◌, Some, List, slice_get, sym, subst, ◌∙◌}
use Rattle.runs.specs.Machine.{WordValue, machine_of}
use Rattle.stepping.specs.Roots.{new_roots, roots_of}
use Rattle.stepping.specs.Walks.{IsNearlyClosed}
use Rattle.stepping.proofs.CoverSteps.{turn-kept, move-near, move-kept-ok}
use Rattle.stepping.proofs.acting.Actors.kept.Goals as goal

pub returns-in-Collector : goal.returns-in-Collector
returns-in-Collector g c s starts before actor b is known =
    let m = machine_of g.M.Machine.action g.M.Machine.after_answer g.M.Machine.roots in
    turn-kept s m (g.M.Runner.fits s) starts before actor c.args.self.now b c.args.step.now is c.in-Collector.turn c.in-Collector.is c.args.walk known c.after_turn.result c.after_turn.ensures

pub returns-in_ok-roots-in-Thread : goal.returns-in_ok-roots-in-Thread
returns-in_ok-roots-in-Thread g c s starts before actor b is known =
    let m = machine_of g.M.Machine.action g.M.Machine.after_answer g.M.Machine.roots in
    let a = c.args.self.now in
    let t = c.in-Thread.thread in
    let thread_state = c.in-Some.thread_state.now in
    let at : slice_get a.threads.items t ≡ Some thread_state = sym c.in-Some.ensures in
    let own : c.as_slice.result.now ≡ new_roots m.roots g.M.Runner.newest thread_state c.in-Thread.made = c.as_slice.ensures.value ∙ c.in_ok-roots-in-Thread.ensures in
    let near = move-near s m (g.M.Runner.fits s) starts before actor a b c.args.step.now is t c.in-Thread.made c.in-Thread.is thread_state at (g.met.M.Runner.keeps_kinds s) g.M.Runner.newest g.met.M.Runner.keeps_roots c.args.walk known c.stored_by-stored.result (c.stored_by-stored.ensures s _ b.schema) in
    move-kept-ok s m (g.M.Runner.fits s) starts before actor a b c.args.step.now is t c.in-Thread.made c.in-Thread.is thread_state at (g.met.M.Runner.keeps_kinds s) g.M.Runner.newest g.met.M.Runner.keeps_roots c.walked_on.result
    (c.walked_on.ensures s (roots_of m.roots a.threads.items) b.schema
    (subst (λ (rs : List WordValue). IsNearlyClosed s a.shared (roots_of m.roots a.threads.items) rs c.stored_by-stored.result c.args.walk) (sym own) near))
