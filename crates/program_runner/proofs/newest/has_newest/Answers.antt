-- The frames hold a list exactly if each ends what is left of it, the newest first.
use Rattle.std.proofs.Common.{◌++◌, ◌∙◌, List, map, take, refl, sym, ap}
use Rattle.machine.specs.declared.value.Value.{Value}
use Rattle.program_safety.specs.Threads.{reference_in}
use Rattle.program_runner.proofs.FrameNames.{there_first, rest_before, no_rest}
use Rattle.program_runner.proofs.newest.has_newest.Goals as goal

pub returns-in-None : goal.returns-in-None
returns-in-None c =
    let now = c.args.thread.now in
    let n = c.loop-frame.frame in
    let at = there_first now.state.frames c.args.count n c.requires c.loop-frame-test.true in
    let own = c.frame_roots.ensures at.0 at.1 in
    let other = no_rest now.program.of_module (take c.args.count now.state.frames) c.args.roots.now n c.loop-frame.rest.now at.0 at.2 c.loop-frame.invariant
    (λ before is. c.in-None.ensures.none refl before (is ∙ ap (λ (l : List Value). before ++ map reference_in l) (sym own))) in
    ((λ yes. absurd cc), (λ same. absurd (other same)))

pub loop-frame-preserved : goal.loop-frame-preserved
loop-frame-preserved c =
    let now = c.args.thread.now in
    let n = c.loop-frame.frame in
    let at = there_first now.state.frames c.args.count n c.requires c.loop-frame-test.true in
    let own = c.frame_roots.ensures at.0 at.1 in
    rest_before now.program.of_module (take c.args.count now.state.frames) c.args.roots.now n c.loop-frame.rest.now c.in-Some.before.now at.0 at.2 c.loop-frame.invariant
    (c.in-Some.ensures.before ∙ ap (λ (l : List Value). c.in-Some.before.now ++ map reference_in l) own)
