-- The newest frame of those that are left comes next.
use Rattle.std.proofs.Common.{◌≡◌, ◌+◌, ◌-◌, ◌++◌, ℕ, List, map, take, drop, sym, ap, ◌∙◌, arith}
use Rattle.std.proofs.lemmas.List.{append_assoc}
use Rattle.machine.specs.declared.value.Value.{Value}
use Rattle.runs.specs.Machine.{WordValue}
use Rattle.program_safety.specs.Threads.{reference_in}
use Rattle.program_runner.specs.Newest.{names_of}
use Rattle.program_runner.proofs.FrameNames.{there_first, names_from}
use Rattle.program_runner.proofs.newest.add_newest.Goals as goal

pub loop-frame-preserved : goal.loop-frame-preserved
loop-frame-preserved c =
    let now = c.args.thread.now in
    let m = now.program.of_module in
    let before = c.args.names.now.items in
    let first = take c.args.count now.state.frames in
    let n = c.loop-frame.frame - 1 in
    let next : n + 1 ≡ c.loop-frame.frame = omega (arith, c.loop-frame-test.true) in
    let at = there_first now.state.frames c.args.count n c.requires (omega (arith, next, c.loop-frame.auto.frame)) in
    let own = c.frame_roots.ensures at.0 at.1 in
    c.in_ok-add_names.ensures
    ∙ ap (λ (l : List WordValue). l ++ map reference_in c.frame_roots.result) (c.loop-frame.invariant ∙ ap (λ (k : ℕ). before ++ names_of m (drop k first)) (sym next))
    ∙ append_assoc before (names_of m (drop (n + 1) first)) (map reference_in c.frame_roots.result)
    ∙ ap (λ (l : List WordValue). before ++ l) (ap (λ (l : List Value). names_of m (drop (n + 1) first) ++ map reference_in l) own ∙ sym (names_from m first n at.0 at.2))
