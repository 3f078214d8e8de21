-- The frames that are kept are there before and after, and what is told of the roots above them is so of all.
use Rattle.std.proofs.Common.{◌≡◌, ◌-◌, ◌++◌, List, length, take, sym, ap, ◌∙◌, subst, arith}
use Rattle.layout.specs.Layouts.{LaidOut}
use Rattle.machine.specs.Machine.{Run, after_answer}
use Rattle.moves.specs.RootsAfter.{IsToldOfRoots}
use Rattle.runs.specs.Machine.{WordValue}
use Rattle.program_safety.specs.Threads.{ProgramThread, names}
use Rattle.program_runner.specs.Newest.{names_of, AreKept}
use Rattle.program_runner.proofs.Kept.{kept_there, told_of_all}
use Rattle.program_runner.proofs.program_thread.ProgramThreadRunner.answer.Goals as goal

pub overflow_sub-frames : goal.overflow_sub-frames
overflow_sub-frames c =
    let thread = c.self.inside.thread in
    let given = c.given_as-given.result in
    let there = kept_there c.kept-kept.result thread.state.frames (after_answer thread.program thread.state given).frames (c.kept-kept.ensures given) in
    let few = there.0 in
    omega (arith, few, c.frames.ensures)

pub returns-clause-roots : goal.returns-clause-roots
returns-clause-roots c =
    let thread = c.self.inside.thread in
    let m = thread.program.of_module in
    let kept = c.kept-kept.result in
    let told = c.compared.result in
    let new = c.resume.new.self in
    let gone_on : new.state.frames ≡ (after_answer thread.program thread.state c.given_as-given.result).frames = ap (λ (t : Run). t.state.frames) c.in_ok-resume.ensures.ok in
    let same = subst (λ frames. AreKept kept thread.state.frames frames) (sym gone_on) (c.kept-kept.ensures c.given_as-given.result) in
    let before : c.as_slice.result.now ≡ names_of m (take (length thread.state.frames - kept) thread.state.frames) =
    c.as_slice.ensures.value
    ∙ c.in_ok-add_newest.ensures
    ∙ ap (λ (l : List WordValue). l ++ names_of m (take (c.frames.result - kept) thread.state.frames)) c.clear.ensures.items
    ∙ ap (λ n. names_of m (take (n - kept) thread.state.frames)) c.frames.ensures in
    let after = subst (λ (p : LaidOut). IsToldOfRoots told c.as_slice.result.now (names_of p.of_module (take (length new.state.frames - kept) new.state.frames))) (ap (λ (t : Run). t.program) c.in_ok-resume.ensures.ok) c.compared.ensures in
    let all =
    told_of_all m kept thread.state.frames new.state.frames told same
    (subst (λ (l : List WordValue). IsToldOfRoots told l (names_of m (take (length new.state.frames - kept) new.state.frames))) before after) in
    subst (λ (t : ProgramThread). IsToldOfRoots told (names t) (names_of c.self.inside.program.now.of_module new.state.frames)) c.self.view_is
    (subst (λ (p : LaidOut). IsToldOfRoots told (names_of p.of_module thread.state.frames) (names_of p.of_module new.state.frames)) c.self.invariant.0 all)
