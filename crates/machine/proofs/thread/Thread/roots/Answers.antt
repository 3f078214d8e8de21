use Rattle.std.proofs.Common.{◌++◌, List, get_or, sym, ap, ◌∙◌, subst, slice_get}
use Rattle.machine.specs.declared.frame.Frame.{Frame}
use Rattle.machine.specs.declared.value.Value.{Value}
use Rattle.machine.specs.Machine.{frame_roots}
use Rattle.machine.specs.Entered.{WasEntered, WereEntered}
use Rattle.machine.proofs.Kept.{were_at}
use Rattle.machine.proofs.Roots.{same_roots, roots_more}
use Rattle.machine.proofs.thread.Thread.roots.Goals as goal

pub add_roots-requires : goal.add_roots-requires
add_roots-requires c =
    let tables = c.self.inside.entered.tables in
    let frames = c.deref-frame-items.result.now in
    let were = subst (WereEntered tables) (sym c.deref-frame-items.ensures.value) c.self.invariant.1 in
    let was = subst (λ (frame : Frame). WasEntered tables frame.function) (sym c.frame-item.is) (were_at tables frames c.loop-frame.frame-index c.frame-item.result c.loop-frame-test.true were) in
    subst (WasEntered tables) (ap (λ (frame : Frame). frame.function) c.frame.ensures) was

pub loop-frame-preserved : goal.loop-frame-preserved
loop-frame-preserved c =
    let m = c.args.self.now.program.of_module in
    let frames = c.deref-frame-items.result.now in
    let before = c.loop-frame.all.items in
    let roots : Frame → List Value = λ frame. frame_roots m frame (slice_get m.functions frame.function) in
    c.in_ok-add_roots.ensures
    ∙ ap (λ run. before ++ frame_roots run.program.of_module c.frame.result.now (slice_get run.program.of_module.functions c.frame.result.now.function)) c.self.view_is
    ∙ ap (λ l. before ++ l) (sym (ap roots c.frame.ensures ∙ same_roots m c.frame.result.now c.frame-item.result.registers (slice_get m.functions c.frame.result.now.function)))
    ∙ ap (λ frame. before ++ roots frame) c.frame-item.is
    ∙ ap (λ l. l ++ roots (get_or frames c.loop-frame.frame-index c.frame-item.result)) c.loop-frame.invariant
    ∙ sym (roots_more m frames c.loop-frame.frame-index c.frame-item.result c.loop-frame-test.true)
