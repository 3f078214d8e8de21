-- Each start comes with what is drawn for its thread, whose number is the count of those before it.
use Rattle.std.proofs.Common.{◌≡◌, ◌∙◌, [], ◌∷◌, ◌++◌, Some, length, take, slice_get, sym, ap, arith, length-append}
use Rattle.std.proofs.lemmas.Option.{slice_get-get_or}
use Rattle.lemmas.specs.Lists.{first_more}
use Rattle.trace_text.specs.declared.trace.Start.{Start}
use Rattle.replay.specs.DrawnValues.{starts_drawn}
use Rattle.replay.proofs.DrawnSetups.{length-drawn, drawn-more}
use Rattle.replay.proofs.drawn_values.starts_drawn.Goals as goal

pub loop-start-preserved : goal.loop-start-preserved
loop-start-preserved c =
    let seed = c.args.seed in
    let starts = c.args.starts.now in
    let i = c.loop-start.start-index in
    let first = take i starts in
    let start = c.start-item.result in
    let at : slice_get starts i ≡ Some start = slice_get-get_or starts i start c.loop-start-test.true ∙ ap (λ (s : Start). Some s) (sym c.start-item.is) in
    let thread = c.len-thread.ensures ∙ ap length c.loop-start.invariant.drawn ∙ length-drawn seed 0 first in
    let more = c.in_ok-push.ensures.ok in
    let longer = ap length more ∙ length-append c.loop-start.drawn (c.in_ok-start_drawn.field-0 ∷ []) in
    record {
      drawn =
          more ∙ ap (λ l. l ++ c.in_ok-start_drawn.field-0 ∷ []) c.loop-start.invariant.drawn ∙ ap (λ (s : Start). starts_drawn seed 0 first ++ s ∷ []) c.in_ok-start_drawn.ensures
          ∙ sym (drawn-more seed first start c.len-thread.result thread) ∙ ap (λ l. starts_drawn seed 0 l) (sym (first_more starts i start at));
      count = omega (arith, longer, c.loop-start.invariant.count);
    }
