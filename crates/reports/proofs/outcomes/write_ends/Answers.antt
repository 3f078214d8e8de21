use Rattle.std.proofs.Common.{◌≡◌, ◌∙◌, Some, slice_get, subst, sym, ap, arith}
use Rattle.std.proofs.lemmas.Option.{slice_get-get_or}
use Rattle.std.specs.Io.KnownBytes.{Appends}
use Rattle.std.proofs.KnownBytes.{Appends-trans}
use Rattle.reports.specs.Outcomes.{end_text}
use Rattle.reports.proofs.Ends.{text_next}
use Rattle.reports.proofs.outcomes.write_ends.Goals as goal

pub loop-thread-preserved : goal.loop-thread-preserved
loop-thread-preserved g c =
    let ends = c.args.ends.now in
    let i = c.loop-thread.thread in
    let end = c.index-ends-thread.result in
    let there : slice_get ends i ≡ Some end = slice_get-get_or ends i end (omega (arith, c.loop-thread-test.true)) ∙ ap Some (sym c.index-ends-thread.is) in
    subst (Appends _ _) (sym (text_next end_text ends i end there)) (Appends-trans _ _ _ _ _ c.loop-thread.invariant c.in_ok-write_end.ensures)
