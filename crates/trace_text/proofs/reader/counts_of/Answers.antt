use Rattle.std.proofs.Common.{◌∙◌, sym, ap, ◌++◌, ◌∷◌, [], ℕ, List, arith}
use Rattle.std.specs.Prelude.{slice_get}
use Rattle.std.proofs.lemmas.List.FromFn.{map-range_with_len_more}
use Rattle.trace_text.specs.Text.{count_or_none, counts_of}
use Rattle.trace_text.proofs.reader.counts_of.Goals as goal

pub loop-layout-preserved : goal.loop-layout-preserved
loop-layout-preserved c =
    let more = map-range_with_len_more (λ layout. count_or_none (slice_get c.args.listed.now layout)) 0 c.loop-layout.layout c.loop-layout.layout (omega arith) in
    c.in_ok-push.ensures.ok ∙ ap (λ (counts : List ℕ). counts ++ c.count_at.result ∷ []) c.loop-layout.invariant
    ∙ ap (λ (count : ℕ). counts_of c.loop-layout.layout c.args.listed.now ++ count ∷ []) c.count_at.ensures ∙ sym more
