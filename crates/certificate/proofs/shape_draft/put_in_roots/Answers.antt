use Rattle.std.proofs.Common.{◌≡◌, Option, slice_set, unwrap_or, ap, sym, ◌∙◌}
use Rattle.std.proofs.lemmas.List.{set-set}
use Rattle.ir_ast.specs.declared.shapes.RootShapes.{RootShapes}
use Rattle.certificate.specs.ShapeDrafts.{no_roots, roots_at, with_root}
use Rattle.certificate.proofs.shape_draft.put_in_roots.Goals as goal

pub returns : goal.returns
returns c =
    let roots = c.args.roots.now in
    let symbol = c.args.symbol in
    let was : roots_at roots symbol ≡ c.replace-old.result = ap (λ (x : Option RootShapes). unwrap_or x no_roots) c.replace-old.ensures.given_back in
    let new = c.in_ok-new.new in
    c.set.ensures
    ∙ ap (λ x. slice_set x symbol new) c.replace-old.ensures.new
    ∙ set-set roots symbol c.no_roots.result new
    ∙ ap (slice_set roots symbol) (c.in_ok-new.ensures ∙ ap (with_root c.args.name.now c.args.target) (sym was))
