use Rattle.std.proofs.Common.{◌≡◌, [], List, Option, Some, slice_set, unwrap_or, ap, sym, ◌∙◌}
use Rattle.std.proofs.lemmas.List.{set-set}
use Rattle.ir_ast.specs.Shapes.{row_at}
use Rattle.certificate.proofs.shape_draft.put_in_row.Goals as goal

pub returns : goal.returns
returns c =
    let rows = c.args.rows.now in
    let row = c.args.row in
    let was : row_at rows row ≡ c.replace-old.result = ap (λ (x : Option (List (Option _))). unwrap_or x []) c.replace-old.ensures.given_back in
    let new = c.with_shape.result in
    c.set.ensures
    ∙ ap (λ x. slice_set x row new) c.replace-old.ensures.new
    ∙ set-set rows row c.new.result new
    ∙ ap (slice_set rows row) (c.with_shape.ensures ∙ ap (λ x. slice_set x c.args.word (Some c.args.target)) (sym was))
