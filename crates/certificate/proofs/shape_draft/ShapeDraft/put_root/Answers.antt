use Rattle.std.proofs.Common.{◌≡◌, ℕ, List, ap, ◌∙◌}
use Rattle.std.specs.Prelude.{slice_set}
use Rattle.ir_ast.specs.Names.{name_at}
use Rattle.ir_ast.specs.declared.shapes.RootShapes.{RootShapes}
use Rattle.ir_tokens.specs.Bytes.{Text}
use Rattle.certificate.specs.ShapeDrafts.{roots_at, with_root, with_root_shape}
use Rattle.certificate.proofs.shape_draft.ShapeDraft.put_root.Goals as goal

-- the same slot by an equal symbol and an equal name
put_same : (old new : List RootShapes) (symbol same target : ℕ) (name known : Text) → symbol ≡ same → name ≡ known
    → new ≡ slice_set old symbol (with_root name target (roots_at old symbol)) → new ≡ slice_set old same (with_root known target (roots_at old same))
put_same old new symbol same target name known is_same is_known is =
    is
    ∙ ap (λ (s : ℕ). slice_set old s (with_root name target (roots_at old s))) is_same
    ∙ ap (λ (n : Text). slice_set old same (with_root n target (roots_at old same))) is_known

pub returns : goal.returns
unfolding with_root_shape
returns c =
    let before = c.args.self.now in
    let known = c.name_at-name.ensures ∙ ap (name_at c.args.function.now.locals) c.number.ensures in
    ap (λ (roots : List RootShapes). record before { shapes = record before.shapes { roots = roots } })
    (put_same before.shapes.roots c.put_in_roots.new.roots _ _ c.args.target _ _ c.number-symbol.ensures known c.in_ok-put_in_roots.ensures)
