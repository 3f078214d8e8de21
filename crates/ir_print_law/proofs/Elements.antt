-- getelementptr, as it is read.
use Rattle.std.proofs.Common.{ℕ, subst}
use Rattle.ir_ast.specs.declared.function.Function.{Function}
use Rattle.ir_ast.specs.declared.function.LocalSort.TheVariants as local
use Rattle.ir_ast.specs.declared.module.Module.{Module}
use Rattle.ir_tokens.specs.declared.token.Kind.TheVariants as k
use Rattle.ir_forms.specs.declared.site.Site.{Site}
use Rattle.ir_forms.specs.Elements.{element}
use Rattle.ir_print_law.specs.Elements.{IsElement}
use Rattle.ir_print_law.proofs.Arguments.{place_keeps, indices_keep}
use Rattle.ir_print_law.proofs.Decorations.{flagged_passes}
use Rattle.ir_print_law.proofs.Passes.{expect_passes}
use Rattle.ir_print_law.proofs.Reading.{Naming}
use Rattle.ir_print_law.proofs.Tokens.{having}
use Rattle.ir_print_law.proofs.TypesThat.{type_of, any_type_there}
use Rattle.ir_print_law.proofs.ValueSorts.{Gives, ends}

module _ {m : Module} {f : Function} {value : ℕ} (n : Naming m f value) where
  pub element_keeps : (site : Site) → Gives n (element site value) (IsElement m f)
  unfolding element
  element_keeps site i x o h fore =
      let r = n.within.reading in
      let t = h.3 in
      let u = t.3 in
      let w = u.3 in
      let z = w.3 in
      let a = flagged_passes r i h.0 h.1 h.2 fore in
      let b = any_type_there r h.1 t.0 t.1 t.2 a.0 in
      let c = expect_passes (having r t.0.id) k.Comma t.1 u.0 u.1 u.2 b.0 in
      let d = place_keeps n.within t.0 u.1 c.0.1 w.0 w.1 w.2 c.0.0 in
      let e = indices_keep n.within w.1 z.0 z.1 z.2 d.0 in
      let g = ends n (local.Element site.block site.place) tt (record { source = t.0.id; base_type = w.0.written; base = w.0.operand; indices = z.0 }) z.1 x o z.3 e.0 in (
        g.0,
        λ back.
            let gb = g.1 back in
            let eb = e.1 gb.0 in
            let db = d.1 eb.0 in
            let cb = c.1 db.0 in
            let bb = b.1 cb.0 in
            ((a.1 bb.0).0, subst (IsElement m f) gb.1 (bb.1.0, type_of m t.0 bb.1.0 bb.1.1, db.1.0 bb.1.0 bb.1.1, db.1.1, eb.1.0, eb.1.1)),
      )
