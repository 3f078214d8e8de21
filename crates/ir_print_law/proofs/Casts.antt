-- Bitcasts and values under other names, as they are read.
use Rattle.std.proofs.Common.{ℕ, subst}
use Rattle.ir_ast.specs.declared.function.Function.{Function}
use Rattle.ir_ast.specs.declared.function.LocalSort.TheVariants as local
use Rattle.ir_ast.specs.declared.module.Module.{Module}
use Rattle.ir_tokens.specs.declared.token.Kind.TheVariants as k
use Rattle.ir_forms.specs.Casts.{bitcast, freeze}
use Rattle.ir_print_law.specs.Casts.{IsCast}
use Rattle.ir_print_law.proofs.Arguments.{typed_keeps}
use Rattle.ir_print_law.proofs.Passes.{skip_passes, expect_passes}
use Rattle.ir_print_law.proofs.Reading.{Naming}
use Rattle.ir_print_law.proofs.TypesThat.{scalar_of, scalar_keeps}
use Rattle.ir_print_law.proofs.ValueSorts.{Gives, ends}

module _ {m : Module} {f : Function} {value : ℕ} (n : Naming m f value) where
  pub bitcast_keeps : Gives n (bitcast value) (IsCast m f)
  unfolding bitcast
  bitcast_keeps i x o h fore =
      let r = n.within.reading in
      let t = h.3 in
      let u = t.3 in
      let w = u.3 in
      let a = skip_passes r i h.0 h.1 h.2 fore in
      let b = typed_keeps n.within h.1 t.0 t.1 t.2 a.0 in
      let c = expect_passes r k.To t.1 u.0 u.1 u.2 b.0 in
      let d = scalar_keeps r u.1 w.0 w.1 w.2 c.0 in
      let e = ends n (local.Value w.0.id) tt (record { from = t.0.written; operand = t.0.operand; to = w.0.id }) w.1 x o w.3 d.0 in (
        e.0,
        λ back.
            let eb = e.1 back in
            let db = d.1 eb.0 in
            let cb = c.1 db.0 in
            let bb = b.1 cb.0 in
            ((a.1 bb.0).0, subst (IsCast m f) eb.1 (bb.1, (db.1.0.0, scalar_of m w.0 db.1))),
      )

  -- the value under another name has its type
  pub freeze_keeps : Gives n (freeze value) (IsCast m f)
  unfolding freeze
  freeze_keeps i x o h fore =
      let r = n.within.reading in
      let t = h.3 in
      let u = t.3 in
      let a = skip_passes r i h.0 h.1 h.2 fore in
      let b = typed_keeps n.within h.1 t.0 t.1 t.2 a.0 in
      let c = ends n (local.Value t.0.written) tt (record { from = t.0.written; operand = t.0.operand; to = t.0.written }) t.1 x o u b.0 in (
        c.0,
        λ back.
            let cb = c.1 back in
            let bb = b.1 cb.0 in
            ((a.1 bb.0).0, subst (IsCast m f) cb.1 (bb.1, (bb.1.0, bb.1.1))),
      )
