use Rattle.std.proofs.Common.{◌≡◌, ◌+◌, suc, drop, slice_get, true, false, ap, sym, subst, ◌∙◌, arith}
use Rattle.ir_ast.specs.PointerKinds.{is_typed_at, has_typed}
use Rattle.ir_ast.proofs.TypedPointers.{one_found, none_here}
use Rattle.ir_ast.proofs.pointer_kinds.has_typed_pointer.Goals as goal

pub returns-then-is_typed_at : goal.returns-then-is_typed_at
returns-then-is_typed_at c =
    let at : is_typed_at (slice_get c.args.types.now c.loop-number.number) ≡ true =
    ap (λ n. is_typed_at (slice_get c.args.types.now n)) (sym c.new.ensures) ∙ ap is_typed_at (sym c.get.ensures) ∙ sym c.is_typed_at.ensures ∙ c.if-is_typed_at.true in
    one_found c.args.types.now c.loop-number.number (omega (arith, c.loop-number-test.true, c.count-number-end.ensures.count)) at c.loop-number.invariant

pub loop-number-preserved : goal.loop-number-preserved
loop-number-preserved c =
    let at : is_typed_at (slice_get c.args.types.now c.loop-number.number) ≡ false =
    ap (λ n. is_typed_at (slice_get c.args.types.now n)) (sym c.new.ensures) ∙ ap is_typed_at (sym c.get.ensures) ∙ sym c.is_typed_at.ensures ∙ c.if-is_typed_at.false in
    let next : suc c.loop-number.number ≡ c.loop-number.number + 1 = omega arith in
    let later = none_here c.args.types.now c.loop-number.number (omega (arith, c.loop-number-test.true, c.count-number-end.ensures.count)) at c.loop-number.invariant in
    subst (λ n. has_typed (drop n c.args.types.now) ≡ has_typed c.args.types.now) next later
