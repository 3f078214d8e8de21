use Rattle.std.proofs.Common.{◌≡◌, ◌+◌, ◌-◌, ◌∙◌, Some, ap, arith}
use Rattle.ir_ast.specs.Fields.{after_fields}
use Rattle.ir_ast.proofs.Jumps.{fields_on}
use Rattle.ir_ast.proofs.types.Types.after_fields.Goals as goal

pub loop-left-preserved : goal.loop-left-preserved
loop-left-preserved c =
    let types = c.args.self.now in
    let jump = c.in_ok-jump.jump in
    let over = c.in_ok-jump.ensures.some in
    let within = over.2 in
    let fields = c.from-left.ensures in
    let split : c.loop-left.left ≡ jump.fields + (c.loop-left.left - c.from-left.result) = omega (arith, within, fields) in
    c.loop-left.invariant ∙ ap (after_fields types (Some c.loop-left.to)) split
    ∙ fields_on types (Some c.loop-left.to) jump.fields (c.loop-left.left - c.from-left.result) jump.to over.0
