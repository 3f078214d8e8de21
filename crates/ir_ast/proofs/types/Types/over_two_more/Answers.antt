use Rattle.std.proofs.Common.{◌≡◌, ◌+◌, ◌∙◌, suc, Some, arith}
use Rattle.ir_ast.proofs.Jumps.{fields_on}
use Rattle.ir_ast.proofs.types.Types.over_two_more.Goals as goal

pub returns : goal.returns
returns c =
    let next = c.in_ok-next.next in
    let after = c.in_ok-after.after in
    let one = c.in_ok-checked_add.ensures.1 in
    let both = c.in_ok-both.ensures.1 in
    let fields : c.in_ok-checked_add.field-0 ≡ suc (next.fields + after.fields) = omega (arith, one, both) in
    (next.fields + after.fields, fields, fields_on c.args.self.now (Some c.args.rest) next.fields after.fields next.to c.in_ok-next.ensures ∙ c.in_ok-after.ensures)
