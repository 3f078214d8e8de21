use Rattle.std.proofs.Common.{◌==◌, ◌&&◌, cond, Some, ◌∙◌, ap, sym}
use Rattle.block_check.specs.PhiOperands.{operand_at}
use Rattle.block_check.proofs.Operands.{adds_one, adds_no_other}
use Rattle.block_check.proofs.phi_operands.PhiOperands.record_one.Goals as goal

pub returns-in-Some : goal.returns-in-Some
returns-in-Some c = adds_no_other c.args.self.now c.args.place c.args.from c.in-Some.field-0 c.args.operand (sym c.in-Some.is ∙ c.operand_from.ensures)

pub returns-in_ok-insert-in-None : goal.returns-in_ok-insert-in-None
returns-in_ok-insert-in-None c =
    adds_one c.args.self.now c.insert.new.self.entries c.args.place c.args.from c.args.operand (sym c.in-None.is ∙ c.operand_from.ensures)
    (λ key. c.in_ok-insert-in-None.ensures.updates.0 key
    ∙ ap (λ n. cond ((c.args.place == key.0) && (n == key.1)) (Some c.args.operand) (operand_at c.self.inside.each.entries key.0 key.1)) c.number.ensures
    ∙ ap (λ t. cond ((c.args.place == key.0) && (c.args.from == key.1)) (Some c.args.operand) (operand_at t key.0 key.1)) c.self.view_is)
