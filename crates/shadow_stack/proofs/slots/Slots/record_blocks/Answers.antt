use Rattle.std.proofs.Common.{rules, ◌≡◌, []}
use Rattle.shadow_stack.proofs.Rows.{all_roots}
use Rattle.shadow_stack.proofs.slots.Slots.record_blocks.Goals as goal

pub returns-then-is_empty : goal.returns-then-is_empty
returns-then-is_empty c =
    let none : c.args.self.now.held ≡ [] = search (rules, c.self.view_is, c.if-is_empty.ensures) in
    all_roots c.args.module.now c.args.self.now c.args.blocks.now none
