-- One more cell was tried in vain.
use Rattle.std.proofs.Common.{◌≡◌, ◌+◌, suc, sym, ap, ◌∙◌, arith}
use Rattle.moves.specs.Calls.{action_of}
use Rattle.moves.specs.Moving.{tried_in}
use Rattle.moves.specs.Stands.{cells_to_try}
use Rattle.moves.proofs.Losses.{after-loss, none-tried}
use Rattle.moves.proofs.moving.afterwards_loss.Goals as goal

pub returns-in-Trying : goal.returns-in-Trying
returns-in-Trying c s stage hints roots cell e next =
    let is : c.in-Trying.tried + 1 ≡ suc (tried_in c.args.call_phase) = rw c.in-Trying.is (omega arith) in
    c.tries_left.ensures (cells_to_try s hints (action_of c.args.call.now)) roots ∙ after-loss s c.args.pools.now c.args.call.now hints roots stage c.args.call_phase _ cell e is next

pub returns-in_default : goal.returns-in_default
returns-in_default c s stage hints roots cell e next =
    let is : 1 ≡ suc (tried_in c.args.call_phase) = ap suc (sym (none-tried c.args.call_phase c.in_default.not-Trying)) in
    c.tries_left-in_default.ensures (cells_to_try s hints (action_of c.args.call.now)) roots ∙ after-loss s c.args.pools.now c.args.call.now hints roots stage c.args.call_phase _ cell e is next
