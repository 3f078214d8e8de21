use Rattle.std.proofs.Common.{arith, ◌≡◌, sym, ap, subst, ◌∙◌}
use Rattle.atomic_table.specs.Table.{Me, Splits}
use Rattle.pools.specs.Heap.{Setup}
use Rattle.heap_rule.specs.View.{View, dealt, newcomer}
use Rattle.heap_rule.specs.Rule.{Ruled, dealing}
use Rattle.heap_rule.specs.Seats.{splits}
use Rattle.heap_words.specs.Tokens.{Shared}
use Rattle.heap_words.proofs.Closing.{size_some}
use Rattle.heap_words.proofs.words.SharedWords.deal.Goals as goal

pub split_seat-seat-requires : goal.split_seat-seat-requires
split_seat-seat-requires c = let key = c.self.inside.table.shared.key in let seat = c.args.seat.now in let k = c.args.thread in
    let some = size_some key in let w = c.self.invariant.words in
    let e : key ≡ c.args.self.now.setup = ap (λ (x : Shared). x.setup) c.self.view_is in (
      c.requires.seat.0 ∙ sym (ap (λ (x : Shared). x.table) c.self.view_is),
      omega (arith, some, w),
      subst (λ (v : View). Splits (Ruled key) seat.id v (dealt v) (newcomer v)) (sym (ap (λ (m : Me (Unit {0}) View). m.0) c.requires.seat.1))
          (subst (λ (s : Setup). Splits (Ruled s) seat.id (dealing c.args.self.now.setup k) (dealt (dealing c.args.self.now.setup k)) (newcomer (dealing c.args.self.now.setup k))) (sym e) (splits c.args.self.now.setup seat.id k c.requires.thread)),
    )
