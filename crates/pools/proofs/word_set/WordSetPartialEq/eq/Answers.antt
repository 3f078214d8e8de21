use Rattle.std.proofs.Common.{nat_eq, ap, sym, ◌∙◌}
use Rattle.pools.specs.WordBits.{bits_of_set}
use Rattle.pools.proofs.WordBits.{same_bits}
use Rattle.pools.proofs.word_set.WordSetPartialEq.eq.Goals as goal

pub returns : goal.returns
returns c =
    let one = same_bits c.t1-1.inside.bits c.args.self.now c.t1-1.invariant c.t1-1.view_is in
    let other = same_bits c.t2-1.inside.bits c.args.other.now c.t2-1.invariant c.t2-1.view_is in
    c.eq.ensures ∙ (ap (λ n. nat_eq n c.t2-1.inside.bits) (sym one) ∙ ap (λ n. nat_eq (bits_of_set c.args.self.now) n) (sym other))
