use Rattle.std.proofs.Common.{◌≡◌, ℕ, suc, ◌+◌, ◌-◌, ◌*◌, arith, sym, subst}
use Rattle.shadow_stack.specs.Slots.{AreBack, NamesAreExact}
use Rattle.shadow_stack.proofs.Turns.{none_back, settled_at, names_at_row, addresses_at_row, names_are_exact}
use Rattle.shadow_stack.proofs.hops.follow.Goals as goal

pub loop-origins-init : goal.loop-origins-init
loop-origins-init c = record { positive = omega arith; back = none_back c.args.origins.now }

pub loop-origins-preserved : goal.loop-origins-preserved
loop-origins-preserved c =
    let n : ℕ = c.loop-origins.reach - 1 in
    let positive = c.loop-origins.invariant.positive in
    let turns : n + suc n ≡ c.loop-origins.reach * 2 - 1 = omega (arith, positive) in
    record {
      positive = omega (arith, positive);
      back = subst (λ k. AreBack c.args.origins.now k c.hop_each.new.row) turns (c.hop_each.ensures c.args.origins.now n c.loop-origins.invariant.back);
    }

pub returns-clause-slots : goal.returns-clause-slots
returns-clause-slots c =
    names_at_row c.args.origins.now c.loop-origins.origins (c.loop-origins.reach - 1)
    (settled_at c.args.origins.now c.loop-origins.origins c.as_slice.result.now c.as_slice.ensures c.loop-origins.reach c.loop-origins.invariant.positive c.loop-origins.invariant.back (c.goes_on.ensures.settled c.loop-origins-test.false))
    c.loop-origins.invariant.back

pub returns-clause-addresses : goal.returns-clause-addresses
returns-clause-addresses c =
    addresses_at_row c.args.origins.now c.loop-origins.origins (c.loop-origins.reach - 1)
    (settled_at c.args.origins.now c.loop-origins.origins c.as_slice.result.now c.as_slice.ensures c.loop-origins.reach c.loop-origins.invariant.positive c.loop-origins.invariant.back (c.goes_on.ensures.settled c.loop-origins-test.false))
    c.loop-origins.invariant.back

pub returns-clause-exact : goal.returns-clause-exact
returns-clause-exact c = subst (λ names. NamesAreExact c.args.origins.now names) (sym (returns-clause-slots c)) (names_are_exact c.args.origins.now)
