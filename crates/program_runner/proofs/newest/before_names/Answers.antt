use Rattle.std.proofs.Common.{◌≡◌, ◌<◌, ◌-◌, ◌==◌, ◌&&◌, ◌∙◌, Bool, true, false, not, length, get_or, drop, sym, subst, refl, arith}
use Rattle.program_safety.specs.Threads.{reference_in}
use Rattle.program_runner.proofs.Tails.{one_reference, same_parts, one_more, named_at}
use Rattle.program_runner.proofs.newest.before_names.Goals as goal

-- a test that fails holds otherwise
is_not : (b : Bool) → false ≡ not b → b ≡ true
is_not true e = refl
is_not false e = absurd cc

-- and one that holds does not
is_so : (b : Bool) → true ≡ not b → b ≡ true → ⊥
is_so b e is = absurd cc

pub returns-then-ne-clause-none : goal.returns-then-ne-clause-none
returns-then-ne-clause-none c none before whole =
    let r = c.index-last-place.result in
    let back : c.split_at.result.1.now ≡ drop (length c.args.roots.now - c.len-count.result) c.args.roots.now = c.split_at.ensures.back in
    is_so ((c.reference_in.result.cell == r.cell) && (c.reference_in.result.birth == r.birth)) c.if-ne.ensures
    (same_parts c.reference_in.result r (c.reference_in.ensures
    ∙ named_at reference_in c.args.own.now c.args.roots.now before (length c.args.roots.now - c.len-count.result) c.loop-place.place c.value.result r (omega (arith, c.len-count.ensures, c.if-roots-count.false)) c.value.ensures
    (subst (λ l. c.loop-place.place < length l) back c.loop-place-test.true) (subst (λ l. r ≡ get_or l c.loop-place.place r) back c.index-last-place.is) whole))

pub loop-place-preserved : goal.loop-place-preserved
loop-place-preserved c =
    let r = c.index-last-place.result in
    one_more reference_in c.args.own.now c.split_at.result.1.now c.loop-place.place c.value.result r c.loop-place-test.true c.value.ensures c.index-last-place.is
    (sym c.reference_in.ensures ∙ one_reference c.reference_in.result r (is_not ((c.reference_in.result.cell == r.cell) && (c.reference_in.result.birth == r.birth)) c.if-ne.ensures)) c.loop-place.invariant
