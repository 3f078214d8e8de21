use Rattle.std.proofs.Common.{◌+◌, ◌≤◌, length, subst, arith}
use Rattle.replay.specs.DrawnValues.{setup_of_seed}
use Rattle.replay.specs.Soaks.{actors_drawn, IsLeastFrom}
use Rattle.replay.proofs.TraceSteps.{safe_breaks_none}
use Rattle.replay.proofs.DrawnSetups.{safe_of_seed}
use Rattle.replay.proofs.Chunks.{chunk_ends, sound_on, least_of_all}
use Rattle.replay.proofs.soaking.soak.Goals as goal

-- The least seed of a chunk is the least of all, since no seed before the chunk breaks its run.
pub returns-in-Some-clause-outcome : goal.returns-in-Some-clause-outcome
returns-in-Some-clause-outcome g c =
    let p = c.args.program.now in
    let setup = c.args.setup.now in
    let begins = setup_of_seed c.args.schedules.drawn_values p setup in
    let next = c.loop-next.next in
    let end = next + c.min.result in
    let least = subst (λ o. IsLeastFrom p begins c.args.schedules.steps next end o) c.in-Some.is c.in_ok-broken.ensures.least in
    least_of_all p begins c.args.schedules.first c.args.schedules.past c.args.schedules.steps next end c.in-Some.broken c.loop-next.invariant.low c.loop-next.invariant.sound (chunk_ends c.args.schedules.past next 256 c.min.result c.loop-next.invariant.within c.min.ensures) least

-- No schedule of a safe setup breaks its run.
pub returns-in-Some-clause-safe : goal.returns-in-Some-clause-safe
returns-in-Some-clause-safe g c certs certified =
    let p = c.args.program.now in
    let setup = c.args.setup.now in
    let begins = setup_of_seed c.args.schedules.drawn_values p setup in
    let b = c.in-Some.broken in
    let least = subst (λ o. IsLeastFrom p begins c.args.schedules.steps c.loop-next.next (c.loop-next.next + c.min.result) o) c.in-Some.is c.in_ok-broken.ensures.least in
    safe_breaks_none p (begins b.seed) (actors_drawn (length (begins b.seed).starts) b.seed c.args.schedules.steps) b.broken
    (safe_of_seed p b.seed setup c.args.schedules.drawn_values certs c.setup_law.ensures c.requires.setup c.in_ok-may_begin.ensures.no_fault certified) least.3

-- No seed up to the end of the chunk breaks its run.
pub loop-next-preserved : goal.loop-next-preserved
loop-next-preserved g c =
    let p = c.args.program.now in
    let setup = c.args.setup.now in
    let begins = setup_of_seed c.args.schedules.drawn_values p setup in
    let next = c.loop-next.next in
    let end = next + c.min.result in
    let more = subst (λ o. IsLeastFrom p begins c.args.schedules.steps next end o) c.in_default.is c.in_ok-broken.ensures.least in
    record {
      sound = sound_on p begins c.args.schedules.steps c.args.schedules.first next end c.loop-next.invariant.sound more;
      low = let before : c.args.schedules.first ≤ next = c.loop-next.invariant.low in omega (arith, before);
      within = chunk_ends c.args.schedules.past next 256 c.min.result c.loop-next.invariant.within c.min.ensures;
    }
