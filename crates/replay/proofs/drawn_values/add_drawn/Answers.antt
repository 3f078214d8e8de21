-- Each number that is drawn comes after those before it.
use Rattle.std.proofs.Common.{◌∙◌, ◌+◌, ◌-◌, [], ◌++◌, sym, ap}
use Rattle.std.proofs.lemmas.List.{append-nil}
use Rattle.rand_core.specs.Steps.{stream_of, steps_u32}
use Rattle.rand_pcg.specs.Pcg.{pcg32}
use Rattle.replay.specs.DrawnValues.{numbers_from}
use Rattle.replay.proofs.DrawnNumbers.{numbers-none, numbers-more, numbers-all}
use Rattle.replay.proofs.drawn_values.add_drawn.Goals as goal

pub loop-value-init : goal.loop-value-init
loop-value-init c =
    numbers-none c.args.values.now c.args.seed c.args.thread c.seed_of_values.result (stream_of (steps_u32 pcg32) c.seeded-rng.result) c.seeded-rng.ensures c.seed_of_values.ensures

pub loop-value-preserved : goal.loop-value-preserved
loop-value-preserved c =
    let i = c.loop-value._value in
    let s = stream_of (steps_u32 pcg32) c.loop-value.rng in
    let t = stream_of (steps_u32 pcg32) c.next_u64.new.self in
    numbers-more c.args.values.now c.loop-value.values c.args.seed c.args.thread i c.next_u64.result s t c.loop-value-test.true c.next_u64.ensures c.loop-value.invariant
    ∙ ap (λ l. l ++ numbers_from (16 - (i + 1)) t) (sym c.in_ok-push.ensures.ok)

pub returns : goal.returns
returns c =
    sym (c.loop-value.invariant ∙ numbers-all c.loop-value.values c.loop-value._value (stream_of (steps_u32 pcg32) c.loop-value.rng) c.loop-value-test.false ∙ append-nil c.loop-value.values)
