-- The actors before their first step.
use Rattle.std.proofs.Common.{ℕ, ◌≤◌, ◌^◌, ap, sym, ◌∙◌, map, length, subst, arith}
use Rattle.pools.specs.Heap.{cells_in}
use Rattle.runs.specs.Machine.{machine_of}
use Rattle.stepping.specs.declared.beginning.NewThread.{NewThread}
use Rattle.stepping.specs.Starts.{thread_state_at_start}
use Rattle.stepping.proofs.Beginnings.{begun-of, actors-first}
use Rattle.stepping.proofs.acting.Actors.new.Goals as goal

pub returns : goal.returns
returns g c s starts schema setup late count values begin =
    let m = machine_of g.M.Machine.action g.M.Machine.after_answer g.M.Machine.roots in
    let few : cells_in c.args.schema.pools.now ≤ 2 ^ 32 = omega (arith, c.shared_at_start.ensures.limit) in
    actors-first s m (g.M.Runner.fits s) starts
    (record { schema = c.args.schema; threads = c.in_ok-threads.threads; shared = c.in_ok-shared.shared; collector = c.new-collector.result }) c.args.threads.items
    schema setup late (subst (λ pools. cells_in pools ≤ 2 ^ 32) (sym schema.pools) few) count begin (c.in_ok-threads.ensures ∙ ap (λ (layouts : ℕ). map (thread_state_at_start layouts) c.args.threads.items) (c.count.ensures ∙ sym c.requires.pools ∙ ap length (sym schema.pools)))
    (c.in_ok-shared.ensures.afterwards s schema setup (late ∙ ap (map (λ (thread : NewThread g.row.M.Denot). thread.is_late)) (sym c.as_slice.ensures.value)) (count ∙ ap length (sym c.as_slice.ensures.value)) values)
    (c.new-collector.ensures.begun ∙ begun-of s c.len.result c.args.schema.layouts.now c.args.schema.pools.now c.args.schema.globals.now (count ∙ sym c.args.threads.ok.0 ∙ sym c.len.ensures) schema.layouts schema.pools schema.globals)
