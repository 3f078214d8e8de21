use Rattle.std.proofs.Common.{◌≡◌, ◌∙◌, ◌≤◌, ◌^◌, ℕ, suc, List, ◌++◌, length, take, drop, ap, sym, subst, arith}
use Rattle.std.specs.List.{AllByRecursion}
use Rattle.pools.specs.Heap.{cells_in}
use Rattle.lemmas.specs.All.{all_join}
use Rattle.trace_text.specs.Traces.{IsStartOf, step_sum}
use Rattle.trace_text.specs.declared.trace.Start.{Start}
use Rattle.hunting.specs.Parts.{AreOfActors}
use Rattle.hunting.proofs.Sums.{all_take, all_drop, length_without}
use Rattle.hunting.proofs.setups.without_thread.Goals as goal

pub returns-clause-is_trace : goal.returns-clause-is_trace
returns-clause-is_trace c =
    let p = c.args.program.now in
    let t = c.args.thread in
    let starts = c.args.trace.now.setup.starts in
    let traced = c.requires.is_trace in
    let fewer = c.in_ok-starts.ensures ∙ ap (λ (l : List Start). take t l ++ drop (suc t) l) c.as_slice.ensures in
    let lines = c.as_slice-2.ensures in
    let count = ap length fewer ∙ length_without t starts c.requires.thread in
    record {
      one_each = ap length c.in_ok-pools.ensures ∙ traced.one_each;
      cells = subst (λ (pools : List ℕ). cells_in pools ≤ 2 ^ 20) (sym c.in_ok-pools.ensures) traced.cells;
      starts = subst (λ (l : List Start). AllByRecursion (IsStartOf p) l) (sym fewer)
          (all_join (IsStartOf p) (take t starts) (drop (suc t) starts) (all_take (IsStartOf p) t starts traced.starts) (all_drop (IsStartOf p) (suc t) starts traced.starts));
      threads = omega (arith, count, traced.threads);
      actors = subst (λ n. AreOfActors n c.in_ok-steps.steps) (sym count) (c.in_ok-steps.ensures.actors (length starts) c.requires.thread (subst (λ l. AreOfActors (length starts) l) (sym lines) traced.actors));
      steps = let same = ap step_sum lines in omega (arith, c.in_ok-steps.ensures.sum, traced.steps, same);
    }

pub returns-clause-starts : goal.returns-clause-starts
returns-clause-starts c = c.in_ok-starts.ensures ∙ ap (λ (l : List Start). take c.args.thread l ++ drop (suc c.args.thread) l) c.as_slice.ensures
