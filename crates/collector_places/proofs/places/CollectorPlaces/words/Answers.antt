-- The words of a cell after that of the globals, and how many they are.
use Rattle.std.proofs.Common.{◌-◌, length, ap, sym, subst, ◌∙◌, arith}
use Rattle.pools.specs.Heap.{Setup, layout_at, words_of_cell}
use Rattle.pools.specs.Layouts.{words_of}
use Rattle.collector_places.specs.Places.{Places}
use Rattle.collector_places.proofs.WordPlaces.{words_here}
use Rattle.collector_places.proofs.places.CollectorPlaces.words.Goals as goal

pub returns-then-cell-eq0-clause-few : goal.returns-then-cell-eq0-clause-few
returns-then-cell-eq0-clause-few c = let e = ap (λ (s : Setup). length s.globals) c.plan.view_is in let n = c.self.invariant.numbered 0 in omega (arith, e, n)

pub returns-clause-words : goal.returns-clause-words
returns-clause-words c = c.words.ensures ∙ (ap (λ (s : Setup). words_of s.layouts c.pool_of.result) (c.plan.view_is ∙ ap (λ (p : Places). p.heap) c.self.view_is)
    ∙ words_here c.args.self.now.heap c.args.cell c.pool_of.result c.if-cell-eq0.false (c.pool_of.ensures.layout ∙ ap (λ (s : Setup). layout_at s.pools (c.args.cell - 1)) (c.plan.view_is ∙ ap (λ (p : Places). p.heap) c.self.view_is)))

pub returns-clause-few : goal.returns-clause-few
returns-clause-few c = let e = ap length (returns-clause-words c) in let n = c.self.invariant.numbered c.args.cell in let same = ap (λ (p : Places). length (words_of_cell p.heap c.args.cell)) c.self.view_is in omega (arith, e, n, same)
