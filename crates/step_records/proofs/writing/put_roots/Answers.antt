-- One root after another is named.
use Rattle.std.proofs.Common.{ℕ, List, [], ◌∷◌, ◌++◌, length, take, refl, sym, ap, subst}
use Rattle.std.proofs.lemmas.List.{take_all}
use Rattle.std.proofs.lemmas.Option.{slice_get_read}
use Rattle.std.proofs.lemmas.Result.{err_from_is_err_and}
use Rattle.runs.specs.Moves.{cells_of}
use Rattle.step_records.specs.Recorded.{HasNamed}
use Rattle.step_records.proofs.Saying.{cells_more, none_named, with_root}
use Rattle.step_records.proofs.writing.put_roots.Goals as goal

pub loop-root-init : goal.loop-root-init
loop-root-init c run is = none_named run c.args.thread c.args.bytes.now.items is

pub returns-in_err-put_said-clause-fault : goal.returns-in_err-put_said-clause-fault
returns-in_err-put_said-clause-fault c p setup =
    let e = err_from_is_err_and c.from_residual.result c.from_residual.ensures.1 in
    rw (e.1, e.2) (c.in_err-put_said.ensures.fault p setup)

pub loop-root-preserved : goal.loop-root-preserved
loop-root-preserved c run is =
    let roots = c.args.roots.now in
    let i = c.loop-root.root-index in
    let root = c.root-item.result in
    let there = slice_get_read roots (length roots) i root refl c.loop-root-test.true c.root-item.is in
    let new = c.put_said.new.bytes.items in
    let named = cells_of (take i roots) in
    let before = c.loop-root.invariant run is in
    subst (λ (l : List ℕ). HasNamed run c.args.thread l new) (sym (cells_more roots i root there))
    (subst (λ (cell : ℕ). HasNamed run c.args.thread (named ++ cell ∷ []) new) c.in-Some.ensures.some
    (with_root run c.args.thread named c.in-Some.cell c.loop-root.bytes.items new before (c.in_ok-put_said.ensures.said before.entries before.is_record)))

pub returns-clause-named : goal.returns-clause-named
returns-clause-named c run is =
    subst (λ (l : List ℕ). HasNamed run c.args.thread l c.loop-root.bytes.items) (ap cells_of (take_all c.loop-root.root-index c.args.roots.now c.loop-root-test.false)) (c.loop-root.invariant run is)
