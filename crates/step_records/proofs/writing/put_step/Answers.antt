-- A step is a move of a thread, or one of the collector.
use Rattle.std.proofs.Common.{◌∷◌, sym, subst}
use Rattle.std.specs.Prelude.{OnOk}
use Rattle.std.proofs.lemmas.Result.{on_ok_weaker}
use Rattle.runs.specs.ModuleRuns.{Happening, heap_of}
use Rattle.stepping.specs.Ends.{Tells}
use Rattle.stepping.specs.declared.happening.Happening.{Happening as Happened}
use Rattle.step_records.specs.Recorded.{IsRecordOf}
use Rattle.step_records.proofs.Saying.{with_turn}
use Rattle.step_records.proofs.writing.put_step.Goals as goal

pub returns-in-Thread-clause-made : goal.returns-in-Thread-clause-made
returns-in-Thread-clause-made c run happened is tells =
    let e = subst (λ (h : Happened). Tells (λ t. c.args.roots.now) h happened) c.in-Thread.is tells in
    subst (λ (h : Happening). OnOk c.put_move.result (IsRecordOf (heap_of (h ∷ run)) c.put_move.new.bytes.items)) (sym e) (c.put_move.ensures.made run is)

pub returns-in-Collector-clause-made : goal.returns-in-Collector-clause-made
returns-in-Collector-clause-made c run happened is tells =
    let new = c.put_said.new.bytes.items in
    let e = subst (λ (h : Happened). Tells (λ t. c.args.roots.now) h happened) c.in-Collector.is tells in
    on_ok_weaker c.put_said.result (λ has. subst (λ (h : Happening). IsRecordOf (heap_of (h ∷ run)) new) (sym e) (with_turn (heap_of run) _ c.args.bytes.now.items new is has))
    (c.put_said.ensures.said is.entries is.is_record)
