-- A step is added, if there is one.
use Rattle.std.proofs.Common.{Option, sym, subst}
use Rattle.std.specs.Prelude.{OnOk}
use Rattle.moves.specs.Runs.{with_next}
use Rattle.runs.specs.ModuleRuns.{Happening, heap_of}
use Rattle.stepping.specs.declared.happening.MadeStep.{MadeStep}
use Rattle.step_records.specs.Named.{TellsNext}
use Rattle.step_records.specs.Recorded.{IsRecordOf}
use Rattle.step_records.proofs.writing.put_made.Goals as goal

pub returns-in-None-clause-made : goal.returns-in-None-clause-made
returns-in-None-clause-made c run next is tells =
    let e = subst (λ (made : Option MadeStep). TellsNext c.args.roots.now made next) c.in-None.is tells in
    subst (λ (happened : Option Happening). IsRecordOf (heap_of (with_next happened run)) c.args.bytes.now.items) (sym e) is

pub returns-in-Some-clause-made : goal.returns-in-Some-clause-made
returns-in-Some-clause-made c run next is tells =
    let told = subst (λ (made : Option MadeStep). TellsNext c.args.roots.now made next) c.in-Some.is tells in
    subst (λ (happened : Option Happening). OnOk c.put_step.result (IsRecordOf (heap_of (with_next happened run)) c.put_step.new.bytes.items)) (sym told.1) (c.put_step.ensures.made run told.0 is told.2)
