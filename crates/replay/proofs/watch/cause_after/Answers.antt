-- The cause that the step tells, or what is gone after it; and the cover after it.
use Rattle.std.proofs.Common.{◌∷◌, None, Some, subst}
use Rattle.replay.specs.Runs.{program_machine, heap_of}
use Rattle.moves.specs.Causes.{IsStepCause}
use Rattle.moves.specs.Runs.{run_by}
use Rattle.stepping.specs.Reach.{IsFirstGone}
use Rattle.program_runner.specs.Setups.{starts_of}
use Rattle.replay.specs.Worlds.{IsStepAfter}
use Rattle.replay.proofs.StepsTaken.{cause_told, nothing_lost, none_made, unbroken_by, gone_is_cause}
use Rattle.replay.proofs.watch.cause_after.Goals as goal

pub returns-in_default-clause-cause : goal.returns-in_default-clause-cause
returns-in_default-clause-cause c = λ before actor afterwards made known unbroken.
    let w = c.args.world.now in
    let none = subst (λ o. IsStepAfter w before actor o) c.in_default.is made in
    none_made (heap_of w.program w.setup) program_machine (starts_of w.program w.setup) actor before none unbroken

pub returns-in_default-clause-cover : goal.returns-in_default-clause-cover
returns-in_default-clause-cover c = λ before actor afterwards made known none.
    let w = c.args.world.now in
    c.cover_law.ensures (heap_of w.program w.setup) (starts_of w.program w.setup) before actor None c.args.cover.now afterwards.are_actors (subst (λ o. IsStepAfter w before actor o) c.in_default.is made) tt known

pub returns-in-Some-broke-clause-cause : goal.returns-in-Some-broke-clause-cause
returns-in-Some-broke-clause-cause c = λ before actor afterwards made known unbroken.
    let w = c.args.world.now in
    let step = c.in-Some.step in
    let is = subst (λ o. IsStepAfter w before actor o) c.in-Some.is made in
    let told = cause_told (heap_of w.program w.setup) program_machine (starts_of w.program w.setup) actor before step is in
    subst (λ o. IsStepCause (heap_of w.program w.setup) program_machine (starts_of w.program w.setup) (run_by (heap_of w.program w.setup) program_machine (starts_of w.program w.setup) (actor ∷ before)) o) c.in-Some-broke.is told

pub returns-in-Nothing-clause-cause : goal.returns-in-Nothing-clause-cause
returns-in-Nothing-clause-cause c = λ before actor afterwards made known unbroken.
    let w = c.args.world.now in
    let step = c.in-Some.step in
    let is = subst (λ o. IsStepAfter w before actor o) c.in-Some.is made in
    let told = cause_told (heap_of w.program w.setup) program_machine (starts_of w.program w.setup) actor before step is in
    let none = subst (λ o. IsStepCause (heap_of w.program w.setup) program_machine (starts_of w.program w.setup) (run_by (heap_of w.program w.setup) program_machine (starts_of w.program w.setup) (actor ∷ before)) o) c.in_default-broke.is told in
    let sound = nothing_lost (heap_of w.program w.setup) program_machine (starts_of w.program w.setup) actor before step is c.in-Nothing.is unbroken in
    unbroken_by (heap_of w.program w.setup) program_machine (starts_of w.program w.setup) (run_by (heap_of w.program w.setup) program_machine (starts_of w.program w.setup) (actor ∷ before)) none.0 none.1 sound

pub returns-in-Nothing-clause-cover : goal.returns-in-Nothing-clause-cover
returns-in-Nothing-clause-cover c = λ before actor afterwards made known none.
    let w = c.args.world.now in
    let is = subst (λ o. IsStepAfter w before actor o) c.in-Some.is made in
    c.cover_law.ensures (heap_of w.program w.setup) (starts_of w.program w.setup) before actor (Some c.in-Some.step) c.args.cover.now afterwards.are_actors is c.in-Nothing.is known

pub returns-in-None-clause-cause : goal.returns-in-None-clause-cause
returns-in-None-clause-cause c = λ before actor afterwards made known unbroken.
    let w = c.args.world.now in
    let step = c.in-Some.step in
    let is = subst (λ o. IsStepAfter w before actor o) c.in-Some.is made in
    let told = cause_told (heap_of w.program w.setup) program_machine (starts_of w.program w.setup) actor before step is in
    let none = subst (λ o. IsStepCause (heap_of w.program w.setup) program_machine (starts_of w.program w.setup) (run_by (heap_of w.program w.setup) program_machine (starts_of w.program w.setup) (actor ∷ before)) o) c.in_default-broke.is told in
    let run = run_by (heap_of w.program w.setup) program_machine (starts_of w.program w.setup) (actor ∷ before) in
    let sound = subst (λ o. IsFirstGone (heap_of w.program w.setup) program_machine (starts_of w.program w.setup) run o) c.in-None.is (c.in_ok-first_gone.ensures.gone before actor afterwards is known) in
    unbroken_by (heap_of w.program w.setup) program_machine (starts_of w.program w.setup) run none.0 none.1 sound

pub returns-in-None-clause-cover : goal.returns-in-None-clause-cover
returns-in-None-clause-cover c = λ before actor afterwards made known none.
    let is = subst (λ o. IsStepAfter c.args.world.now before actor o) c.in-Some.is made in
    c.in_ok-first_gone.ensures.cover before actor afterwards is known c.in-None.is

pub returns-in-Some-2-clause-cause : goal.returns-in-Some-2-clause-cause
returns-in-Some-2-clause-cause c = λ before actor afterwards made known unbroken.
    let w = c.args.world.now in
    let step = c.in-Some.step in
    let is = subst (λ o. IsStepAfter w before actor o) c.in-Some.is made in
    let told = cause_told (heap_of w.program w.setup) program_machine (starts_of w.program w.setup) actor before step is in
    let none = subst (λ o. IsStepCause (heap_of w.program w.setup) program_machine (starts_of w.program w.setup) (run_by (heap_of w.program w.setup) program_machine (starts_of w.program w.setup) (actor ∷ before)) o) c.in_default-broke.is told in
    let run = run_by (heap_of w.program w.setup) program_machine (starts_of w.program w.setup) (actor ∷ before) in
    let first = subst (λ o. IsFirstGone (heap_of w.program w.setup) program_machine (starts_of w.program w.setup) run o) c.in-Some-2.is (c.in_ok-first_gone.ensures.gone before actor afterwards is known) in
    gone_is_cause (heap_of w.program w.setup) program_machine (starts_of w.program w.setup) run c.in-Some-2.gone none first
