use Rattle.std.proofs.Common.{◌≡◌, ◌≤◌, Bool, List, ◌++◌, [], ◌∷◌, Some, length, map, take, slice_get, refl, sym, ap, ap₂, ◌∙◌, subst, arith, add-one}
use Rattle.std.proofs.lemmas.Option.{slice_get_read}
use Rattle.std.proofs.lemmas.Result.{err_from_is_err_and}
use Rattle.program_runner.specs.Threads.{ProgramThread}
use Rattle.stepping.specs.declared.beginning.NewThread.{NewThread}
use Rattle.trace_text.specs.declared.trace.Start.{Start}
use Rattle.program_runner.specs.Setups.{new_thread}
use Rattle.program_runner.specs.SafeSetups.{first_fault, no_fault_before, one_more, one_more_begun, all_begun}
use Rattle.program_runner.proofs.starts.begun_threads.Goals as goal

pub loop-number-init : goal.loop-number-init
loop-number-init c = (c.as_slice-begun-items.ensures, c.new-threads.ensures.items, λ u begun lt at. absurd (omega arith))

pub returns-in_err-machine-clause-fault : goal.returns-in_err-machine-clause-fault
returns-in_err-machine-clause-fault c =
    let p = err_from_is_err_and c.from_residual.result c.from_residual.ensures.1 in
    let read = slice_get_read c.as_slice-begun-items.result.now (length c.as_slice-begun-items.result.now) c.loop-number.number c.begun-item.result refl c.loop-number-test.true c.begun-item.is in
    let at = subst (λ (all : List Start). slice_get all c.loop-number.number ≡ Some c.begun-item.result) c.as_slice-begun-items.ensures read in
    rw (p.1, p.2) (λ other. first_fault c.args.program.now c.args.setup.now c.loop-number.number c.begun-item.result c.in_err-machine.field-0.0 c.loop-number.invariant.2 at (c.in_err-machine.ensures.fault other))

pub loop-number-preserved : goal.loop-number-preserved
loop-number-preserved c =
    let p = c.args.program.now in
    let setup = c.args.setup.now in
    let number = c.loop-number.number in
    let read = slice_get_read c.as_slice-begun-items.result.now (length c.as_slice-begun-items.result.now) c.loop-number.number c.begun-item.result refl c.loop-number-test.true c.begun-item.is in
    let at = subst (λ (all : List Start). slice_get all c.loop-number.number ≡ Some c.begun-item.result) c.as_slice-begun-items.ensures read in
    let more = one_more_begun (new_thread p setup) setup.starts number c.begun-item.result at in (
      c.as_slice-begun-items.ensures,
      rw add-one (c.in_ok-push.ensures.items
          ∙ ap (λ (all : List (NewThread ProgramThread)). all ++ record { machine = c.in_ok-machine.machine; is_late = c.is_late-is_late.result } ∷ []) c.loop-number.invariant.1
          ∙ ap₂ (λ (machine : ProgramThread) (late : Bool). map (new_thread p setup) (take number setup.starts) ++ record { machine = machine; is_late = late } ∷ []) c.in_ok-machine.ensures.ok c.is_late-is_late.ensures
          ∙ sym more),
      rw add-one (one_more setup.starts number c.begun-item.result c.loop-number.invariant.2 at c.in_ok-machine.ensures.no_fault),
    )

pub returns-clause-ok : goal.returns-clause-ok
returns-clause-ok c =
    all_begun (new_thread c.args.program.now c.args.setup.now) c.args.setup.now.starts c.loop-number.threads.items c.loop-number.number
    (subst (λ (all : List Start). length all ≤ c.loop-number.number) c.as_slice-begun-items.ensures c.loop-number-test.false) c.loop-number.invariant.1

pub returns-clause-no_fault : goal.returns-clause-no_fault
returns-clause-no_fault c =
    no_fault_before c.args.program.now c.args.setup.now c.loop-number.number (subst (λ (all : List Start). length all ≤ c.loop-number.number) c.as_slice-begun-items.ensures c.loop-number-test.false) c.loop-number.invariant.2
