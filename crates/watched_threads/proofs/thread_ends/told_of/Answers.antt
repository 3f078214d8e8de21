use Rattle.std.proofs.Common.{◌≡◌, ◌<◌, ◌∙◌, suc, Some, List, ◌∷◌, [], length, slice_get, subst, sym, ap, refl, arith, add-one, length-append}
use Rattle.std.proofs.lemmas.Option.{slice_get-get_or}
use Rattle.machine.specs.Machine.{State}
use Rattle.mutators.specs.declared.thread_end.ThreadEnd.{ThreadEnd}
use Rattle.watched_threads.specs.Ends.{EndedBefore}
use Rattle.watched_threads.proofs.Told.{stands, one_end_more, no_ends}
use Rattle.watched_threads.proofs.thread_ends.told_of.Goals as goal

pub loop-thread-init : goal.loop-thread-init
loop-thread-init c = (ap length c.in_ok-ends.ensures.items, no_ends _ _)

pub frame_place-at-requires : goal.frame_place-at-requires
frame_place-at-requires c =
    let jobs = c.args.jobs.now in
    let i = c.loop-thread.thread in
    let job = c.index-jobs-thread.result in
    let there : slice_get jobs i ≡ Some job = slice_get-get_or jobs i job (omega (arith, c.loop-thread-test.true)) ∙ ap Some (sym c.index-jobs-thread.is) in
    subst (λ (s : State). 0 < length s.frames) (sym c.thread.ensures.state) (c.requires.framed i job c.in-Err.why there c.in-Err.ensures.broke)

pub returns-in-Err : goal.returns-in-Err
returns-in-Err c =
    let jobs = c.args.jobs.now in
    let i = c.loop-thread.thread in
    let job = c.index-jobs-thread.result in
    let there : slice_get jobs i ≡ Some job = slice_get-get_or jobs i job (omega (arith, c.loop-thread-test.true)) ∙ ap Some (sym c.index-jobs-thread.is) in
    record {
      job = job;
      is = there;
      broke = c.in-Err.ensures.broke;
      at = stands job.machine.state.frames job.machine.state c.frame_place-at.result refl (c.requires.framed i job c.in-Err.why there c.in-Err.ensures.broke)
          (λ of e. c.frame_place-at.ensures of (ap (λ (s : State). slice_get s.frames 0) c.thread.ensures.state ∙ e));
      ends = c.loop-thread.ends.items;
      before = c.loop-thread.invariant.1;
    }

pub loop-thread-preserved : goal.loop-thread-preserved
loop-thread-preserved c =
    let jobs = c.args.jobs.now in
    let i = c.loop-thread.thread in
    let job = c.index-jobs-thread.result in
    let there : slice_get jobs i ≡ Some job = slice_get-get_or jobs i job (omega (arith, c.loop-thread-test.true)) ∙ ap Some (sym c.index-jobs-thread.is) in
    let ends = c.loop-thread.ends.items in (
      omega (arith, ap length c.in_ok-push-in-Ok.ensures.items, length-append ends (c.in-Ok.end ∷ []), c.loop-thread.invariant.0),
      rw add-one (subst (λ (all : List ThreadEnd). EndedBefore jobs all (suc i)) (sym c.in_ok-push-in-Ok.ensures.items) (one_end_more jobs ends i job c.in-Ok.end c.loop-thread.invariant.1 c.loop-thread.invariant.0 there c.in-Ok.ensures.ok)),
    )
