-- The collector's step on the words as they are is the run's next one.
use Rattle.std.proofs.Common.{false, refl, sym, ap, ◌∙◌}
use Rattle.runs.specs.Machine.{machine_of}
use Rattle.moves.specs.Runs.{run_by}
use Rattle.stepping.specs.Growth.{with_stored}
use Rattle.stepping.proofs.Collects.{collector_is_after, collected-none, collected, stored-none, with-words}
use Rattle.stepping.proofs.acting.Actors.step_of_collector.Goals as goal
use Rattle.stepping.proofs.acting.Actors.step_of_collector.Goals.{in-Some, in_default}

pub next-requires : goal.next-requires
next-requires g c =
    let m = machine_of g.M.Machine.action g.M.Machine.after_answer g.M.Machine.roots in
    let r = c.requires in
    (c.growth_law.ensures.collector r.0 (run_by r.0 m r.1 r.2) c.args.self.now.collector c.args.self.now.shared (collector_is_after r.0 m (g.M.Runner.fits r.0) r.1 r.2 c.args.self.now r.3)).0

pub returns-in_err-motion : goal.returns-in_err-motion
returns-in_err-motion g c s starts before b =
    let m = machine_of g.M.Machine.action g.M.Machine.after_answer g.M.Machine.roots in
    rw (c.from_residual.ensures, c.in_err-motion.ensures.unmoved) (collected-none s m (g.M.Runner.fits s) starts before c.args.self.now b (c.in_err-motion.ensures.limit.0 (refl {a = false})))

pub put-requires : goal.put-requires
put-requires g c =
    let m = machine_of g.M.Machine.action g.M.Machine.after_answer g.M.Machine.roots in
    let r = c.requires in
    ((c.growth_law.ensures.collector r.0 (run_by r.0 m r.1 r.2) c.args.self.now.collector c.args.self.now.shared (collector_is_after r.0 m (g.M.Runner.fits r.0) r.1 r.2 c.args.self.now r.3)).1 c.in_ok-motion.motion c.next.new.self c.in_ok-motion.ensures.step).can_hold

pub returns : goal.returns
returns g c s starts before b =
    let m = machine_of g.M.Machine.action g.M.Machine.after_answer g.M.Machine.roots in
    let run = run_by s m starts before in
    let a = c.args.self.now in
    let motion = c.in_ok-motion.motion in
    let grows = (c.growth_law.ensures.collector s run a.collector a.shared (collector_is_after s m (g.M.Runner.fits s) starts before a b)).1 motion c.next.new.self c.in_ok-motion.ensures.step in
    let done = collected s m (g.M.Runner.fits s) starts before a b motion c.next.new.self c.in_ok-motion.ensures.step grows (c.loss_law.ensures s starts) c.loss_of_turn-loss.result c.loss_of_turn-loss.ensures in
    elim c.match-motion.branch [
      | in-Some w ↦
          with-words s m (g.M.Runner.fits s) starts before _ a c.match-motion.self w.put.new.self (with_stored a.shared motion motion.stored) c.next.new.self
          (ap (with_stored a.shared motion) w.in-Some.is ∙ sym w.put.ensures) w.self-is done
      | in_default w ↦
          with-words s m (g.M.Runner.fits s) starts before _ a c.match-motion.self a.shared (with_stored a.shared motion motion.stored) c.next.new.self
          (stored-none a.shared motion w.in_default.not-Some) w.self-is done
    ]
