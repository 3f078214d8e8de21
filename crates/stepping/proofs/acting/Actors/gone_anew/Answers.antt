-- All that can be reached was met.
use Rattle.std.proofs.Common.{None, Some, refl, ap, ◌∙◌}
use Rattle.runs.specs.Machine.{machine_of}
use Rattle.stepping.specs.Roots.{roots_of}
use Rattle.stepping.proofs.CoverSteps.{first-met, whole-covers}
use Rattle.stepping.proofs.acting.Actors.gone_anew.Goals as goal

pub returns-in-None-None-clause-gone : goal.returns-in-None-None-clause-gone
returns-in-None-None-clause-gone g c = λ s starts actors b.
    let m = machine_of g.M.Machine.action g.M.Machine.after_answer g.M.Machine.roots in
    let all = c.as_slice-2.ensures.value ∙ c.in_ok-roots.ensures ∙ ap (roots_of m.roots) c.as_slice.ensures.value in
    first-met s m (g.M.Runner.fits s) starts actors c.args.self.now b (g.met.M.Runner.keeps_kinds s) c.as_slice-2.result.now all c.walk_from.ensures.limit c.in_ok-walk.walk (c.in_ok-walk.ensures.whole s b.schema) None None c.in-None-None.is-0 c.in-None-None.is-1

pub returns-in-None-None-clause-cover : goal.returns-in-None-None-clause-cover
returns-in-None-None-clause-cover g c = λ s starts actors b none.
    let m = machine_of g.M.Machine.action g.M.Machine.after_answer g.M.Machine.roots in
    let all = c.as_slice-2.ensures.value ∙ c.in_ok-roots.ensures ∙ ap (roots_of m.roots) c.as_slice.ensures.value in
    whole-covers s m (g.M.Runner.fits s) starts actors c.args.self.now b (g.met.M.Runner.keeps_kinds s) c.as_slice-2.result.now all c.walk_from.ensures.limit c.in_ok-walk.walk (c.in_ok-walk.ensures.whole s b.schema) c.in-None-None.is-0 c.in-None-None.is-1

pub returns-in-None-Some-clause-gone : goal.returns-in-None-Some-clause-gone
returns-in-None-Some-clause-gone g c = λ s starts actors b.
    let m = machine_of g.M.Machine.action g.M.Machine.after_answer g.M.Machine.roots in
    let all = c.as_slice-2.ensures.value ∙ c.in_ok-roots.ensures ∙ ap (roots_of m.roots) c.as_slice.ensures.value in
    first-met s m (g.M.Runner.fits s) starts actors c.args.self.now b (g.met.M.Runner.keeps_kinds s) c.as_slice-2.result.now all c.walk_from.ensures.limit c.in_ok-walk.walk (c.in_ok-walk.ensures.whole s b.schema) None (Some c.in-None-Some.cell) c.in-None-Some.is-0 c.in-None-Some.is-1

pub returns-clause-gone : goal.returns-clause-gone
returns-clause-gone g c = λ s starts actors b.
    let m = machine_of g.M.Machine.action g.M.Machine.after_answer g.M.Machine.roots in
    let all = c.as_slice-2.ensures.value ∙ c.in_ok-roots.ensures ∙ ap (roots_of m.roots) c.as_slice.ensures.value in
    first-met s m (g.M.Runner.fits s) starts actors c.args.self.now b (g.met.M.Runner.keeps_kinds s) c.as_slice-2.result.now all c.walk_from.ensures.limit c.in_ok-walk.walk (c.in_ok-walk.ensures.whole s b.schema) (Some c.in-Some-default.cell) c.in_ok-walk.walk.reborn c.in-Some-default.is-0 refl
