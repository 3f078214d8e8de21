-- A cover after the step holds nothing that is gone.
use Rattle.std.proofs.Common.{◌∷◌, Option, sym, subst}
use Rattle.std.specs.Prelude.{IfSome}
use Rattle.runs.specs.Machine.{machine_of}
use Rattle.moves.specs.Runs.{run_by}
use Rattle.stepping.specs.Covers.{IsCoverAfter}
use Rattle.stepping.specs.declared.walk.Walk.{Walk}
use Rattle.stepping.proofs.Covers.{none-gone}
use Rattle.stepping.proofs.acting.Actors.first_gone.Goals as goal

pub returns-in-Some-2-clause-gone : goal.returns-in-Some-2-clause-gone
returns-in-Some-2-clause-gone g c = λ s starts before actor b is known.
    let m = machine_of g.M.Machine.action g.M.Machine.after_answer g.M.Machine.roots in
    let was : IfSome c.take.result (IsCoverAfter s m starts (run_by s m starts before)) = subst (λ (o : Option Walk). IfSome o (IsCoverAfter s m starts (run_by s m starts before))) (sym c.take.ensures.value) known in
    let here : IsCoverAfter s m starts (run_by s m starts before) c.in-Some.walk = subst (λ (o : Option Walk). IfSome o (IsCoverAfter s m starts (run_by s m starts before))) c.in-Some.is was in
    let kept : IsCoverAfter s m starts (run_by s m starts (actor ∷ before)) c.in-Some-2.kept =
    subst (λ (o : Option Walk). IfSome o (IsCoverAfter s m starts (run_by s m starts (actor ∷ before)))) c.in-Some-2.is (c.in_ok-kept.ensures s starts before actor b is here) in
    none-gone s m starts (run_by s m starts (actor ∷ before)) c.in-Some-2.kept.met kept.covers
