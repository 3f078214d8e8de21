use Rattle.std.proofs.Common.{◌≡◌, ◌∙◌, Option, ap, subst, sym}
use Rattle.ir_ast.specs.declared.outside.Outside.{Outside}
use Rattle.ir_ast.specs.declared.shapes.Shapes.{Shapes}
use Rattle.certs.specs.declared.certs.Certs.{Certs}
use Rattle.recheck.specs.Edits.{IsRead, IsEdited, IsEditFault}
use Rattle.recheck.specs.Put.{state}
use Rattle.recheck.specs.Session.{State}
use Rattle.recheck.proofs.session.Session.apply.Goals as goal

pub returns-clause-accepted : goal.returns-clause-accepted
returns-clause-accepted c =
    let old = c.self.inside in
    let new = c.put_edit.new.certs in
    let certs : ◌≡◌ {A = Certs} (record old.certs { sections = new.sections }) new =
    ap (λ (x : Option Shapes). record { sections = new.sections; shapes = x; foreign = old.certs.foreign }) (sym c.put_edit.ensures.shapes) ∙ ap (λ (x : Outside). record { sections = new.sections; shapes = new.shapes; foreign = x }) (sym c.put_edit.ensures.foreign) in
    let put = subst (λ (x : Certs). IsEdited (state old.program old.certs old.certs.sections old.rechecked) c.args.edit.now (record { program = c.put_edit.new.program; certs = x; rechecked = c.in-Ok.rechecked })) certs (c.in-Ok.ensures.put old.rechecked) in
    subst (λ (s : State). IsEdited s c.args.edit.now (record { program = c.put_edit.new.program; certs = new; rechecked = c.in-Ok.rechecked })) c.self.view_is put

pub returns-in-Err-clause-only : goal.returns-in-Err-clause-only
returns-in-Err-clause-only c = λ m section h. c.in-Err.ensures.only c.self.inside.rechecked m section (subst (λ (s : State). IsRead s c.args.edit.now m section) (sym c.self.view_is) h)

pub returns-in-Err-clause-fault : goal.returns-in-Err-clause-fault
returns-in-Err-clause-fault c = λ differs. subst (λ (s : State). IsEditFault s c.args.edit.now c.in-Err.fault) c.self.view_is (c.in-Err.ensures.fault c.self.inside.rechecked differs)

pub returns-in-Err-clause-only_fault : goal.returns-in-Err-clause-only_fault
returns-in-Err-clause-only_fault c = λ e h. c.in-Err.ensures.only_fault c.self.inside.rechecked e (subst (λ (s : State). IsEditFault s c.args.edit.now e) (sym c.self.view_is) h)

pub returns-clause-only_fault : goal.returns-clause-only_fault
returns-clause-only_fault c = λ e h. c.in-Ok.ensures.only_fault c.self.inside.rechecked e (subst (λ (s : State). IsEditFault s c.args.edit.now e) (sym c.self.view_is) h)

pub returns-clause-fitting : goal.returns-clause-fitting
returns-clause-fitting c = λ fit same. c.fitting_law.ensures _ c.args.edit.now _ fit (returns-clause-accepted c) same
