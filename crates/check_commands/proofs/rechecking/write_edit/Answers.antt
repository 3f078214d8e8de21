use Rattle.std.proofs.Common.{subst, sym}
use Rattle.std.proofs.lemmas.Result.{on_ok_weaker}
use Rattle.recheck.specs.Session.{State}
use Rattle.check_commands.specs.Rechecks.{OfEdit, edit_refused, edit_accepted, refused_text}
use Rattle.check_commands.proofs.rechecking.write_edit.Goals as goal

pub returns-in-Ok : goal.returns-in-Ok
returns-in-Ok g c =
    on_ok_weaker c.write_accepted.result (λ told. (_, edit_accepted c.apply.new.self told.0 c.in-Ok.ensures.accepted told.1, told.2)) c.write_accepted.ensures

pub returns-in-Err : goal.returns-in-Err
returns-in-Err g c =
    let fault = c.in-Err.fault in
    let before = c.args.session.now in
    let line = refused_text c.args.number fault in
    let stays = λ (t : State). OfEdit c.args.number before c.args.edit.now t line in
    on_ok_weaker c.write_refused-written.result
    (λ told. (line, subst stays (sym c.in-Err.ensures.kept) (edit_refused fault told.0 (c.in-Err.ensures.fault told.0)), told.1))
    c.write_refused-written.ensures
