use Rattle.std.proofs.Common.{◌≡◌, refl}
use Rattle.std.proofs.lemmas.Result.{IfOk-weaker}
use Rattle.reports.specs.Files.{of_unread}
use Rattle.reports.specs.Said.{OnError}
use Rattle.reports.specs.declared.outputs.Outputs.{Outputs}
use Rattle.library_answers.proofs.Answered.{answered, placed_nowhere}
use Rattle.library_answers.proofs.Verdicts.{one_above, unread_status}
use Rattle.library_answers.proofs.checked.not_read.Goals as goal

pub returns-clause-said : goal.returns-clause-said
returns-clause-said c =
    let old = c.nothing-outputs.result in
    let new : Outputs = record { out = old.out; err = c.unread-printed.new.err } in
    answered (λ said. said ≡ OnError (of_unread c.args.fault)) old new c.unread-printed.result _ _ c.answer_of.result c.nothing-outputs.ensures.out c.nothing-outputs.ensures.err
    (IfOk-weaker c.unread-printed.result _ _ (λ status told. (OnError _, refl, (refl, told))) c.unread-printed.ensures)
    c.answer_of.ensures.printed c.answer_of.ensures.failed

pub returns-clause-no : goal.returns-clause-no
returns-clause-no c = one_above (OnError (of_unread c.args.fault)) _ _ c.answer_of.result (unread_status c.args.fault) (returns-clause-said c)

pub returns-clause-place : goal.returns-clause-place
returns-clause-place c = placed_nowhere _ _ c.place_of_unread-place.ensures c.answer_of.ensures.place
