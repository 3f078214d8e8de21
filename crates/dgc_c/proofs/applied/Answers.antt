use Rattle.std.proofs.Common.{◌∙◌, subst}
use Rattle.dgc_c.specs.declared.kept.Kept.{Kept}
use Rattle.library_answers.specs.Sessions.{IsAppliedTo}
use Rattle.dgc_c.proofs.applied.Goals as goal

pub returns-clause-said : goal.returns-clause-said
returns-clause-said c =
    let next = c.apply_edits-answer.new in
    let same = c.deref_mut.ensures.value ∙ c.into_box-kept.ensures ∙ c.into_parts.ensures in
    subst (λ (kept : Kept). IsAppliedTo c.args.edits.now kept.session next.session c.args.room.now next.room c.apply_edits-answer.result) same c.apply_edits-answer.ensures.said
