use Rattle.dgc_c.proofs.dgc_apply.Goals as goal

pub returns-clause-said : goal.returns-clause-said
returns-clause-said c = (c.applied-kept.result.0.value.session, c.applied-kept.ensures.said, c.applied-kept.ensures.accepted)
