use Rattle.answers.proofs.again.find_all_rows.Goals as goal

pub loop-place-init : goal.loop-place-init
loop-place-init c = record {
  rows = c.requires.kept;
  stay = λ other rows differs at. at;
}

pub loop-place-preserved : goal.loop-place-preserved
loop-place-preserved c = record {
  rows = c.find_rows.ensures.rows;
  stay = λ other rows differs at. c.find_rows.ensures.stay other rows differs (c.loop-place.invariant.stay other rows differs at);
}
