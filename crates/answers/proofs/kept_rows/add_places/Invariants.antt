use Rattle.answers.specs.KeptRows.{AreEmpty}
use Rattle.answers.proofs.kept_rows.add_places.Given as goal

abbrev pub invariant-loop : goal.invariant-loop
invariant-loop l = AreEmpty l.places
