-- The law is that of every machine.
use Rattle.std.proofs.Common.{refl}
use Rattle.runs.specs.Machine.{machine_of}
use Rattle.runs.specs.NextMoveLemmas.{next_is}
use Rattle.runs.specs.TryLemmas.{keeps_order}
use Rattle.runs.proofs.OnlyMoves.{only_next}
use Rattle.runs.proofs.laws.next_move_law.Goals as goal

pub returns-clause-next : goal.returns-clause-next
returns-clause-next g c s = next_is s (machine_of g.M.Machine.action g.M.Machine.after_answer g.M.Machine.roots)

pub returns-clause-only : goal.returns-clause-only
returns-clause-only g c s = only_next s (machine_of g.M.Machine.action g.M.Machine.after_answer g.M.Machine.roots)

pub returns-clause-hints : goal.returns-clause-hints
returns-clause-hints g c s = keeps_order s (machine_of g.M.Machine.action g.M.Machine.after_answer g.M.Machine.roots)

pub returns-clause-sight : goal.returns-clause-sight
returns-clause-sight g c s run order = record {
  word = λ c i. refl;
  word_birth = λ c i. refl;
  posted = refl;
  is_blue = λ c. refl;
  claim_birth = λ layout tried. refl;
}
