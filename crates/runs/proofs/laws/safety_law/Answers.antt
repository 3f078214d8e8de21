-- The law is that of every machine, over the heap theorem.
use Rattle.runs.specs.Machine.{machine_of}
use Rattle.runs.specs.Promises.{HeapLaw}
use Rattle.runs.specs.Theorems.{safe, never_wrong}
use Rattle.runs.proofs.laws.safety_law.Goals as goal

pub returns-clause-safe : goal.returns-clause-safe
returns-clause-safe g c s starts setup careful =
    let law : HeapLaw s = record { kept = c.heap_law.ensures.kept s; answered = c.heap_law.ensures.answered s } in
    safe s (machine_of g.M.Machine.action g.M.Machine.after_answer g.M.Machine.roots) starts setup law careful

pub returns-clause-never_wrong : goal.returns-clause-never_wrong
returns-clause-never_wrong g c s starts setup careful =
    let law : HeapLaw s = record { kept = c.heap_law.ensures.kept s; answered = c.heap_law.ensures.answered s } in
    let m = machine_of g.M.Machine.action g.M.Machine.after_answer g.M.Machine.roots in
    never_wrong s m starts (safe s m starts setup law careful)
