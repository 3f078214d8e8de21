use Rattle.grammar.specs.Whole.{found, only, no_fault, no_value, has_fault, only_fault}
use Rattle.recheck.specs.Text.{file, placed}
use Rattle.recheck.specs.declared.frame_fault.FrameFault.TheVariants.{Memory}
use Rattle.recheck.proofs.reader.read_edits.Goals as goal

pub returns-in-Ok-clause-found : goal.returns-in-Ok-clause-found
returns-in-Ok-clause-found c =
    let bytes = c.args.bytes.now in
    found file bytes (placed bytes) c.in-Ok.edits c.in-Ok.ensures

pub returns-in-Ok-clause-only : goal.returns-in-Ok-clause-only
returns-in-Ok-clause-only c =
    let bytes = c.args.bytes.now in
    λ edits. only file bytes (placed bytes) c.in-Ok.edits edits c.in-Ok.ensures

pub returns-in-Ok-clause-only_fault : goal.returns-in-Ok-clause-only_fault
returns-in-Ok-clause-only_fault c =
    let bytes = c.args.bytes.now in
    no_fault file bytes (placed bytes) c.in-Ok.edits c.in-Ok.ensures

pub returns-in-Err-clause-only : goal.returns-in-Err-clause-only
returns-in-Err-clause-only c =
    let bytes = c.args.bytes.now in
    rw c.placed.ensures (no_value file bytes (placed bytes) Memory c.in-Err.found c.in-Err.ensures)

pub returns-in-Err-clause-fault : goal.returns-in-Err-clause-fault
returns-in-Err-clause-fault c =
    let bytes = c.args.bytes.now in
    rw c.placed.ensures (has_fault file bytes (placed bytes) Memory c.in-Err.found c.in-Err.ensures)

pub returns-in-Err-clause-only_fault : goal.returns-in-Err-clause-only_fault
returns-in-Err-clause-only_fault c =
    let bytes = c.args.bytes.now in
    rw c.placed.ensures (only_fault file bytes (placed bytes) Memory c.in-Err.found c.in-Err.ensures)
