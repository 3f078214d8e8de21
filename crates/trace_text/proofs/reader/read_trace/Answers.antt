use Rattle.grammar.specs.Whole.{found, only, no_fault, no_value, has_fault, only_fault}
use Rattle.name_text.specs.declared.found.WordFault.TheVariants.{Memory}
use Rattle.trace_text.specs.Input.{start_of}
use Rattle.trace_text.specs.Text.{file, placed}
use Rattle.trace_text.proofs.Kept.{is_trace_of}
use Rattle.trace_text.proofs.reader.read_trace.Goals as goal

pub returns-in-Ok-clause-found : goal.returns-in-Ok-clause-found
returns-in-Ok-clause-found c =
    let p = c.args.program.now in
    let bytes = c.args.bytes.now in
    found (file p) (start_of p bytes) (placed bytes) c.in-Ok.trace c.in-Ok.ensures

pub returns-in-Ok-clause-of_program : goal.returns-in-Ok-clause-of_program
returns-in-Ok-clause-of_program c =
    let p = c.args.program.now in
    let bytes = c.args.bytes.now in
    is_trace_of p bytes c.in-Ok.trace (found (file p) (start_of p bytes) (placed bytes) c.in-Ok.trace c.in-Ok.ensures)

pub returns-in-Ok-clause-only : goal.returns-in-Ok-clause-only
returns-in-Ok-clause-only c =
    let p = c.args.program.now in
    let bytes = c.args.bytes.now in
    λ trace. only (file p) (start_of p bytes) (placed bytes) c.in-Ok.trace trace c.in-Ok.ensures

pub returns-in-Ok-clause-only_fault : goal.returns-in-Ok-clause-only_fault
returns-in-Ok-clause-only_fault c =
    let p = c.args.program.now in
    let bytes = c.args.bytes.now in
    no_fault (file p) (start_of p bytes) (placed bytes) c.in-Ok.trace c.in-Ok.ensures

pub returns-in-Err-clause-only : goal.returns-in-Err-clause-only
returns-in-Err-clause-only c =
    let p = c.args.program.now in
    let bytes = c.args.bytes.now in
    rw c.placed.ensures (no_value (file p) (start_of p bytes) (placed bytes) Memory c.in-Err.found c.in-Err.ensures)

pub returns-in-Err-clause-fault : goal.returns-in-Err-clause-fault
returns-in-Err-clause-fault c =
    let p = c.args.program.now in
    let bytes = c.args.bytes.now in
    rw c.placed.ensures (has_fault (file p) (start_of p bytes) (placed bytes) Memory c.in-Err.found c.in-Err.ensures)

pub returns-in-Err-clause-only_fault : goal.returns-in-Err-clause-only_fault
returns-in-Err-clause-only_fault c =
    let p = c.args.program.now in
    let bytes = c.args.bytes.now in
    rw c.placed.ensures (only_fault (file p) (start_of p bytes) (placed bytes) Memory c.in-Err.found c.in-Err.ensures)
