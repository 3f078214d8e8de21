use Rattle.grammar.specs.Whole.{found, only, no_fault, no_value, has_fault, only_fault}
use Rattle.name_text.specs.declared.found.WordFault.TheVariants.{Memory}
use Rattle.certificate.specs.Anew.{start_anew, file_anew}
use Rattle.certificate.specs.Text.{placed}
use Rattle.certificate.proofs.anew.read_section.Goals as goal

pub returns-in-Ok-clause-found : goal.returns-in-Ok-clause-found
returns-in-Ok-clause-found c =
    let bytes = c.args.bytes.now in
    found (file_anew c.args.module.now c.args.function) (start_anew bytes) (placed bytes) c.in-Ok.section c.in-Ok.ensures

pub returns-in-Ok-clause-only : goal.returns-in-Ok-clause-only
returns-in-Ok-clause-only c =
    let bytes = c.args.bytes.now in
    λ section. only (file_anew c.args.module.now c.args.function) (start_anew bytes) (placed bytes) c.in-Ok.section section c.in-Ok.ensures

pub returns-in-Ok-clause-only_fault : goal.returns-in-Ok-clause-only_fault
returns-in-Ok-clause-only_fault c =
    let bytes = c.args.bytes.now in
    no_fault (file_anew c.args.module.now c.args.function) (start_anew bytes) (placed bytes) c.in-Ok.section c.in-Ok.ensures

pub returns-in-Err-clause-only : goal.returns-in-Err-clause-only
returns-in-Err-clause-only c =
    let bytes = c.args.bytes.now in
    rw c.placed.ensures (no_value (file_anew c.args.module.now c.args.function) (start_anew bytes) (placed bytes) Memory c.in-Err.found c.in-Err.ensures)

pub returns-in-Err-clause-fault : goal.returns-in-Err-clause-fault
returns-in-Err-clause-fault c =
    let bytes = c.args.bytes.now in
    rw c.placed.ensures (has_fault (file_anew c.args.module.now c.args.function) (start_anew bytes) (placed bytes) Memory c.in-Err.found c.in-Err.ensures)

pub returns-in-Err-clause-only_fault : goal.returns-in-Err-clause-only_fault
returns-in-Err-clause-only_fault c =
    let bytes = c.args.bytes.now in
    rw c.placed.ensures (only_fault (file_anew c.args.module.now c.args.function) (start_anew bytes) (placed bytes) Memory c.in-Err.found c.in-Err.ensures)
