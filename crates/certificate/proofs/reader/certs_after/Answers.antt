use Rattle.std.proofs.Common.{Ok, Err}
use Rattle.grammar.specs.Whole.{found, only, no_fault, no_value, has_fault, only_fault}
use Rattle.name_text.specs.declared.found.WordFault.TheVariants.{Memory}
use Rattle.certificate.specs.Input.{start_of}
use Rattle.certificate.specs.Text.{file, placed}
use Rattle.certificate.proofs.Begun.{certs_from, fault_from}
use Rattle.certificate.proofs.reader.certs_after.Goals as goal

pub returns-in-Ok-clause-found : goal.returns-in-Ok-clause-found
returns-in-Ok-clause-found c =
    let m = c.args.module.now in
    let bytes = c.args.bytes.now in
    let says = found (file m) (start_of m c.args.shapes bytes) (placed bytes) c.in-Ok.certs c.in-Ok.ensures in
    (c.args.shapes, c.requires.start, says.0, says.1)

pub returns-in-Ok-clause-only : goal.returns-in-Ok-clause-only
returns-in-Ok-clause-only c =
    let m = c.args.module.now in
    let bytes = c.args.bytes.now in
    λ given is. only (file m) (start_of m c.args.shapes bytes) (placed bytes) c.in-Ok.certs given c.in-Ok.ensures (certs_from bytes m given c.args.shapes c.requires.start is)

pub returns-in-Ok-clause-only_fault : goal.returns-in-Ok-clause-only_fault
returns-in-Ok-clause-only_fault c =
    let m = c.args.module.now in
    let bytes = c.args.bytes.now in
    λ e is. no_fault (file m) (start_of m c.args.shapes bytes) (placed bytes) c.in-Ok.certs c.in-Ok.ensures e (fault_from bytes m e c.args.shapes c.requires.start is)

pub returns-in-Err-clause-only : goal.returns-in-Err-clause-only
returns-in-Err-clause-only c =
    let m = c.args.module.now in
    let bytes = c.args.bytes.now in
    rw c.placed.ensures (λ given is. no_value (file m) (start_of m c.args.shapes bytes) (placed bytes) Memory c.in-Err.found c.in-Err.ensures given (certs_from bytes m given c.args.shapes c.requires.start is))

pub returns-in-Err-clause-fault : goal.returns-in-Err-clause-fault
returns-in-Err-clause-fault c =
    let m = c.args.module.now in
    let bytes = c.args.bytes.now in
    rw c.placed.ensures
    (λ other. (let has = has_fault (file m) (start_of m c.args.shapes bytes) (placed bytes) Memory c.in-Err.found c.in-Err.ensures other in (c.args.shapes, c.requires.start, has.0, has.1, has.2)))

pub returns-in-Err-clause-only_fault : goal.returns-in-Err-clause-only_fault
returns-in-Err-clause-only_fault c =
    let m = c.args.module.now in
    let bytes = c.args.bytes.now in
    rw c.placed.ensures (λ e is. only_fault (file m) (start_of m c.args.shapes bytes) (placed bytes) Memory c.in-Err.found c.in-Err.ensures e (fault_from bytes m e c.args.shapes c.requires.start is))
