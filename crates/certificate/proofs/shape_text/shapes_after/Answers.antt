use Rattle.std.proofs.Common.{Ok, Err}
use Rattle.grammar.specs.Whole.{found, only, no_fault, no_value, has_fault, only_fault}
use Rattle.name_text.specs.declared.found.WordFault.TheVariants.{Memory}
use Rattle.certificate.specs.Input.{start_of}
use Rattle.certificate.specs.ShapeForms.{text}
use Rattle.certificate.specs.Text.{placed}
use Rattle.certificate.proofs.Begun.{shapes_from, shapes_fault_from}
use Rattle.certificate.proofs.shape_text.shapes_after.Goals as goal

pub returns-in-Ok-clause-found : goal.returns-in-Ok-clause-found
returns-in-Ok-clause-found c =
    let m = c.args.module.now in
    let bytes = c.args.bytes.now in
    let says = found (text m) (start_of m c.args.begun bytes) (placed bytes) c.in-Ok.shapes c.in-Ok.ensures in
    (c.args.begun, c.requires.begun, says.0, says.1)

pub returns-in-Ok-clause-only : goal.returns-in-Ok-clause-only
returns-in-Ok-clause-only c =
    let m = c.args.module.now in
    let bytes = c.args.bytes.now in
    λ given is. only (text m) (start_of m c.args.begun bytes) (placed bytes) c.in-Ok.shapes given c.in-Ok.ensures (shapes_from bytes m given c.args.begun c.requires.begun is)

pub returns-in-Ok-clause-only_fault : goal.returns-in-Ok-clause-only_fault
returns-in-Ok-clause-only_fault c =
    let m = c.args.module.now in
    let bytes = c.args.bytes.now in
    λ e is. no_fault (text m) (start_of m c.args.begun bytes) (placed bytes) c.in-Ok.shapes c.in-Ok.ensures e (shapes_fault_from bytes m e c.args.begun c.requires.begun is)

pub returns-in-Err-clause-only : goal.returns-in-Err-clause-only
returns-in-Err-clause-only c =
    let m = c.args.module.now in
    let bytes = c.args.bytes.now in
    rw c.placed.ensures (λ given is. no_value (text m) (start_of m c.args.begun bytes) (placed bytes) Memory c.in-Err.found c.in-Err.ensures given (shapes_from bytes m given c.args.begun c.requires.begun is))

pub returns-in-Err-clause-fault : goal.returns-in-Err-clause-fault
returns-in-Err-clause-fault c =
    let m = c.args.module.now in
    let bytes = c.args.bytes.now in
    rw c.placed.ensures
    (λ other. (let has = has_fault (text m) (start_of m c.args.begun bytes) (placed bytes) Memory c.in-Err.found c.in-Err.ensures other in (c.args.begun, c.requires.begun, has.0, has.1, has.2)))

pub returns-in-Err-clause-only_fault : goal.returns-in-Err-clause-only_fault
returns-in-Err-clause-only_fault c =
    let m = c.args.module.now in
    let bytes = c.args.bytes.now in
    rw c.placed.ensures (λ e is. only_fault (text m) (start_of m c.args.begun bytes) (placed bytes) Memory c.in-Err.found c.in-Err.ensures e (shapes_fault_from bytes m e c.args.begun c.requires.begun is))
