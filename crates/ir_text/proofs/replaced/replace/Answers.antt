use Rattle.ir_text.proofs.ReplacedLaws.{found, only, not_refused, no_fault, fault, no_text, only_fault, refused_for_memory, no_other_fault}
use Rattle.ir_text.specs.Replaced.{IsReplaceFault}
use Rattle.ir_text.proofs.replaced.replace.Goals as goal

pub returns-in_err-tables-clause-fault : goal.returns-in_err-tables-clause-fault
returns-in_err-tables-clause-fault c = refused_for_memory (IsReplaceFault c.args.of_module.now c.args.func c.args.bytes.now) c.from_residual.result c.from_residual.ensures.1

pub returns-in_err-tables-clause-only_fault : goal.returns-in_err-tables-clause-only_fault
returns-in_err-tables-clause-only_fault c = λ e _. no_other_fault c.from_residual.result e c.from_residual.ensures.1

pub returns-in-Ok-clause-found : goal.returns-in-Ok-clause-found
returns-in-Ok-clause-found c = found c.args.of_module.now c.args.func c.args.bytes.now c.in_ok-tables.tables c.name_of.result.now c.in_ok-tables.ensures c.name_of.ensures
    c.in-Ok.replacement c.with_replacement.result c.in-Ok.ensures.found c.with_replacement.ensures

pub returns-in-Ok-clause-only : goal.returns-in-Ok-clause-only
returns-in-Ok-clause-only c = λ new h. only c.args.of_module.now c.args.func c.args.bytes.now c.in_ok-tables.tables c.name_of.result.now c.in_ok-tables.ensures c.name_of.ensures
    c.in-Ok.replacement c.with_replacement.result new c.in-Ok.ensures.only c.with_replacement.ensures h

pub returns-in-Ok-clause-fault : goal.returns-in-Ok-clause-fault
returns-in-Ok-clause-fault c = not_refused c.args.of_module.now c.args.func c.args.bytes.now c.in_ok-tables.tables c.name_of.result.now c.in_ok-tables.ensures c.name_of.ensures
    c.in-Ok.replacement c.with_replacement.result c.with_replacement.ensures

pub returns-in-Ok-clause-only_fault : goal.returns-in-Ok-clause-only_fault
returns-in-Ok-clause-only_fault c = λ e h. no_fault c.args.of_module.now c.args.func c.args.bytes.now c.in_ok-tables.tables c.name_of.result.now c.in_ok-tables.ensures c.name_of.ensures
    c.in-Ok.replacement c.with_replacement.result e c.in-Ok.ensures.only_fault h

pub returns-in-Err-clause-only : goal.returns-in-Err-clause-only
returns-in-Err-clause-only c = λ new h. no_text c.args.of_module.now c.args.func c.args.bytes.now c.in_ok-tables.tables c.name_of.result.now c.in_ok-tables.ensures c.name_of.ensures
    c.in-Err.fault new c.in-Err.ensures.only h

pub returns-in-Err-clause-fault : goal.returns-in-Err-clause-fault
returns-in-Err-clause-fault c = fault c.args.of_module.now c.args.func c.args.bytes.now c.in_ok-tables.tables c.name_of.result.now c.in_ok-tables.ensures c.name_of.ensures
    c.in-Err.fault c.in-Err.ensures.fault

pub returns-in-Err-clause-only_fault : goal.returns-in-Err-clause-only_fault
returns-in-Err-clause-only_fault c = λ e h. only_fault c.args.of_module.now c.args.func c.args.bytes.now c.in_ok-tables.tables c.name_of.result.now c.in_ok-tables.ensures c.name_of.ensures
    c.in-Err.fault e c.in-Err.ensures.only_fault h
