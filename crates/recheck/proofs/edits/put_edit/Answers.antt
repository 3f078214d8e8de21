use Rattle.std.proofs.Common.{Some, None}
use Rattle.recheck.proofs.Edited.{named_here, named_edited, named_fault, named_accepted, named_refused, none_fault, none_accepted, none_refused}
use Rattle.recheck.proofs.edits.put_edit.Goals as goal

pub returns-in-Some-clause-put : goal.returns-in-Some-clause-put
returns-in-Some-clause-put c =
    let named = named_here c.args.program.now.of_module c.module.result.now c.module.ensures.of_module c.args.edit.now c.name_in.result.now c.name_in.ensures c.function_named.result (Some c.in-Some.func) c.function_named.ensures.number c.in-Some.is in
    named_edited c.args.program.now c.args.certs.now c.args.certs.now.sections c.in-Some.func c.args.edit.now named c.put_at.new.program c.put_at.new.certs.sections c.put_at.result c.put_at.ensures.put

pub returns-in-Some-clause-fault : goal.returns-in-Some-clause-fault
returns-in-Some-clause-fault c =
    let named = named_here c.args.program.now.of_module c.module.result.now c.module.ensures.of_module c.args.edit.now c.name_in.result.now c.name_in.ensures c.function_named.result (Some c.in-Some.func) c.function_named.ensures.number c.in-Some.is in
    named_fault c.args.program.now c.args.certs.now c.args.certs.now.sections c.in-Some.func c.args.edit.now named c.put_at.result c.put_at.ensures.fault

pub returns-in-Some-clause-only : goal.returns-in-Some-clause-only
returns-in-Some-clause-only c =
    let named = named_here c.args.program.now.of_module c.module.result.now c.module.ensures.of_module c.args.edit.now c.name_in.result.now c.name_in.ensures c.function_named.result (Some c.in-Some.func) c.function_named.ensures.number c.in-Some.is in
    named_accepted c.args.program.now c.args.certs.now c.args.certs.now.sections c.in-Some.func c.args.edit.now named c.put_at.result c.put_at.ensures.only

pub returns-in-Some-clause-only_fault : goal.returns-in-Some-clause-only_fault
returns-in-Some-clause-only_fault c =
    let named = named_here c.args.program.now.of_module c.module.result.now c.module.ensures.of_module c.args.edit.now c.name_in.result.now c.name_in.ensures c.function_named.result (Some c.in-Some.func) c.function_named.ensures.number c.in-Some.is in
    named_refused c.args.program.now c.args.certs.now c.args.certs.now.sections c.in-Some.func c.args.edit.now named c.put_at.result c.put_at.ensures.only_fault

pub returns-in-None-clause-fault : goal.returns-in-None-clause-fault
returns-in-None-clause-fault c =
    let none = named_here c.args.program.now.of_module c.module.result.now c.module.ensures.of_module c.args.edit.now c.name_in.result.now c.name_in.ensures c.function_named.result None c.function_named.ensures.number c.in-None.is in
    none_fault c.args.program.now c.args.certs.now c.args.certs.now.sections c.args.edit.now none c.no_function.result c.no_function.ensures

pub returns-in-None-clause-only : goal.returns-in-None-clause-only
returns-in-None-clause-only c =
    let none = named_here c.args.program.now.of_module c.module.result.now c.module.ensures.of_module c.args.edit.now c.name_in.result.now c.name_in.ensures c.function_named.result None c.function_named.ensures.number c.in-None.is in
    none_accepted c.args.program.now c.args.certs.now c.args.certs.now.sections c.args.edit.now none c.no_function.result c.no_function.ensures

pub returns-in-None-clause-only_fault : goal.returns-in-None-clause-only_fault
returns-in-None-clause-only_fault c =
    let none = named_here c.args.program.now.of_module c.module.result.now c.module.ensures.of_module c.args.edit.now c.name_in.result.now c.name_in.ensures c.function_named.result None c.function_named.ensures.number c.in-None.is in
    none_refused c.args.program.now c.args.certs.now c.args.certs.now.sections c.args.edit.now none c.no_function.result c.no_function.ensures
