use Rattle.std.proofs.Common.{List, slice_get, ap, ◌∙◌, subst, sym}
use Rattle.ir_ast.specs.declared.function.Function.{Function}
use Rattle.recheck.specs.Edits.{code_fault}
use Rattle.recheck.specs.Put.{AreReady}
use Rattle.recheck.proofs.Faults.{refused_for_memory}
use Rattle.recheck.proofs.Within.{AreTables, tables_same, some_found, some_one, within_unread, within_accepted, within_refused, within_same}
use Rattle.recheck.proofs.code.read_within.Goals as goal

pub returns-in_err-tables-clause-only_fault : goal.returns-in_err-tables-clause-only_fault
returns-in_err-tables-clause-only_fault c = λ f _. refused_for_memory c.from_residual.result (code_fault f) c.from_residual.ensures.1

pub returns-in-Err-clause-only : goal.returns-in-Err-clause-only
returns-in-Err-clause-only c = within_accepted c.args.of_module.now c.args.func c.args.code.now c.in_ok-tables.tables c.name_of.result.now c.in_ok-tables.ensures.tables c.name_of.ensures c.in-Err.fault c.from.result c.from.ensures c.in-Err.ensures.only

pub returns-in-Err-clause-fault : goal.returns-in-Err-clause-fault
returns-in-Err-clause-fault c = within_refused c.args.of_module.now c.args.func c.args.code.now c.in_ok-tables.tables c.name_of.result.now c.in_ok-tables.ensures.tables c.name_of.ensures c.in-Err.fault c.from.result c.from.ensures c.in-Err.ensures.fault

pub returns-in-Err-clause-only_fault : goal.returns-in-Err-clause-only_fault
returns-in-Err-clause-only_fault c = within_same c.args.of_module.now c.args.func c.args.code.now c.in_ok-tables.tables c.name_of.result.now c.in_ok-tables.ensures.tables c.name_of.ensures c.in-Err.fault c.from.result c.from.ensures c.in-Err.ensures.only_fault

pub returns-then-not-same_tables-clause-only_fault : goal.returns-then-not-same_tables-clause-only_fault
returns-then-not-same_tables-clause-only_fault c = within_unread c.args.of_module.now c.args.func c.args.code.now c.in_ok-tables.tables c.name_of.result.now c.in_ok-tables.ensures.tables c.name_of.ensures c.in-Ok.read c.in-Ok.ensures.only_fault

pub returns-in-Ok-copy_first-clause-found : goal.returns-in-Ok-copy_first-clause-found
returns-in-Ok-copy_first-clause-found c =
    let same = c.same_tables.ensures in
    let yes = c.if-not-same_tables.false in
    let are : AreTables c.args.of_module.now c.in-Ok.read.tables =
    record { types = same.types yes; struct_names = same.struct_names yes; struct_of = same.struct_of yes; symbols = same.symbols yes; wide = same.wide yes } in
    some_found c.args.of_module.now c.args.func c.args.code.now c.in_ok-tables.tables c.name_of.result.now c.in_ok-tables.ensures.tables c.name_of.ensures c.in-Ok.read c.in-Ok-copy_first.function c.in-Ok.ensures.found are
    (c.in-Ok-copy_first.ensures ∙ ap (λ (fs : List Function). slice_get fs 0) c.as_slice.ensures)

pub returns-in-Ok-copy_first-clause-one : goal.returns-in-Ok-copy_first-clause-one
returns-in-Ok-copy_first-clause-one c = λ n is.
    let same = c.same_tables.ensures in
    let yes = c.if-not-same_tables.false in
    let are : AreTables c.args.of_module.now c.in-Ok.read.tables =
    record { types = same.types yes; struct_names = same.struct_names yes; struct_of = same.struct_of yes; symbols = same.symbols yes; wide = same.wide yes } in
    some_one c.args.of_module.now c.args.func c.args.code.now c.in_ok-tables.tables c.name_of.result.now c.in_ok-tables.ensures.tables c.name_of.ensures c.in-Ok.read c.in-Ok-copy_first.function c.in-Ok.ensures.found are
    (c.in-Ok-copy_first.ensures ∙ ap (λ (fs : List Function). slice_get fs 0) c.as_slice.ensures) c.in-Ok.ensures.only n is

pub returns-in-Ok-copy_first-clause-only_fault : goal.returns-in-Ok-copy_first-clause-only_fault
returns-in-Ok-copy_first-clause-only_fault c = within_unread c.args.of_module.now c.args.func c.args.code.now c.in_ok-tables.tables c.name_of.result.now c.in_ok-tables.ensures.tables c.name_of.ensures c.in-Ok.read c.in-Ok.ensures.only_fault

pub returns-in-Ok-copy_first-clause-ready : goal.returns-in-Ok-copy_first-clause-ready
returns-in-Ok-copy_first-clause-ready c =
    let same = c.same_tables.ensures in
    let yes = c.if-not-same_tables.false in
    let are : AreTables c.args.of_module.now c.in-Ok.read.tables =
    record { types = same.types yes; struct_names = same.struct_names yes; struct_of = same.struct_of yes; symbols = same.symbols yes; wide = same.wide yes } in
    subst (AreReady c.args.of_module.now) (sym c.keep_tables.ensures)
    (tables_same c.args.of_module.now c.args.func c.args.code.now c.in_ok-tables.tables c.name_of.result.now c.in_ok-tables.ensures.tables c.name_of.ensures c.in-Ok.read c.in-Ok.ensures.found are)
