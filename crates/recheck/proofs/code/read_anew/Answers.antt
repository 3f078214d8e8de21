use Rattle.std.proofs.Common.{subst}
use Rattle.ir_ast.specs.declared.module.Module.{Module}
use Rattle.layout.specs.Layouts.{AreLayouts}
use Rattle.recheck.proofs.Edited.{the_code, code_accepted, code_refused, code_same, only_section, with_code, section_of_code, anew_read}
use Rattle.recheck.proofs.Grown.{layouts_of_replaced}
use Rattle.recheck.proofs.code.read_anew.Goals as goal

-- ---- the code is refused

pub returns-in-Err-clause-fault : goal.returns-in-Err-clause-fault
returns-in-Err-clause-fault c = λ differs. code_refused c.args.program.now.of_module c.module.result.now c.module.ensures.of_module c.args.text.now.func c.args.code.now c.in-Err.fault c.args.text.now.bytes.now c.in-Err.ensures.fault differs

pub returns-in-Err-clause-only : goal.returns-in-Err-clause-only
returns-in-Err-clause-only c = λ n section is. code_accepted c.args.program.now.of_module c.module.result.now c.module.ensures.of_module c.args.text.now.func c.args.code.now c.in-Err.fault c.in-Err.ensures.only n is.0

pub returns-in-Err-clause-only_fault : goal.returns-in-Err-clause-only_fault
returns-in-Err-clause-only_fault c = code_same c.args.program.now.of_module c.module.result.now c.module.ensures.of_module c.args.text.now.func c.args.code.now c.in-Err.fault c.in-Err.ensures.only c.in-Err.ensures.only_fault c.args.text.now.bytes.now

-- ---- the section is refused

pub returns-in-Err-read_text-clause-fault : goal.returns-in-Err-read_text-clause-fault
returns-in-Err-read_text-clause-fault c =
    let read = the_code c.args.program.now.of_module c.module.result.now c.module.ensures.of_module c.args.text.now.func c.args.code.now c.in-Ok.of_module c.in-Ok.ensures.found c.in-Ok.ensures.one c.in-Ok.ensures.only_fault in
    λ differs. section_of_code c.args.program.now.of_module c.args.text.now.func c.args.code.now c.args.text.now.bytes.now c.in-Ok.of_module read c.in-Err-read_text.fault (c.in-Err-read_text.ensures.fault differs)

pub returns-in-Err-read_text-clause-only : goal.returns-in-Err-read_text-clause-only
returns-in-Err-read_text-clause-only c =
    let read = the_code c.args.program.now.of_module c.module.result.now c.module.ensures.of_module c.args.text.now.func c.args.code.now c.in-Ok.of_module c.in-Ok.ensures.found c.in-Ok.ensures.one c.in-Ok.ensures.only_fault in
    λ n section is. c.in-Err-read_text.ensures.only section (with_code c.args.program.now.of_module c.args.text.now.func c.args.code.now c.args.text.now.bytes.now c.in-Ok.of_module read n section is)

pub returns-in-Err-read_text-clause-only_fault : goal.returns-in-Err-read_text-clause-only_fault
returns-in-Err-read_text-clause-only_fault c =
    let read = the_code c.args.program.now.of_module c.module.result.now c.module.ensures.of_module c.args.text.now.func c.args.code.now c.in-Ok.of_module c.in-Ok.ensures.found c.in-Ok.ensures.one c.in-Ok.ensures.only_fault in
    λ e h. c.in-Err-read_text.ensures.only_fault e (only_section c.args.program.now.of_module c.args.text.now.func c.args.code.now c.args.text.now.bytes.now c.in-Ok.of_module read e h)

-- ---- there are layouts

pub returns-in-Ok-new-clause-found : goal.returns-in-Ok-new-clause-found
returns-in-Ok-new-clause-found c =
    let read = the_code c.args.program.now.of_module c.module.result.now c.module.ensures.of_module c.args.text.now.func c.args.code.now c.in-Ok.of_module c.in-Ok.ensures.found c.in-Ok.ensures.one c.in-Ok.ensures.only_fault in
    anew_read c.args.program.now.of_module c.args.text.now.func c.args.code.now c.args.text.now.bytes.now c.in-Ok.of_module c.in-Ok-new.anew c.in-Ok-read_text.section read.is_read c.in-Ok-read_text.ensures.found c.in-Ok-new.ensures.found

pub returns-in-Ok-new-clause-only_fault : goal.returns-in-Ok-new-clause-only_fault
returns-in-Ok-new-clause-only_fault c =
    let read = the_code c.args.program.now.of_module c.module.result.now c.module.ensures.of_module c.args.text.now.func c.args.code.now c.in-Ok.of_module c.in-Ok.ensures.found c.in-Ok.ensures.one c.in-Ok.ensures.only_fault in
    λ e h. c.in-Ok-read_text.ensures.only_fault e (only_section c.args.program.now.of_module c.args.text.now.func c.args.code.now c.args.text.now.bytes.now c.in-Ok.of_module read e h)

-- ---- there are none

pub without_layouts-requires : goal.without_layouts-requires
without_layouts-requires c =
    let read = the_code c.args.program.now.of_module c.module.result.now c.module.ensures.of_module c.args.text.now.func c.args.code.now c.in-Ok.of_module c.in-Ok.ensures.found c.in-Ok.ensures.one c.in-Ok.ensures.only_fault in
    let laid = subst (λ (m : Module). AreLayouts m c.args.program.now.layouts) c.module.ensures.of_module c.module.ensures.laid_out in
    c.in-Err-new.ensures.refused_only_so c.args.program.now.layouts
    (layouts_of_replaced c.grown_law.ensures c.layouts_stay_law.ensures c.args.program.now.of_module c.args.text.now.func c.args.code.now c.in-Ok.of_module c.args.program.now.layouts read.is_read.0 read.is_read.1 laid)

pub returns-in-Err-new-clause-only_fault : goal.returns-in-Err-new-clause-only_fault
returns-in-Err-new-clause-only_fault c =
    let read = the_code c.args.program.now.of_module c.module.result.now c.module.ensures.of_module c.args.text.now.func c.args.code.now c.in-Ok.of_module c.in-Ok.ensures.found c.in-Ok.ensures.one c.in-Ok.ensures.only_fault in
    λ e h. absurd (c.in-Ok-read_text.ensures.only_fault e (only_section c.args.program.now.of_module c.args.text.now.func c.args.code.now c.args.text.now.bytes.now c.in-Ok.of_module read e h))
