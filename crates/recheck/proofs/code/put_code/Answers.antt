use Rattle.std.proofs.Common.{◌≡◌, inl, rules, subst, sym}
use Rattle.ir_ast.specs.declared.module.Module.{Module}
use Rattle.recheck.specs.Put.{with_function, AreReady}
use Rattle.recheck.proofs.Edited.{the_place, only_section, with_code, place_put, place_fault, within_fault, within_none, within_refused, ready_in_place, ready_anew}
use Rattle.recheck.proofs.Rows.{rows_anew}
use Rattle.recheck.proofs.code.put_code.Goals as goal

-- ---- in the tables that are there

pub returns-in-Ok-Some-clause-put : goal.returns-in-Ok-Some-clause-put
returns-in-Ok-Some-clause-put c =
    let read = the_place c.args.program.now.of_module c.module.result.now c.module.ensures.of_module c.args.text.now.func c.args.code.now c.requires.kept.answered.laid_out.1 c.read_within.result c.in-Ok-Some.function (search rules) c.read_within.ensures.found c.read_within.ensures.one c.read_within.ensures.only_fault in
    place_put c.layouts_stay_law.ensures c.args.program.now c.put_in_place.new.program c.args.certs.now.sections c.put_in_place.new.certs.sections c.args.text.now.func c.in-Ok-Some.function c.args.code.now c.args.text.now.bytes.now c.put_in_place.result
    c.put_in_place.ensures.program read.is_read.0 c.requires.kept.answered.laid_out c.requires.kept.answered.sized c.put_in_place.ensures.put

pub returns-in-Ok-Some-clause-fault : goal.returns-in-Ok-Some-clause-fault
returns-in-Ok-Some-clause-fault c =
    let read = the_place c.args.program.now.of_module c.module.result.now c.module.ensures.of_module c.args.text.now.func c.args.code.now c.requires.kept.answered.laid_out.1 c.read_within.result c.in-Ok-Some.function (search rules) c.read_within.ensures.found c.read_within.ensures.one c.read_within.ensures.only_fault in
    place_fault c.args.program.now.of_module c.args.text.now.func c.args.code.now c.args.text.now.bytes.now (with_function c.args.program.now.of_module c.args.text.now.func c.in-Ok-Some.function) c.put_in_place.result read.is_read c.put_in_place.ensures.fault

pub returns-in-Ok-Some-clause-only : goal.returns-in-Ok-Some-clause-only
returns-in-Ok-Some-clause-only c =
    let read = the_place c.args.program.now.of_module c.module.result.now c.module.ensures.of_module c.args.text.now.func c.args.code.now c.requires.kept.answered.laid_out.1 c.read_within.result c.in-Ok-Some.function (search rules) c.read_within.ensures.found c.read_within.ensures.one c.read_within.ensures.only_fault in
    λ n section is. c.put_in_place.ensures.only section (with_code c.args.program.now.of_module c.args.text.now.func c.args.code.now c.args.text.now.bytes.now (with_function c.args.program.now.of_module c.args.text.now.func c.in-Ok-Some.function) read n section is)

pub returns-in-Ok-Some-clause-only_fault : goal.returns-in-Ok-Some-clause-only_fault
returns-in-Ok-Some-clause-only_fault c =
    let read = the_place c.args.program.now.of_module c.module.result.now c.module.ensures.of_module c.args.text.now.func c.args.code.now c.requires.kept.answered.laid_out.1 c.read_within.result c.in-Ok-Some.function (search rules) c.read_within.ensures.found c.read_within.ensures.one c.read_within.ensures.only_fault in
    λ e h. c.put_in_place.ensures.only_fault e (only_section c.args.program.now.of_module c.args.text.now.func c.args.code.now c.args.text.now.bytes.now (with_function c.args.program.now.of_module c.args.text.now.func c.in-Ok-Some.function) read e h)

-- ---- where the code is refused

pub returns-in-Err-clause-fault : goal.returns-in-Err-clause-fault
returns-in-Err-clause-fault c = λ differs. inl (within_fault c.args.program.now.of_module c.module.result.now c.module.ensures.of_module c.args.text.now.func c.args.code.now c.in-Err.fault (c.in-Err.ensures.fault differs))

pub returns-in-Err-clause-only : goal.returns-in-Err-clause-only
returns-in-Err-clause-only c = λ n section is. within_none c.args.program.now.of_module c.module.result.now c.module.ensures.of_module c.args.text.now.func c.args.code.now c.in-Err.fault c.in-Err.ensures.only n is.0.0

pub returns-in-Err-clause-only_fault : goal.returns-in-Err-clause-only_fault
returns-in-Err-clause-only_fault c = within_refused c.args.program.now.of_module c.module.result.now c.module.ensures.of_module c.args.text.now.func c.args.code.now c.in-Err.fault c.in-Err.ensures.only c.in-Err.ensures.only_fault c.args.text.now.bytes.now

-- ---- the tables that are ready

pub returns-in-Ok-Some-clause-ready : goal.returns-in-Ok-Some-clause-ready
returns-in-Ok-Some-clause-ready c =
    let ready = subst (λ (m : Module). AreReady m c.read_within.new.ready) c.module.ensures.of_module c.read_within.ensures.ready in
    ready_in_place c.args.program.now c.put_in_place.new.program c.args.text.now.func c.in-Ok-Some.function c.read_within.new.ready (c.put_in_place.new.certs ≡ c.args.certs.now) (c.put_in_place.new.kept.answers ≡ c.args.kept.now.functions.answers) c.put_in_place.result ready c.put_in_place.ensures.program c.put_in_place.ensures.kept

pub returns-in-Ok-None-clause-ready : goal.returns-in-Ok-None-clause-ready
returns-in-Ok-None-clause-ready c =
    let ready = subst (λ (m : Module). AreReady m c.read_within.new.ready) c.module.ensures.of_module c.read_within.ensures.ready in
    ready_anew c.args.program.now c.put_anew.new.program (c.put_anew.new.certs ≡ c.args.certs.now) (record c.args.kept.now { tables = c.read_within.new.ready }) c.put_anew.new.kept c.put_anew.result ready c.put_anew.ensures.ready c.put_anew.ensures.kept

pub returns-in-Err-clause-ready : goal.returns-in-Err-clause-ready
returns-in-Err-clause-ready c = subst (λ (m : Module). AreReady m c.read_within.new.ready) c.module.ensures.of_module c.read_within.ensures.ready

pub read_within-requires : goal.read_within-requires
read_within-requires c = subst (λ (m : Module). AreReady m c.args.kept.now.tables) (sym c.module.ensures.of_module) c.requires.kept.ready

-- ---- what is kept of the blocks

pub returns-in-Ok-None-clause-rows : goal.returns-in-Ok-None-clause-rows
returns-in-Ok-None-clause-rows c =
    rows_anew c.args.program.now c.put_anew.new.program c.args.certs.now c.put_anew.new.certs (record c.args.kept.now { tables = c.read_within.new.ready }) c.put_anew.new.kept c.put_anew.result c.requires.kept.rows c.put_anew.ensures.rows c.put_anew.ensures.kept
