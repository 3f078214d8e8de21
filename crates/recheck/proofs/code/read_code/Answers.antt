use Rattle.std.proofs.Common.{◌≡◌, true, false, sym, ◌∙◌}
use Rattle.layout.specs.Layouts.{wants_shapes}
use Rattle.recheck.proofs.Edited.{text_accepted, text_refused, text_same, text_one, wanted_accepted, wanted_same, unwanted_unread}
use Rattle.recheck.proofs.code.read_code.Goals as goal

-- ---- the text is refused

pub returns-in-Err-clause-only : goal.returns-in-Err-clause-only
returns-in-Err-clause-only c = λ n is. text_accepted c.args.of_module.now c.args.func c.args.code.now c.in-Err.fault c.from.result c.from.ensures c.in-Err.ensures.only n is.0

pub returns-in-Err-clause-fault : goal.returns-in-Err-clause-fault
returns-in-Err-clause-fault c = text_refused c.args.of_module.now c.args.func c.args.code.now c.in-Err.fault c.from.result c.from.ensures c.in-Err.ensures.fault

pub returns-in-Err-clause-only_fault : goal.returns-in-Err-clause-only_fault
returns-in-Err-clause-only_fault c = text_same c.args.of_module.now c.args.func c.args.code.now c.in-Err.fault c.from.result c.from.ensures c.in-Err.ensures.only c.in-Err.ensures.only_fault

-- ---- shapes are wanted for what is read

pub returns-then-wants_shapes-clause-only : goal.returns-then-wants_shapes-clause-only
returns-then-wants_shapes-clause-only c = λ n is _.
    let wanted : wants_shapes c.in-Ok.replaced ≡ true = sym c.wants_shapes.ensures ∙ c.if-wants_shapes.true in
    wanted_accepted c.args.of_module.now c.args.func c.args.code.now c.in-Ok.replaced c.in-Ok.ensures.only c.in-Ok.ensures.only_fault wanted n is

pub returns-then-wants_shapes-clause-only_fault : goal.returns-then-wants_shapes-clause-only_fault
returns-then-wants_shapes-clause-only_fault c = λ e h _.
    let wanted : wants_shapes c.in-Ok.replaced ≡ true = sym c.wants_shapes.ensures ∙ c.if-wants_shapes.true in
    wanted_same c.args.of_module.now c.args.func c.args.code.now c.in-Ok.replaced c.in-Ok.ensures.only c.in-Ok.ensures.only_fault wanted e h

-- ---- they are not

pub returns-clause-one : goal.returns-clause-one
returns-clause-one c = λ n is. text_one c.args.of_module.now c.args.func c.args.code.now c.in-Ok.replaced c.in-Ok.ensures.only c.in-Ok.ensures.only_fault n is.0

pub returns-clause-only_fault : goal.returns-clause-only_fault
returns-clause-only_fault c = λ e h.
    let unwanted : wants_shapes c.in-Ok.replaced ≡ false = sym c.wants_shapes.ensures ∙ c.if-wants_shapes.false in
    unwanted_unread c.args.of_module.now c.args.func c.args.code.now c.in-Ok.replaced c.in-Ok.ensures.only c.in-Ok.ensures.only_fault unwanted e h
