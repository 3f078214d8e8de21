use Rattle.std.proofs.Common.{inr, sym, ◌∙◌}
use Rattle.recheck.proofs.Faults.{section_refused, section_accepted, section_unread, section_same, slot_same, slot_accepted}
use Rattle.recheck.proofs.put.read_text.Goals as goal

-- ---- the text is read

pub returns-in-None-clause-found : goal.returns-in-None-clause-found
returns-in-None-clause-found c = (c.in-Ok-read_section.ensures.found, sym c.in-Ok.ensures ∙ c.in-None.is)

pub returns-in-None-clause-only_fault : goal.returns-in-None-clause-only_fault
returns-in-None-clause-only_fault c = section_unread c.args.module.now c.args.func c.args.text.now c.in-Ok-read_section.section c.in-Ok-read_section.ensures.only_fault (sym c.in-Ok.ensures ∙ c.in-None.is)

-- ---- a root slot has no shape

pub returns-in-Some-clause-only : goal.returns-in-Some-clause-only
returns-in-Some-clause-only c = λ section is _. slot_accepted c.args.module.now c.args.func c.args.text.now c.in-Some.slot (sym c.in-Ok.ensures ∙ c.in-Some.is) section is

pub returns-in-Some-clause-fault : goal.returns-in-Some-clause-fault
returns-in-Some-clause-fault c = λ _. inr (c.in-Ok-read_section.section, c.in-Some.slot, c.in-Ok-read_section.ensures.found, sym c.in-Ok.ensures ∙ c.in-Some.is, sym c.no_shape.ensures)

pub returns-in-Some-clause-only_fault : goal.returns-in-Some-clause-only_fault
returns-in-Some-clause-only_fault c = λ e h _.
    slot_same c.args.module.now c.args.func c.args.text.now c.in-Ok-read_section.section c.in-Ok-read_section.ensures.only_fault c.in-Some.slot (sym c.in-Ok.ensures ∙ c.in-Some.is) c.no_shape.result c.no_shape.ensures e h

-- ---- the text is refused

pub returns-in-Err-read_section-clause-only : goal.returns-in-Err-read_section-clause-only
returns-in-Err-read_section-clause-only c = section_accepted c.args.module.now c.args.func c.args.text.now c.in-Err-read_section.fault c.in-Ok.missing c.first_fault.result c.first_fault.ensures c.in-Ok.ensures c.in-Err-read_section.ensures.only

pub returns-in-Err-read_section-clause-fault : goal.returns-in-Err-read_section-clause-fault
returns-in-Err-read_section-clause-fault c = section_refused c.args.module.now c.args.func c.args.text.now c.in-Err-read_section.fault c.in-Ok.missing c.first_fault.result c.first_fault.ensures c.in-Ok.ensures c.in-Err-read_section.ensures.fault

pub returns-in-Err-read_section-clause-only_fault : goal.returns-in-Err-read_section-clause-only_fault
returns-in-Err-read_section-clause-only_fault c =
    section_same c.args.module.now c.args.func c.args.text.now c.in-Err-read_section.fault c.in-Ok.missing c.first_fault.result c.first_fault.ensures c.in-Ok.ensures c.in-Err-read_section.ensures.only c.in-Err-read_section.ensures.only_fault
