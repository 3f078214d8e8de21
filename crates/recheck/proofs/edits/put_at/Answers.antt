use Rattle.std.proofs.Common.{ℕ, List, inl, inr, refl, ap, sym, ◌∙◌}
use Rattle.recheck.specs.declared.edit.Edit.TheVariants as edit
use Rattle.recheck.proofs.Edited.{section_edited, section_kept, section_fault_at, section_accepted_at, section_refused_at, code_edited, code_kept, code_fault_at, code_accepted_at, code_refused_at}
use Rattle.recheck.proofs.edits.put_at.Goals as goal

-- ---- a section

pub returns-in-Cert-clause-put : goal.returns-in-Cert-clause-put
returns-in-Cert-clause-put c = section_edited c.args.program.now c.args.certs.now c.args.certs.now.sections c.args.func c.args.edit.now c.in-Cert.name c.as_slice.result.now (c.in-Cert.is ∙ ap (edit.Cert c.in-Cert.name) (sym c.as_slice.ensures)) c.args.kept.now c.requires.kept c.put_section_of.new.certs.sections c.put_section_of.result c.put_section_of.ensures.put

pub returns-in-Cert-clause-kept_so : goal.returns-in-Cert-clause-kept_so
returns-in-Cert-clause-kept_so c =
    section_kept c.args.program.now c.args.certs.now c.put_section_of.new.certs c.args.func c.as_slice.result.now c.args.kept.now (record c.args.kept.now { functions = c.put_section_of.new.kept }) c.put_section_of.result c.requires.kept refl
    c.put_section_of.ensures.put c.put_section_of.ensures.answers c.put_section_of.ensures.kept c.put_section_of.ensures.rows

pub returns-in-Cert-clause-fault : goal.returns-in-Cert-clause-fault
returns-in-Cert-clause-fault c = section_fault_at c.args.program.now c.args.certs.now c.args.certs.now.sections c.args.func c.args.edit.now c.in-Cert.name c.as_slice.result.now (c.in-Cert.is ∙ ap (edit.Cert c.in-Cert.name) (sym c.as_slice.ensures)) c.put_section_of.result c.put_section_of.ensures.fault

pub returns-in-Cert-clause-only : goal.returns-in-Cert-clause-only
returns-in-Cert-clause-only c = section_accepted_at c.args.program.now c.args.certs.now c.args.certs.now.sections c.args.func c.args.edit.now c.in-Cert.name c.as_slice.result.now (c.in-Cert.is ∙ ap (edit.Cert c.in-Cert.name) (sym c.as_slice.ensures)) c.put_section_of.result c.put_section_of.ensures.only

pub returns-in-Cert-clause-only_fault : goal.returns-in-Cert-clause-only_fault
returns-in-Cert-clause-only_fault c = section_refused_at c.args.program.now c.args.certs.now c.args.certs.now.sections c.args.func c.args.edit.now c.in-Cert.name c.as_slice.result.now (c.in-Cert.is ∙ ap (edit.Cert c.in-Cert.name) (sym c.as_slice.ensures)) c.put_section_of.result c.put_section_of.ensures.only_fault

-- ---- code

pub returns-in-Ok-clause-put : goal.returns-in-Ok-clause-put
returns-in-Ok-clause-put c = code_edited c.args.program.now c.args.certs.now c.args.certs.now.sections c.args.func c.args.edit.now c.as_slice-in-Code.result.now c.as_slice-in-Code-2.result.now (inl (c.in-Code.name, c.in-Code.is ∙ ap (edit.Code c.in-Code.name) (sym c.as_slice-in-Code.ensures), c.as_slice-in-Code-2.ensures.value ∙ c.in-Ok.ensures)) c.put_code.new.program c.put_code.new.certs.sections c.put_code.result c.put_code.ensures.put

pub returns-in-Ok-clause-kept_so : goal.returns-in-Ok-clause-kept_so
returns-in-Ok-clause-kept_so c =
    code_kept c.args.program.now c.put_code.new.program c.args.certs.now c.put_code.new.certs c.args.func c.as_slice-in-Code.result.now c.as_slice-in-Code-2.result.now c.args.kept.now c.put_code.new.kept c.put_code.result c.requires.kept
    c.put_code.ensures.put c.put_code.ensures.answers c.put_code.ensures.ready c.put_code.ensures.kept c.put_code.ensures.rows

pub returns-in-Ok-clause-fault : goal.returns-in-Ok-clause-fault
returns-in-Ok-clause-fault c = code_fault_at c.args.program.now c.args.certs.now c.args.certs.now.sections c.args.func c.args.edit.now c.as_slice-in-Code.result.now c.as_slice-in-Code-2.result.now (inl (c.in-Code.name, c.in-Code.is ∙ ap (edit.Code c.in-Code.name) (sym c.as_slice-in-Code.ensures), c.as_slice-in-Code-2.ensures.value ∙ c.in-Ok.ensures)) c.put_code.result c.put_code.ensures.fault

pub returns-in-Ok-clause-only : goal.returns-in-Ok-clause-only
returns-in-Ok-clause-only c = code_accepted_at c.args.program.now c.args.certs.now c.args.certs.now.sections c.args.func c.args.edit.now c.as_slice-in-Code.result.now c.as_slice-in-Code-2.result.now (inl (c.in-Code.name, c.in-Code.is ∙ ap (edit.Code c.in-Code.name) (sym c.as_slice-in-Code.ensures), c.as_slice-in-Code-2.ensures.value ∙ c.in-Ok.ensures)) c.put_code.result c.put_code.ensures.only

pub returns-in-Ok-clause-only_fault : goal.returns-in-Ok-clause-only_fault
returns-in-Ok-clause-only_fault c = code_refused_at c.args.program.now c.args.certs.now c.args.certs.now.sections c.args.func c.args.edit.now c.as_slice-in-Code.result.now c.as_slice-in-Code-2.result.now (inl (c.in-Code.name, c.in-Code.is ∙ ap (edit.Code c.in-Code.name) (sym c.as_slice-in-Code.ensures), c.as_slice-in-Code-2.ensures.value ∙ c.in-Ok.ensures)) c.put_code.result c.put_code.ensures.only_fault

-- ---- both

pub returns-in-Both-clause-put : goal.returns-in-Both-clause-put
returns-in-Both-clause-put c = code_edited c.args.program.now c.args.certs.now c.args.certs.now.sections c.args.func c.args.edit.now c.as_slice-in-Both.result.now c.as_slice-in-Both-2.result.now (inr (c.in-Both.name, c.in-Both.is ∙ ap (λ (x : List ℕ). edit.Both c.in-Both.name x c.in-Both.section) (sym c.as_slice-in-Both.ensures) ∙ ap (edit.Both c.in-Both.name c.as_slice-in-Both.result.now) (sym c.as_slice-in-Both-2.ensures))) c.put_code-in-Both.new.program c.put_code-in-Both.new.certs.sections c.put_code-in-Both.result c.put_code-in-Both.ensures.put

pub returns-in-Both-clause-kept_so : goal.returns-in-Both-clause-kept_so
returns-in-Both-clause-kept_so c =
    code_kept c.args.program.now c.put_code-in-Both.new.program c.args.certs.now c.put_code-in-Both.new.certs c.args.func c.as_slice-in-Both.result.now c.as_slice-in-Both-2.result.now c.args.kept.now c.put_code-in-Both.new.kept c.put_code-in-Both.result
    c.requires.kept c.put_code-in-Both.ensures.put c.put_code-in-Both.ensures.answers c.put_code-in-Both.ensures.ready c.put_code-in-Both.ensures.kept c.put_code-in-Both.ensures.rows

pub returns-in-Both-clause-fault : goal.returns-in-Both-clause-fault
returns-in-Both-clause-fault c = code_fault_at c.args.program.now c.args.certs.now c.args.certs.now.sections c.args.func c.args.edit.now c.as_slice-in-Both.result.now c.as_slice-in-Both-2.result.now (inr (c.in-Both.name, c.in-Both.is ∙ ap (λ (x : List ℕ). edit.Both c.in-Both.name x c.in-Both.section) (sym c.as_slice-in-Both.ensures) ∙ ap (edit.Both c.in-Both.name c.as_slice-in-Both.result.now) (sym c.as_slice-in-Both-2.ensures))) c.put_code-in-Both.result c.put_code-in-Both.ensures.fault

pub returns-in-Both-clause-only : goal.returns-in-Both-clause-only
returns-in-Both-clause-only c = code_accepted_at c.args.program.now c.args.certs.now c.args.certs.now.sections c.args.func c.args.edit.now c.as_slice-in-Both.result.now c.as_slice-in-Both-2.result.now (inr (c.in-Both.name, c.in-Both.is ∙ ap (λ (x : List ℕ). edit.Both c.in-Both.name x c.in-Both.section) (sym c.as_slice-in-Both.ensures) ∙ ap (edit.Both c.in-Both.name c.as_slice-in-Both.result.now) (sym c.as_slice-in-Both-2.ensures))) c.put_code-in-Both.result c.put_code-in-Both.ensures.only

pub returns-in-Both-clause-only_fault : goal.returns-in-Both-clause-only_fault
returns-in-Both-clause-only_fault c = code_refused_at c.args.program.now c.args.certs.now c.args.certs.now.sections c.args.func c.args.edit.now c.as_slice-in-Both.result.now c.as_slice-in-Both-2.result.now (inr (c.in-Both.name, c.in-Both.is ∙ ap (λ (x : List ℕ). edit.Both c.in-Both.name x c.in-Both.section) (sym c.as_slice-in-Both.ensures) ∙ ap (edit.Both c.in-Both.name c.as_slice-in-Both.result.now) (sym c.as_slice-in-Both-2.ensures))) c.put_code-in-Both.result c.put_code-in-Both.ensures.only_fault
