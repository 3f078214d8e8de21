-- Certificates that fit the module of a session, after an edit.
use Rattle.std.specs.Prelude.{◌≡◌, true}
use Rattle.certs.specs.Fits.{fits}
use Rattle.certs.specs.ForeignFit.{foreign_fits}
use Rattle.certs.specs.ShapesFit.{shapes_fit}
use Rattle.recheck.specs.declared.edit.Edit.{Edit}
use Rattle.layout.specs.Functions.{with_functions}
use Rattle.recheck.specs.Edits.{module_in, IsEdited}
use Rattle.recheck.specs.Session.{State}

-- the certificates of a session are those of its module, which has their shapes and trusts what they trust
pub record IsFitting (s : State) : Type 0 where
  pub sections : fits (module_in s) s.certs.sections ≡ true
  pub shapes : shapes_fit (module_in s) s.certs.shapes ≡ true
  pub same : (module_in s).shapes ≡ s.certs.shapes
  pub foreign : foreign_fits (module_in s) s.certs.foreign ≡ true
  pub trusted : (module_in s).trusted ≡ s.certs.foreign

-- the modules of two sessions differ in their functions alone
abbrev pub HaveSameTables : (s t : State) → Type 0
HaveSameTables s t = module_in t ≡ with_functions (module_in s) (module_in t).functions

-- certificates that fitted fit after an edit that adds nothing to the tables
abbrev pub EditsKeepFitting : Type 0
EditsKeepFitting = (s : State) (e : Edit) (t : State) → IsFitting s → IsEdited s e t → HaveSameTables s t → IsFitting t
