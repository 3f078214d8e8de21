-- Certificates that fit the module of a session, after an edit.
use Rattle.recheck.specs.declared.edit.Edit.{Edit}
use Rattle.recheck.specs.Edits.{module_in, IsEdited}
use Rattle.recheck.specs.Fitting.{IsFitting}
use Rattle.recheck.specs.Session.{State}
use Rattle.replaced_fits.specs.Closed.{IsClosed}

-- certificates that fit the module of a session fit it after each edit that is accepted
abbrev pub EditsStayFitting : Type 0
EditsStayFitting = (s : State) (e : Edit) (t : State) → IsFitting s → IsClosed (module_in s) → IsEdited s e t → IsFitting t
