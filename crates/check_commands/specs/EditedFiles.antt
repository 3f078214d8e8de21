-- What `recheck` says of its files.
use Rattle.std.specs.Prelude.{◌++◌, ℕ, List, Option}
use Rattle.ir_ast.specs.declared.module.Module.{Module}
use Rattle.layout.specs.Layouts.{IsLayoutFault}
use Rattle.layout.specs.declared.fault.LayoutFault.{LayoutFault}
use Rattle.certs.specs.declared.certs.Certs.{Certs}
use Rattle.module_check.specs.Accepted.{shaped}
use Rattle.recheck.specs.declared.edit.Edit.{Edit}
use Rattle.recheck.specs.Session.{State}
use Rattle.reports.specs.Report.{Answer, no_memory, of_layout_fault}
use Rattle.reports.specs.Files.{HasEdits, IsNoEdits, of_unread}
use Rattle.reports.specs.Said.{Said, OnOutput, OnError}
use Rattle.reports.specs.declared.files.File.{File}
use Rattle.reports.specs.declared.files.Unread.{Unread}
use Rattle.check_commands.specs.Rechecks.{IsBegun, OfEdits, OfSession}

-- what is said of a session and edits of it: the first verdict, a line for each edit, and the status of the last verdict; or that memory
-- was refused
pub data OfEdited (s : State) (edits : List Edit) : Said → Type 0 where
  edited : (t : State) (first last : Answer) (lines : List ℕ) → OfSession s first → OfEdits 1 s edits t lines → OfSession t last
      → OfEdited s edits (OnOutput (record { text = first.text ++ lines; status = last.status }))
  not_edited : OfEdited s edits (OnError no_memory)

-- what `recheck` says of a module, its certificates and edits: what is said of the session of the module with the shapes of the
-- certificates; the fault of the layouts with them; or that memory was refused
pub data OfRechecked (m : Module) (certs : Certs) (edits : List Edit) : Said → Type 0 where
  rechecked : (s : State) (said : Said) → IsBegun m certs s → OfEdited s edits said → OfRechecked m certs edits said
  no_session : (fault : LayoutFault) → IsLayoutFault (shaped m certs) fault → OfRechecked m certs edits (OnError (of_layout_fault m fault))
  not_rechecked : OfRechecked m certs edits (OnError no_memory)

-- what it says of a module, its certificates and the file of edits
pub data OfEditsFile (file : Option File) (m : Module) (certs : Certs) : Said → Type 0 where
  no_edits : (unread : Unread) → IsNoEdits file unread → OfEditsFile file m certs (OnError (of_unread unread))
  of_edits : (edits : List Edit) (said : Said) → HasEdits file edits → OfRechecked m certs edits said → OfEditsFile file m certs said
