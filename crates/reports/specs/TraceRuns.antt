-- What the commands that read a trace say of their files, and what `run` says.
use Rattle.std.specs.Prelude.{◌≡◌, ◌≢◌, List, Option}
use Rattle.ir_ast.specs.declared.module.Module.{Module}
use Rattle.layout.specs.Layouts.{LaidOut}
use Rattle.certs.specs.declared.certs.Certs.{Certs}
use Rattle.certs.specs.declared.section.Section.{Section}
use Rattle.module_check.specs.Accepted.{IsProgramCertified, shaped}
use Rattle.trace_text.specs.declared.trace.Trace.{Trace}
use Rattle.program_runner.specs.declared.setup_fault.SetupFault.{SetupFault}
use Rattle.program_runner.specs.declared.setup_fault.SetupFault.TheVariants as setup
use Rattle.serving.specs.declared.beside.Limits.{Limits}
use Rattle.mutators.specs.Faults.{HasNoRunFault, IsRunFault}
use Rattle.mutators.specs.Reports.{IsReport}
use Rattle.mutators.specs.declared.report.RunReport.{RunReport}
use Rattle.reports.specs.Files.{HasProgram, HasTrace, IsNoTrace, IsUntraced, of_unread}
use Rattle.reports.specs.Said.{Said, OnOutput, OnError, OfVerdict}
use Rattle.reports.specs.declared.files.File.{File}
use Rattle.reports.specs.declared.files.ModuleFile.{ModuleFile}
use Rattle.reports.specs.declared.files.Unread.{Unread}
use Rattle.reports.specs.Outcomes.{of_setup_fault}
use Rattle.reports.specs.RunReport.{of_report}

-- ---- a program and its trace

-- what is said of the files of a program, its trace and its shapes, where this is said of program and trace once they are read
pub data OfRun (Run : LaidOut → Trace → Said → Type 0) (first : Option ModuleFile) (trace shapes : Option File) : Said → Type 0 where
  not_traced : (unread : Unread) → IsUntraced first trace shapes unread → OfRun Run first trace shapes (OnError (of_unread unread))
  of_traced : (p : LaidOut) (t : Trace) (said : Said) → HasProgram first shapes p → HasTrace trace p t → Run p t said
      → OfRun Run first trace shapes said

-- ---- run

-- what `run` says of an accepted program with its certificates and of the threads with which a trace begins: how far they and the
-- collector came in a run within the limits, the first thread that may not begin, or that memory was refused
pub data OfThreads (limits : Limits) (p : LaidOut) (certs : List Section) (t : Trace) : Said → Type 0 where
  ran : (report : RunReport) → HasNoRunFault p certs t.setup → IsReport p t.setup limits report → OfThreads limits p certs t (OnOutput (of_report report))
  not_run : (fault : SetupFault) → (fault ≢ setup.Memory → IsRunFault p certs t.setup fault) → OfThreads limits p certs t (OnError (of_setup_fault fault))

-- what it says of them and the file of the trace
pub data OfTraceFile (limits : Limits) (p : LaidOut) (certs : List Section) (trace : Option File) : Said → Type 0 where
  no_trace : (unread : Unread) → IsNoTrace trace p unread → OfTraceFile limits p certs trace (OnError (of_unread unread))
  of_trace : (t : Trace) (said : Said) → HasTrace trace p t → OfThreads limits p certs t said → OfTraceFile limits p certs trace said

-- what it says of a module, its certificates and the file of the trace: why they are not accepted, or what is said of the program
pub data OfRunCerts (limits : Limits) (trace : Option File) (m : Module) (certs : Certs) : Said → Type 0 where
  no_program : (said : Said) → OfVerdict m certs said → OfRunCerts limits trace m certs said
  of_program : (p : LaidOut) (said : Said) → p.of_module ≡ shaped m certs → IsProgramCertified p certs.sections → OfTraceFile limits p certs.sections trace said
      → OfRunCerts limits trace m certs said
