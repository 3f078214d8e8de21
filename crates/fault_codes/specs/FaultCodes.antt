-- The code of each fault. Where memory was refused there is none.
use Rattle.std.specs.Prelude.{Option, Some, None}
use Rattle.explain.specs.declared.code.Code.{Code}
use Rattle.explain.specs.declared.code.Code.TheVariants as code
use Rattle.ir_text.specs.declared.read_fault.ReadFault.{ReadFault}
use Rattle.ir_text.specs.declared.read_fault.ReadFault.TheVariants as read
use Rattle.certificate.specs.declared.fault.CertFault.{CertFault}
use Rattle.certificate.specs.declared.fault.CertFault.TheVariants as cert
use Rattle.layout.specs.declared.fault.LayoutFault.{LayoutFault}
use Rattle.layout.specs.declared.fault.LayoutFault.TheVariants as layout
use Rattle.trace_text.specs.declared.fault.TraceFault.{TraceFault}
use Rattle.trace_text.specs.declared.fault.TraceFault.TheVariants as trace
use Rattle.recheck.specs.declared.edit_fault.EditFault.{EditFault}
use Rattle.recheck.specs.declared.edit_fault.EditFault.TheVariants as edit

-- the code of a fault in the text of a module
abbrev pub read_code : ReadFault → Option Code
read_code (read.BadByte at) = Some code.L1
read_code (read.Unfinished at) = Some code.L2
read_code (read.Unexpected at) = Some code.L3
read_code (read.DefinedTwice at) = Some code.L4
read_code (read.NotDefined at) = Some code.L5
read_code (read.OutOfRange at) = Some code.L6
read_code (read.LeftOut at word) = Some code.L7
read_code (read.Limit at) = Some code.L8
read_code (read.WrongNumber at) = Some code.L9
read_code (read.OtherPointer at) = Some code.L10
read_code read.Memory = None

-- the code of a fault in the text of certificates, of shapes or of edits
abbrev pub cert_code : CertFault → Option Code
cert_code (cert.Syntax at) = Some code.C1
cert_code (cert.Version at) = Some code.C2
cert_code (cert.UnknownName at) = Some code.C3
cert_code (cert.ListedTwice at) = Some code.C4
cert_code (cert.Missing func) = Some code.C5
cert_code (cert.MissingBlock func block) = Some code.C5
cert_code (cert.MissingWord layout word) = Some code.C6
cert_code (cert.MissingGlobal symbol) = Some code.C6
cert_code (cert.MissingRoot func slot) = Some code.C6
cert_code cert.Memory = None

-- the code of a module without layouts
abbrev pub layout_code : LayoutFault → Option Code
layout_code (layout.HoldsItself number) = Some code.Y1
layout_code (layout.TooManyWords number) = Some code.Y2
layout_code (layout.NoSuchLayout number) = Some code.Y3
layout_code layout.ShapesWanted = Some code.Y5
layout_code layout.Memory = None

-- the code of a fault in the text of a trace
abbrev pub trace_code : TraceFault → Option Code
trace_code (trace.Syntax at) = Some code.P1
trace_code (trace.NoThread at) = Some code.P2
trace_code (trace.TooManySteps at) = Some code.P3
trace_code trace.TooManyCells = Some code.Y4
trace_code trace.Memory = None

-- the code for which an edit is refused
abbrev pub edit_code : EditFault → Option Code
edit_code edit.NoFunction = Some code.L5
edit_code edit.NoSection = Some code.C3
edit_code edit.ShapesWanted = Some code.C2
edit_code (edit.Code fault) = read_code fault
edit_code (edit.Cert fault) = cert_code fault
edit_code edit.Memory = None
