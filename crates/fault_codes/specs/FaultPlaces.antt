-- Where in its text each fault is. A fault of the whole text has no place, and memory that was refused has none.
use Rattle.std.specs.Prelude.{Option, Some, None}
use Rattle.ir_tokens.specs.declared.position.Position.{Position}
use Rattle.ir_text.specs.declared.read_fault.ReadFault.{ReadFault}
use Rattle.ir_text.specs.declared.read_fault.ReadFault.TheVariants as read
use Rattle.certificate.specs.declared.fault.CertFault.{CertFault}
use Rattle.certificate.specs.declared.fault.CertFault.TheVariants as cert
use Rattle.trace_text.specs.declared.fault.TraceFault.{TraceFault}
use Rattle.trace_text.specs.declared.fault.TraceFault.TheVariants as trace

-- the place of a fault in the text of a module
abbrev pub read_place : ReadFault → Option Position
read_place (read.BadByte at) = Some at
read_place (read.Unfinished at) = Some at
read_place (read.Unexpected at) = Some at
read_place (read.DefinedTwice at) = Some at
read_place (read.NotDefined at) = Some at
read_place (read.OutOfRange at) = Some at
read_place (read.LeftOut at word) = Some at
read_place (read.Limit at) = Some at
read_place (read.WrongNumber at) = Some at
read_place (read.OtherPointer at) = Some at
read_place read.Memory = None

-- the place of a fault in the text of certificates, of shapes or of edits
abbrev pub cert_place : CertFault → Option Position
cert_place (cert.Syntax at) = Some at
cert_place (cert.Version at) = Some at
cert_place (cert.UnknownName at) = Some at
cert_place (cert.ListedTwice at) = Some at
cert_place _ = None

-- the place of a fault in the text of a trace
abbrev pub trace_place : TraceFault → Option Position
trace_place (trace.Syntax at) = Some at
trace_place (trace.NoThread at) = Some at
trace_place (trace.TooManySteps at) = Some at
trace_place _ = None
