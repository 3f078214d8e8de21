-- Which statuses what is said has.
use Rattle.std.proofs.Common.{◌≡◌, ◌<◌, ℕ, List, inl, inr, sym, subst, arith}
use Rattle.ir_ast.specs.declared.module.Module.{Module}
use Rattle.certs.specs.declared.certs.Certs.{Certs}
use Rattle.ir_text.specs.declared.read_fault.ReadFault.{ReadFault}
use Rattle.ir_text.specs.declared.read_fault.ReadFault.TheVariants as read
use Rattle.layout.specs.declared.fault.LayoutFault.{LayoutFault}
use Rattle.layout.specs.declared.fault.LayoutFault.TheVariants as layout
use Rattle.certificate.specs.declared.fault.CertFault.{CertFault}
use Rattle.certificate.specs.declared.fault.CertFault.TheVariants as cert
use Rattle.trace_text.specs.declared.fault.TraceFault.{TraceFault}
use Rattle.trace_text.specs.declared.fault.TraceFault.TheVariants as trace
use Rattle.module_check.specs.declared.verdict.Reason.{Reason}
use Rattle.module_check.specs.declared.verdict.Reason.TheVariants as reason
use Rattle.reports.specs.Files.{of_unread}
use Rattle.reports.specs.Report.{of_cert_fault, of_edits_fault, of_layout_fault, of_layout_reason, of_read_fault, of_trace_fault}
use Rattle.reports.specs.Said.{Said, OfVerdict, refused, not_laid_out, not_checked}
use Rattle.reports.specs.declared.files.Unread.{Unread}
use Rattle.reports.specs.declared.files.Unread.TheVariants as unread
use Rattle.library_answers.specs.declared.answer.Answer.{Answer}
use Rattle.library_answers.specs.Told.{IsAnswered, IsNoVerdict, status_of}

two : 1 < 2
two = omega arith

three : 1 < 3
three = omega arith

four : 1 < 4
four = omega arith

of_read : (fault : ReadFault) → 1 < (of_read_fault fault).status
of_read read.Memory = three
of_read (read.BadByte at) = two
of_read (read.Unfinished at) = two
of_read (read.Unexpected at) = two
of_read (read.DefinedTwice at) = two
of_read (read.NotDefined at) = two
of_read (read.OutOfRange at) = two
of_read (read.LeftOut at word) = two
of_read (read.Limit at) = two
of_read (read.WrongNumber at) = two
of_read (read.OtherPointer at) = two

of_cert : (m : Module) (fault : CertFault) → 1 < (of_cert_fault m fault).status
of_cert m (cert.Syntax at) = two
of_cert m (cert.Version at) = two
of_cert m (cert.UnknownName at) = two
of_cert m (cert.ListedTwice at) = two
of_cert m (cert.Missing func) = two
of_cert m (cert.MissingBlock func block) = two
of_cert m (cert.MissingWord layout word) = two
of_cert m (cert.MissingGlobal symbol) = two
of_cert m (cert.MissingRoot func slot) = two
of_cert m cert.Memory = three

of_edits : (fault : CertFault) → 1 < (of_edits_fault fault).status
of_edits (cert.Syntax at) = two
of_edits (cert.Version at) = two
of_edits (cert.UnknownName at) = two
of_edits (cert.ListedTwice at) = two
of_edits (cert.Missing func) = two
of_edits (cert.MissingBlock func block) = two
of_edits (cert.MissingWord layout word) = two
of_edits (cert.MissingGlobal symbol) = two
of_edits (cert.MissingRoot func slot) = two
of_edits cert.Memory = three

pub of_layouts : (m : Module) (fault : LayoutFault) → 1 < (of_layout_fault m fault).status
of_layouts m (layout.HoldsItself number) = two
of_layouts m (layout.TooManyWords number) = two
of_layouts m (layout.NoSuchLayout number) = two
of_layouts m layout.ShapesWanted = two
of_layouts m layout.Memory = three

of_trace : (fault : TraceFault) → 1 < (of_trace_fault fault).status
of_trace (trace.Syntax at) = two
of_trace (trace.NoThread at) = two
of_trace (trace.TooManySteps at) = two
of_trace trace.TooManyCells = two
of_trace trace.Memory = three

-- what is said of texts that are not read is no verdict
pub unread_status : (u : Unread) → 1 < (of_unread u).status
unread_status (unread.NoFile path) = four
unread_status (unread.NoModule fault) = of_read fault
unread_status (unread.NoLayouts unfit) = of_layouts unfit.of_module unfit.fault
unread_status (unread.NoCertificate of_module fault) = of_cert of_module fault
unread_status (unread.NoEdits fault) = of_edits fault
unread_status (unread.NoTrace fault) = of_trace fault

-- nor is what is said of a module without layouts
pub reason_status : (m : Module) (r : Reason) → 1 < (of_layout_reason m r).status
reason_status m (reason.Layout fault) = of_layouts m fault
reason_status m (reason.Refused refusal) = three
reason_status m reason.Memory = three

-- what is said of a module that is not accepted is not yes
pub verdict_status : (m : Module) (certs : Certs) (said : Said) → OfVerdict m certs said → 0 < status_of said
verdict_status m certs said (refused refusal first) = let h : 0 < 1 = omega arith in h
verdict_status m certs said (not_laid_out fault is) = let h = of_layouts m fault in omega (arith, h)
verdict_status m certs said not_checked = let h : 0 < 3 = omega arith in h

-- an answer has a status above this, where all that it may be said to be has
pub status_above : (Meant : Said → Type 0) (n : ℕ) (before after : List ℕ) (answer : Answer) → n < 3 → ((said : Said) → Meant said → n < status_of said)
    → IsAnswered Meant before after answer → n < answer.status
status_above Meant n before after answer below each given =
    elim given [
      | inl told ↦ subst (λ (s : ℕ). n < s) (sym told.2.status_given) (each told.0 told.1)
      | inr none ↦ subst (λ (s : ℕ). n < s) (sym none.status_given) below
    ]

-- one thing that is no verdict is none
pub one_above : (line : Said) (before after : List ℕ) (answer : Answer) → 1 < status_of line → IsAnswered (λ said. said ≡ line) before after answer → IsNoVerdict answer
one_above line before after answer high given = status_above (λ said. said ≡ line) 1 before after answer three (λ said same. subst (λ (s : Said). 1 < status_of s) (sym same) high) given
