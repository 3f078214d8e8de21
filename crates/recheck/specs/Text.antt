-- Edits, and a text of edits.
use Rattle.std.specs.Prelude.{◌≡◌, List, codes}
use Rattle.std.proofs.Common.{lit<}
use Rattle.grammar.specs.Grammar.{pure, ◌>>=◌, ◌>>◌}
use Rattle.grammar.specs.Many.{many}
use Rattle.grammar.specs.Takes.{Takes, first_takes}
use Rattle.ir_tokens.specs.Bytes.{Text}
use Rattle.name_text.specs.Numbers.{is_nil}
use Rattle.name_text.specs.Places.{place}
use Rattle.recheck.specs.Forms.{Form, expect, expect_takes, part, name, line_end, gap, text}
use Rattle.recheck.specs.declared.edit.Edit.{Edit}
use Rattle.recheck.specs.declared.edit.Edit.TheVariants as kinds
use Rattle.recheck.specs.declared.frame_fault.FrameFault.{FrameFault}
use Rattle.recheck.specs.declared.frame_fault.FrameFault.TheVariants.{Syntax, Memory}
use Rattle.recheck.specs.declared.part.Part.{Part}
use Rattle.recheck.specs.declared.part.Part.TheVariants.{Code, Cert, Both}
use Rattle.certificate.specs.declared.fault.CertFault.{CertFault}
use Rattle.certificate.specs.declared.fault.CertFault.TheVariants as fault

-- an edit after its first line
unfoldable pub edit_of : Part → (named : Text) → Form Edit
edit_of Code named = text >>= λ code. pure (kinds.Code named code)
edit_of Cert named = text >>= λ section. pure (kinds.Cert named section)
edit_of Both named = text >>= λ code. text >>= λ section. pure (kinds.Both named code section)

-- an edit after its first word, and what may stand between it and the next one
abbrev pub edit_after : Form Edit
edit_after = do
  replaced ← part
  named ← name
  line_end
  read ← edit_of replaced named
  gap
  pure read

-- an edit
unfoldable pub edit : Form Edit
edit = expect (codes "edit") >> edit_after

-- an edit takes bytes
pub edit_takes : Takes edit
unfolding edit
edit_takes = first_takes (expect (codes "edit")) (λ _. edit_after) (expect_takes (codes "edit") (lit< tt))

-- the edits up to the text's end
unfoldable pub edits : Form (List Edit)
edits = many is_nil edit edit_takes

-- a text of edits
unfoldable pub file : Form (List Edit)
file = gap >> edits

-- the text is one of these edits
abbrev pub IsEdits : Text → List Edit → Type 0
IsEdits bytes listed = (o : Text) × file.says bytes listed o

-- a fault with its place
abbrev pub placed : Text → FrameFault → CertFault
placed bytes (Syntax rest) = fault.Syntax (place bytes rest)
placed bytes Memory = fault.Memory

-- the text is of the format up to a place, where it has this fault
abbrev pub IsFault : Text → CertFault → Type 0
IsFault bytes fault = (found : FrameFault) × file.stuck bytes found × (placed bytes found ≡ fault)
