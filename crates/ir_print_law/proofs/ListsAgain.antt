-- Lists without an end of their own, which go on after a comma, and what follows an instruction.
use Rattle.std.proofs.Common.{◌≡◌, Bool, true, false, not, [], refl, ap, ◌∙◌}
use Rattle.std.specs.Prelude.{◌||◌}
use Rattle.ir_tokens.specs.declared.token.Kind.{Kind}
use Rattle.ir_tokens.specs.declared.token.Kind.TheVariants as k
use Rattle.ir_forms.specs.Cursor.{kind, kind_after, next, sees}
use Rattle.ir_forms.specs.declared.decorating.Trail.{Trail}
use Rattle.ir_forms.specs.declared.input.Input.{Input}
use Rattle.ir_forms.specs.Decorations.{trailing}
use Rattle.ir_forms.specs.Records.{begins_record, debug_records, drops_at, instruction_end}
use Rattle.ir_forms.specs.Input.{advanced}
use Rattle.ir_forms.specs.Lists as lists
use Rattle.ir_forms.specs.Written as w
use Rattle.ir_print_law.proofs.ArgumentsAgain.{ends_line}
use Rattle.ir_print_law.proofs.Steps.{unlike}
use Rattle.ir_print_law.proofs.Undropped.{no_record}
use Rattle.ir_print_law.proofs.Words.{seen}

-- a token of this kind is no comma
abbrev pub not_comma : Kind → Bool
not_comma k.Comma = false
not_comma _ = true

-- no comma comes at the end of a line
line_no_comma : (x : Kind) → ends_line x ≡ true → not_comma x ≡ true
line_no_comma k.Comma e = absurd cc
line_no_comma _ e = refl

-- so none is seen there
pub no_comma_seen : (i : Input) → ends_line (kind i.cursor) ≡ true → sees k.Comma i.cursor ≡ false
no_comma_seen i e = unlike k.Comma not_comma i refl (line_no_comma (kind i.cursor) e)

-- a token of this kind is no debug record
abbrev pub not_record : Kind → Bool
not_record k.DebugRecord = false
not_record _ = true

-- no debug record comes at the end of a line
line_no_record : (x : Kind) → ends_line x ≡ true → not_record x ≡ true
line_no_record k.DebugRecord e = absurd cc
line_no_record _ e = refl

-- so none is seen there
no_record_seen : (i : Input) → ends_line (kind i.cursor) ≡ true → sees k.DebugRecord i.cursor ≡ false
no_record_seen i e = unlike k.DebugRecord not_record i refl (line_no_record (kind i.cursor) e)

-- there are no debug records, and no calls that are dropped
pub records_said : (i : Input) → begins_record i ≡ false → debug_records.says i tt i
unfolding debug_records
records_said i e = ([], i, (ap not e, refl), (refl, refl))

-- there are no decorations after an instruction
pub trailing_said : (t : Trail) (i : Input) → sees k.Comma i.cursor ≡ false → (trailing t).says i tt i
unfolding trailing
trailing_said t i e = ([], i, (ap not e, refl), (refl, refl))

-- nothing is between an instruction and the next line
pub instruction_ended : (t : Trail) (i : Input) → sees k.Comma i.cursor ≡ false → begins_record i ≡ false → (instruction_end t).says i tt i
unfolding instruction_end
instruction_ended t i e none = (tt, i, trailing_said t i e, records_said i none)

-- so it is at the end of its line
pub line_ended : (t : Trail) (i : Input) → ends_line (kind i.cursor) ≡ true → drops_at i.cursor ≡ false → (instruction_end t).says i tt i
line_ended t i e undropped = instruction_ended t i (no_comma_seen i e) (no_record i (no_record_seen i e) undropped)

-- a type is no metadata
pub no_metadata : (x : Kind) → w.begins_type x ≡ true → lists.is_metadata x ≡ false
no_metadata k.MetadataName e = absurd cc
no_metadata _ e = refl

-- no further part comes at the end of the line
pub list_ends : (i : Input) → ends_line (kind i.cursor) ≡ true → lists.at_no_comma i ≡ true
list_ends i e = ap (λ (b : Bool). not b || lists.is_metadata (kind_after i.cursor)) (no_comma_seen i e)

-- a further part comes after a comma
pub list_goes_on : (i : Input) → kind i.cursor ≡ k.Comma → lists.is_metadata (kind (advanced i).cursor) ≡ false → lists.at_no_comma i ≡ false
unfolding kind_after kind next
list_goes_on i is e = ap (λ (b : Bool). not b || lists.is_metadata (kind_after i.cursor)) (seen k.Comma i is) ∙ e
