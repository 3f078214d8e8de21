-- Items that have no effect on the module.
use Rattle.std.specs.Prelude.{◌≢◌, ℕ, Bool, true, false, ◌||◌, ◌==◌, List, [], ◌∷◌}
use Rattle.grammar.specs.Grammar.{pure, checked, refuse, look, ◌>>◌}
use Rattle.grammar.specs.Takes.{TakesWhere, first_takes_where, stays_takes}
use Rattle.grammar.specs.Many.{many}
use Rattle.ir_tokens.specs.declared.token.Kind.{Kind}
use Rattle.ir_tokens.specs.declared.token.Kind.TheVariants as k
use Rattle.ir_forms.specs.Cursor.{kind, sees, spelling, begins_line}
use Rattle.ir_forms.specs.declared.input.Input.{Input}
use Rattle.ir_forms.specs.Input.{Form, unexpected, skip, skip_takes, expect, IsKind}
use Rattle.ir_forms.specs.Decorations.{either, any_token, any_token_takes}

-- ---- what the text was made from

-- `= "text"`
abbrev pub text_after : Form (Unit {0})
text_after = expect k.Equals >> expect k.Quoted

-- `source_filename = "x"`
unfoldable pub source_name : Form (Unit {0})
source_name = skip >> text_after

-- `datalayout` or `triple`
abbrev pub target_part_by : Kind → Form (Unit {0})
target_part_by k.Datalayout = skip
target_part_by k.Triple = skip
target_part_by _ = refuse unexpected

-- `datalayout` or `triple`, which must be here
unfoldable pub target_part : Form (Unit {0})
target_part = look (λ i. kind i.cursor) target_part_by

-- what follows `target`
abbrev pub target_after : Form (Unit {0})
target_after = target_part >> text_after

-- `target datalayout = "x"` or `target triple = "x"`
unfoldable pub target_line : Form (Unit {0})
target_line = skip >> target_after

-- ---- groups of attributes

-- the group ends here
abbrev pub at_brace : Input → Bool
at_brace i = sees k.CloseBrace i.cursor

-- the tokens up to a brace that closes
unfoldable pub braced : Form (List Kind)
braced = many at_brace any_token any_token_takes

-- what follows `attributes`
abbrev pub group_after : Form (Unit {0})
group_after = do
  expect k.AttributeGroup
  expect k.Equals
  expect k.OpenBrace
  braced
  expect k.CloseBrace

-- `attributes #n = { .. }`
unfoldable pub group : Form (Unit {0})
group = skip >> group_after

-- ---- comdats

-- the spelling begins with `$`
abbrev pub begins_dollar : List ℕ → Bool
begins_dollar [] = false
begins_dollar (byte ∷ bytes) = byte == 36

-- the spelling is `$` alone
abbrev pub is_dollar : List ℕ → Bool
is_dollar (byte ∷ []) = byte == 36
is_dollar _ = false

-- a comdat's name is here
abbrev pub is_comdat_name : Form (Unit {0})
is_comdat_name = checked (λ i. begins_dollar (spelling i.cursor)) unexpected

-- the sign `$` alone has a quoted text after it
abbrev pub dollar_name_by : Bool → Form (Unit {0})
dollar_name_by = either (skip >> expect k.Quoted) skip

-- `$x`, or `$"x"`
unfoldable pub dollar_name : Form (Unit {0})
dollar_name = look (λ i. is_dollar (spelling i.cursor)) dollar_name_by

-- what follows the name of a comdat
abbrev pub comdat_after : Form (Unit {0})
comdat_after = do
  expect k.Equals
  expect k.Comdat
  expect k.LowercaseWord

-- a comdat line whose name begins with `$`
abbrev pub named_comdat : Form (Unit {0})
named_comdat = dollar_name >> comdat_after

-- `$x = comdat any`
unfoldable pub comdat : Form (Unit {0})
comdat = is_comdat_name >> named_comdat

-- ---- metadata

-- the line ends here
abbrev pub at_line_end : Input → Bool
at_line_end i = begins_line i.cursor || sees k.End i.cursor

-- the tokens up to the end of the line
unfoldable pub rest_of_line : Form (List Kind)
rest_of_line = many at_line_end any_token any_token_takes

-- the next token is the first one of its line
abbrev pub is_first : Form (Unit {0})
is_first = checked (λ i. begins_line i.cursor) unexpected

-- the rest of a line
abbrev pub line_after : Form (Unit {0})
line_after = rest_of_line >> pure tt

-- a line that is read without effect
abbrev pub whole_line : Form (Unit {0})
whole_line = skip >> line_after

-- a line that begins with `!`
unfoldable pub metadata_line : Form (Unit {0})
metadata_line = is_first >> whole_line

-- ---- these items take a token

pub source_name_takes : TakesWhere (IsKind k.SourceFilename) source_name
unfolding source_name
source_name_takes = first_takes_where (IsKind k.SourceFilename) skip (λ _. text_after) (skip_takes k.SourceFilename (λ x. cc))

pub target_line_takes : TakesWhere (IsKind k.Target) target_line
unfolding target_line
target_line_takes = first_takes_where (IsKind k.Target) skip (λ _. target_after) (skip_takes k.Target (λ x. cc))

pub group_takes : TakesWhere (IsKind k.Attributes) group
unfolding group
group_takes = first_takes_where (IsKind k.Attributes) skip (λ _. group_after) (skip_takes k.Attributes (λ x. cc))

dollar_takes_by : (is_alone : Bool) → TakesWhere (IsKind k.Word) (dollar_name_by is_alone)
dollar_takes_by true = first_takes_where (IsKind k.Word) skip (λ _. expect k.Quoted) (skip_takes k.Word (λ x. cc))
dollar_takes_by false = skip_takes k.Word (λ x. cc)

dollar_takes : TakesWhere (IsKind k.Word) dollar_name
unfolding dollar_name
dollar_takes i a o e h = dollar_takes_by (is_dollar (spelling i.cursor)) i a o e h

pub comdat_takes : TakesWhere (IsKind k.Word) comdat
unfolding comdat
comdat_takes = stays_takes (IsKind k.Word) is_comdat_name named_comdat (λ i a o h. h.1) (first_takes_where (IsKind k.Word) dollar_name (λ _. comdat_after) dollar_takes)

whole_line_takes : (x : Kind) → x ≢ k.End → TakesWhere (IsKind x) whole_line
whole_line_takes x ne = first_takes_where (IsKind x) skip (λ _. line_after) (skip_takes x ne)

pub metadata_line_takes : (x : Kind) → x ≢ k.End → TakesWhere (IsKind x) metadata_line
unfolding metadata_line
metadata_line_takes x ne = stays_takes (IsKind x) is_first whole_line (λ i a o h. h.1) (whole_line_takes x ne)
