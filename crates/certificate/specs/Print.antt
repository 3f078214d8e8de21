-- How certificates are printed.
use Rattle.std.specs.Prelude.{ℕ, Bool, if◌then◌else◌, List, [], ◌∷◌, ◌++◌, drop, filter, Option, Some, None, slice_get, codes}
use Rattle.std.specs.List.{flat_map, join_by, range_with_len, zip}
use Rattle.std.specs.Fmt.{decimal}
pub use Rattle.ir_ast.specs.Names.{name_at}
pub use Rattle.ir_ast.specs.StructNames.{struct_name}
use Rattle.ir_ast.specs.declared.block.Block.{Block}
use Rattle.ir_ast.specs.declared.function.Function.{Function}
use Rattle.ir_ast.specs.declared.function.Parameter.{Parameter}
use Rattle.ir_ast.specs.declared.module.Module.{Module}
use Rattle.ir_ast.specs.declared.outside.Outside.{Outside}
use Rattle.ir_ast.specs.declared.shapes.Shapes.{Shapes}
use Rattle.ir_tokens.specs.Bytes.{Text}
pub use Rattle.certificate.specs.NameTexts.{name_text, key_text, local_text, global_text, layout_text}
use Rattle.certificate.specs.ForeignPrint.{foreign_text}
use Rattle.certificate.specs.NumbersPrint.{numbers_text}
use Rattle.certificate.specs.ShapesPrint.{shapes_text}
use Rattle.pools.specs.WordSets.{has_word}
use Rattle.certs.specs.declared.certs.Certs.{Certs}
use Rattle.certs.specs.declared.section.Age.{Age}
use Rattle.certs.specs.declared.section.Age.TheVariants as ages
use Rattle.certs.specs.declared.section.Fact.{Fact}
use Rattle.certs.specs.declared.section.Fact.TheVariants as fact
use Rattle.certs.specs.declared.section.Claim.{Claim}
use Rattle.certs.specs.declared.section.Claim.TheVariants as line
use Rattle.certs.specs.declared.section.Mark.{Mark}
use Rattle.certs.specs.declared.section.Mark.TheVariants as mark
use Rattle.certs.specs.declared.section.Promise.{Promise}
use Rattle.certs.specs.declared.section.Section.{Section}

-- ---- facts

-- a word that may be there
abbrev pub word_if : Bool → (word : Text) → Text
word_if stands word = if stands then word else []

-- below what a number is, if that is known
abbrev pub below_text : Option ℕ → Text
below_text None = []
below_text (Some n) = codes " below " ++ decimal n

-- a word and a value, if there is one
abbrev pub value_text : Function → (word : Text) → Option ℕ → Text
value_text f word None = []
value_text f word (Some value) = word ++ local_text f value

-- how old a reference is
abbrev pub age_text : Age → Text
age_text ages.Fresh = codes " fresh"
age_text ages.Held = []
age_text ages.Stale = codes " stale"

-- the words of a set, ascending
abbrev pub words_of : List Bool → List ℕ
words_of set = filter (has_word set) (range_with_len 0 64)

-- the words of a set with commas between
unfoldable pub words_text : List Bool → Text
words_text set = join_by decimal (44 ∷ []) (words_of set)

-- a word after a comma, if the set has it
abbrev pub listed_word : List Bool → (word : ℕ) → Text
listed_word set word = word_if (has_word set word) (44 ∷ decimal word)

-- the text of a value's fact
abbrev pub fact_text : Module → Function → Fact → Text
fact_text m f (fact.Number bits below) = codes " i" ++ decimal bits ++ below_text below
fact_text m f (fact.Reference layout nonnull age same) = codes " ref " ++ layout_text m layout ++ word_if nonnull (codes " nonnull") ++ age_text age ++ value_text f (codes " same ") same
fact_text m f (fact.Address base words) = codes " addr " ++ local_text f base ++ 32 ∷ words_text words
fact_text m f (fact.GlobalAddress symbol) = codes " addr " ++ global_text m symbol

-- a claim of a block as a line, without the line's end
abbrev pub claim_text : Module → Function → Claim → Text
claim_text m f (line.Value value fact) = local_text f value ++ fact_text m f fact
claim_text m f (line.Slot slot nonnull holds) = codes "slot " ++ local_text f slot ++ word_if nonnull (codes " nonnull") ++ value_text f (codes " holds ") holds

-- ---- one claim

-- the claims of a block
abbrev pub lines_at : Section → (block : ℕ) → Option (List Claim)
lines_at section block = slice_get section.blocks block

-- the claim at a place of some claims
abbrev pub line_in : (place : ℕ) → Option (List Claim) → Option Claim
line_in place None = None
line_in place (Some lines) = slice_get lines place

-- the claim at a place of a block of a section
abbrev pub line_at : Option Section → (block place : ℕ) → Option Claim
line_at None block place = None
line_at (Some section) block place = line_in place (lines_at section block)

-- a claim of a function, if both are there
abbrev pub shown_line : Module → Option Function → Option Claim → Text
shown_line m (Some f) (Some line) = claim_text m f line
shown_line m _ _ = []

-- the claim at this place of a block as a line, without the line's end
abbrev pub line_shown : List Section → Module → (function block place : ℕ) → Text
line_shown sections m function block place = shown_line m (slice_get m.functions function) (line_at (slice_get sections function) block place)

-- ---- sections

-- the layout that is promised, if there is one
abbrev pub promised_layout : Module → Option ℕ → Text
promised_layout m None = []
promised_layout m (Some layout) = codes " ref " ++ layout_text m layout

-- what is promised, and the line's end
abbrev pub promise_text : Module → Promise → Text
promise_text m promise = word_if promise.number (codes " i64") ++ promised_layout m promise.layout ++ word_if promise.nonnull (codes " nonnull") ++ below_text promise.below ++ 10 ∷ []

-- the line of a parameter, if something is promised of it
abbrev pub parameter_text : Module → Function → Parameter → Option Promise → Text
parameter_text m f parameter None = []
parameter_text m f parameter (Some promise) = codes "param " ++ local_text f parameter.value ++ promise_text m promise

-- the lines of parameters
abbrev pub parameters_text : Module → Function → List Parameter → List (Option Promise) → Text
parameters_text m f parameters promises = flat_map (λ p. parameter_text m f p.0 p.1) (zip parameters promises)

-- the line of the result, if something is promised of it
abbrev pub result_text : Module → Option Promise → Text
result_text m None = []
result_text m (Some promise) = codes "result" ++ promise_text m promise

-- the claims of a block
abbrev pub claims_text : Module → Function → List Claim → Text
claims_text m f lines = flat_map (λ line. claim_text m f line ++ 10 ∷ []) lines

-- a block and its claims
abbrev pub block_text : Module → Function → Block → List Claim → Text
block_text m f block lines = codes "block " ++ local_text f block.label ++ 10 ∷ claims_text m f lines

-- blocks and their claims
abbrev pub blocks_text : Module → Function → List Block → List (List Claim) → Text
blocks_text m f blocks lists = flat_map (λ p. block_text m f p.0 p.1) (zip blocks lists)

-- how a function is marked
abbrev pub mark_text : Mark → Text
mark_text mark.May = codes " may"
mark_text mark.None = codes " none"

-- the first line of a section
abbrev pub heading_text : Module → Function → Mark → Text
heading_text m f mark = codes "function " ++ global_text m f.symbol ++ mark_text mark ++ 10 ∷ []

-- the section of a function; the entry block has no claims
abbrev pub section_text : Module → Function → Section → Text
section_text m f section =
    heading_text m f section.mark
    ++ parameters_text m f f.parameters section.parameters
    ++ result_text m section.result
    ++ blocks_text m f (drop 1 f.blocks) (drop 1 section.blocks)
    ++ (codes "end" ++ 10 ∷ [])

-- the sections of functions
abbrev pub sections_text : Module → List Function → List Section → Text
sections_text m functions sections = flat_map (λ p. section_text m p.0 p.1) (zip functions sections)

-- the shapes of certificates, or those that the module has
abbrev pub shapes_with : Option Shapes → (own : Option Shapes) → Option Shapes
shapes_with None own = own
shapes_with (Some shapes) own = Some shapes

-- what is said of the code outside: the numbers of layouts, and the functions that are trusted
abbrev pub outside_text : Module → Outside → Text
outside_text m outside = numbers_text m outside.numbers ++ foreign_text m outside.functions

-- the first line, what is said of the code outside, and the shapes
abbrev pub head_text : Module → (foreign : Outside) → Option Shapes → Text
head_text m foreign None = codes "cert 1" ++ 10 ∷ outside_text m foreign
head_text m foreign (Some shapes) = codes "cert 2" ++ 10 ∷ (outside_text m foreign ++ shapes_text m shapes)

-- the text of certificates, by the numbers of their functions
abbrev pub cert_text : Certs → Module → Text
cert_text certs m = head_text m certs.foreign (shapes_with certs.shapes m.shapes) ++ sections_text m m.functions certs.sections
