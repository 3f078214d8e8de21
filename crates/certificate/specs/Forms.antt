-- The forms of words, names and numbers in a certificate's text.
use Rattle.std.specs.Prelude.{ℕ, Bool, true, false, ◌==◌, if◌then◌else◌, Option, Some, None, slice_get, unwrap_or, codes}
use Rattle.std.specs.Str.{bytes_eq}
use Rattle.ir_ast.specs.declared.function.Function.{Function}
use Rattle.ir_ast.specs.declared.function.Parameter.{Parameter}
use Rattle.ir_ast.specs.declared.module.Module.{Module}
use Rattle.grammar.specs.Grammar.{pure, ◌>>◌, look}
use Rattle.pools.specs.declared.word_set.WordSet.{WordSet}
use Rattle.ir_tokens.specs.Bytes.{Text as Bytes}
use Rattle.certificate.specs.Numbers.{count_of_word, words_of_word}
use Rattle.certificate.specs.Names.{function_of_word, value_of_word, block_of_word, layout_of_word}
use Rattle.certs.specs.Families.{refers_to}
use Rattle.certificate.specs.Drafts.{is_in}
use Rattle.name_text.specs.Reader.{left, word, begins}
use Rattle.name_text.specs.Forms.{syntax, wrong, skip, taken, taken_as, update}
use Rattle.certificate.specs.Input.{Form, begun, wants, with_claim, with_slot_claim}
use Rattle.certs.specs.declared.family.Family.{Family}
use Rattle.certificate.specs.declared.progress.Kept.{Kept}
use Rattle.certs.specs.declared.section.Age.{Age}
use Rattle.certs.specs.declared.section.Age.TheVariants as ages
use Rattle.certs.specs.declared.section.Fact.{Fact}
use Rattle.certs.specs.declared.section.Claim.TheVariants as line
use Rattle.certs.specs.declared.section.Mark.{Mark}
use Rattle.certs.specs.declared.section.Mark.TheVariants as mark
use Rattle.certs.specs.declared.section.Promise.{Promise}
use Rattle.certificate.specs.declared.naming.Naming.{Naming}
use Rattle.certificate.specs.declared.naming.Naming.TheVariants.{NoName, Unknown, Named}
use Rattle.certificate.specs.declared.mistake.Mistake.TheVariants.{UnknownName, ListedTwice}

-- ---- words and lines

-- there is nothing of the name that is the next word
abbrev pub unknown : {A : Type 0} → Form A
unknown = wrong UnknownName

-- what the next word names or says is listed already
abbrev pub twice : {A : Type 0} → Form A
twice = wrong ListedTwice

-- the next word, if it is allowed there
abbrev pub taken_if : {A : Type 0} → Bool → A → Form A
taken_if true a = taken a
taken_if false a = syntax

-- the next word, if it is the one that is asked for, or nothing
abbrev pub flag_by : Bool → Form Bool
flag_by true = taken true
flag_by false = pure false

-- this word or not
unfoldable pub flag : (wanted : Bytes) → Form Bool
flag wanted = look (begins wanted) flag_by

-- a number from 1
unfoldable pub count : Form ℕ
count = look (λ i. count_of_word (word i)) taken_as

-- some words of a cell
unfoldable pub word_set : Form WordSet
word_set = look (λ i. words_of_word (word i)) taken_as

-- the mark that a word is
abbrev pub mark_of_word : Bytes → Option Mark
mark_of_word word = if bytes_eq word (codes "may") then Some mark.May else (if bytes_eq word (codes "none") then Some mark.None else None)

-- `may` or `none`
unfoldable pub marked : Form Mark
marked = look (λ i. mark_of_word (word i)) taken_as

-- the age that a word is
abbrev pub age_of_word : Bytes → Option Age
age_of_word word = if bytes_eq word (codes "stale") then Some ages.Stale else (if bytes_eq word (codes "fresh") then Some ages.Fresh else None)

-- the age that is given, or none
abbrev pub age_by : Option Age → Form Age
age_by (Some given) = taken given
age_by None = pure ages.Held

-- `stale`, `fresh` or neither
unfoldable pub age : Form Age
age = look (λ i. age_of_word (word i)) age_by

-- ---- names

-- where it is not listed so far
abbrev pub free_by : (number : ℕ) → Bool → Form ℕ
free_by number true = twice
free_by number false = taken number

-- a function that has no section so far
abbrev pub function_by : (function : ℕ) → Option (Option Kept) → Form ℕ
function_by function None = unknown
function_by function (Some (Some kept)) = twice
function_by function (Some None) = taken function

-- the function that is named has no section so far
abbrev pub function_named : Naming → Form ℕ
function_named NoName = syntax
function_named Unknown = unknown
function_named (Named function) = look (λ i. slice_get i.read.sections function) (function_by function)

-- the name of a defined function that has no section so far
unfoldable pub new_function : Module → Form ℕ
new_function m = look (λ i. function_of_word m (word i)) function_named

-- the parameters are the first names of a function, in their order
abbrev pub is_named : (value : ℕ) → Option Parameter → Bool
is_named value None = false
is_named value (Some parameter) = parameter.value == value

-- whether a value is a parameter
abbrev pub is_parameter : Function → (value : ℕ) → Bool
is_parameter f value = is_named value (slice_get f.parameters value)

-- a parameter of which nothing is promised so far
abbrev pub unpromised : (value : ℕ) → Option (Option Promise) → Form ℕ
unpromised value None = unknown
unpromised value (Some (Some promise)) = twice
unpromised value (Some None) = taken value

-- a parameter, and no other value, of which nothing is promised so far
abbrev pub parameter_by : (value : ℕ) → Bool → Form ℕ
parameter_by value false = unknown
parameter_by value true = look (λ i. slice_get i.read.draft.parameters value) (unpromised value)

-- of the parameter that is named nothing is promised so far
abbrev pub parameter_named : Function → Naming → Form ℕ
parameter_named f NoName = syntax
parameter_named f Unknown = unknown
parameter_named f (Named value) = parameter_by value (is_parameter f value)

-- the name of a parameter of which nothing is promised so far
unfoldable pub new_parameter : Function → Form ℕ
new_parameter f = look (λ i. value_of_word f (word i)) (parameter_named f)

-- a block whose claims did not come so far
abbrev pub block_by : (block : ℕ) → Option Bool → Form ℕ
block_by block None = unknown
block_by block (Some true) = twice
block_by block (Some false) = taken block

-- the claims of the block that is named did not come so far
abbrev pub block_named : Naming → Form ℕ
block_named NoName = syntax
block_named Unknown = unknown
block_named (Named block) = look (λ i. slice_get i.read.draft.given block) (block_by block)

-- the name of a block, not the entry, whose claims did not come so far
unfoldable pub new_block : Function → Form ℕ
new_block f = look (λ i. block_of_word f (word i)) block_named

-- the value that is named is not listed so far
abbrev pub new_value_named : (block : ℕ) → Naming → Form ℕ
new_value_named block NoName = syntax
new_value_named block Unknown = unknown
new_value_named block (Named value) = look (λ i. is_in block (slice_get i.read.draft.values value)) (free_by value)

-- the name of a value that the block does not list so far
unfoldable pub new_value : Function → (block : ℕ) → Form ℕ
new_value f block = look (λ i. value_of_word f (word i)) (new_value_named block)

-- a root slot that is not listed so far
abbrev pub root_by : (block slot : ℕ) → Bool → Form ℕ
root_by block slot false = unknown
root_by block slot true = look (λ i. is_in block (slice_get i.read.draft.slots slot)) (free_by slot)

-- the root slot that is named is not listed so far
abbrev pub slot_named : (block : ℕ) → Naming → Form ℕ
slot_named block NoName = syntax
slot_named block Unknown = unknown
slot_named block (Named slot) = look (λ i. unwrap_or (slice_get i.read.draft.roots slot) false) (root_by block slot)

-- the name of a root slot that the block does not list so far
unfoldable pub new_slot : Function → (block : ℕ) → Form ℕ
new_slot f block = look (λ i. value_of_word f (word i)) (slot_named block)

-- the block has to list this value, which the next word names
unfoldable pub want : (value : ℕ) → Form (Unit {0})
want value = look left (λ left. update (wants value left))

-- the block has to list the value that is named
abbrev pub listed_by : Naming → Form ℕ
listed_by NoName = syntax
listed_by Unknown = unknown
listed_by (Named value) = want value >> skip >> pure value

-- the name of a value that the block has to list
unfoldable pub listed_name : Function → Form ℕ
listed_name f = look (λ i. value_of_word f (word i)) listed_by

-- a layout to whose cells such a value may refer
abbrev pub layout_by : Family → Naming → Form ℕ
layout_by family NoName = syntax
layout_by family Unknown = unknown
layout_by family (Named layout) = taken_if (refers_to layout family) layout

-- a layout to whose cells such a value may refer
unfoldable pub layout_name : Module → Family → Form ℕ
layout_name m family = look (λ i. layout_of_word m (word i)) (layout_by family)

-- ---- what is read

-- the section of this function begins
unfoldable pub begin : Module → Function → Form (Unit {0})
begin m f = update (begun m f)

-- a claim of the block says this of a value
unfoldable pub put_value : (block value : ℕ) → Fact → Form (Unit {0})
put_value block value fact = update (with_claim block value (line.Value value fact))

-- a claim of the block says this of a slot
unfoldable pub put_slot : (block slot : ℕ) → (nonnull : Bool) → (holds : Option ℕ) → Form (Unit {0})
put_slot block slot nonnull holds = update (with_slot_claim block slot (line.Slot slot nonnull holds))
