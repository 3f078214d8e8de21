-- The forms of facts and claims: a claim is a line.
use Rattle.std.specs.Prelude.{ℕ, Bool, true, false, not, ◌&&◌, ◌||◌, ◌==◌, if◌then◌else◌, Option, Some, None, is_some, is_none, codes}
use Rattle.std.specs.Str.{bytes_eq}
use Rattle.ir_ast.specs.declared.function.Function.{Function}
use Rattle.ir_ast.specs.declared.module.Module.{Module}
use Rattle.grammar.specs.Grammar.{pure, ◌>>=◌, ◌>>◌, checked, look}
use Rattle.ir_tokens.specs.Bytes.{Text as Bytes}
use Rattle.name_text.specs.Words.{begins_with}
use Rattle.certificate.specs.Numbers.{bits_of_word}
use Rattle.certificate.specs.Names.{global_of_word}
use Rattle.certs.specs.Families.{family_of_value, is_reference, is_integer, is_address, may_be_outside, same_bits}
use Rattle.name_text.specs.Reader.{left, word, begins, line_ends}
use Rattle.name_text.specs.Forms.{syntax, skip, taken, expect, line_end}
use Rattle.certificate.specs.Input.{Form}
use Rattle.certificate.specs.Forms.{unknown, twice, flag, count, word_set, age, new_value, new_slot, listed_name, layout_name, put_value, put_slot}
use Rattle.certs.specs.declared.family.Family.{Family}
use Rattle.certificate.specs.declared.facts.Head.{Head}
use Rattle.certificate.specs.declared.facts.Head.TheVariants as head
use Rattle.certificate.specs.declared.naming.Naming.{Naming}
use Rattle.certificate.specs.declared.naming.Naming.TheVariants.{NoName, Unknown, Named}
use Rattle.certificate.specs.declared.promises.Promised.{Promised}
use Rattle.certificate.specs.declared.promises.Promised.TheVariants as promised
use Rattle.certs.specs.declared.section.Age.{Age}
use Rattle.certs.specs.declared.section.Age.TheVariants as ages
use Rattle.certs.specs.declared.section.Fact.{Fact}
use Rattle.certs.specs.declared.section.Fact.TheVariants as fact
use Rattle.certs.specs.declared.section.Promise.{Promise}
use Rattle.name_text.specs.declared.found.WordFault.TheVariants.{Wrong}
use Rattle.certificate.specs.declared.mistake.Mistake.TheVariants.{ListedTwice}

-- ---- promises

-- nothing is promised
abbrev pub no_promise : Promise
no_promise = record { layout = None; nonnull = false; below = None; number = false }

-- a fact may be given where it fits and is not given so far
abbrev pub fact_if : (given fits : Bool) → Promised → Promised
fact_if given fits fact = if given then promised.Again else (if fits then fact else promised.Other)

-- what a word promises of such a value, after what is promised so far
abbrev pub promised_by : Family → Promise → Bytes → Promised
promised_by family promise word =
    if bytes_eq word (codes "ref") then fact_if (is_some promise.layout) (is_reference family) promised.Layout
    else (if bytes_eq word (codes "nonnull") then fact_if promise.nonnull (is_reference family) promised.Nonnull
    else (if bytes_eq word (codes "below") then fact_if (is_some promise.below) (is_integer family) promised.Below else promised.Other))

-- an address outside may be promised of such a value, of which nothing is promised so far
abbrev pub may_stand_alone : Module → Family → Promise → Bool
may_stand_alone m family promise = may_be_outside m family && (is_none promise.layout && (not promise.nonnull && is_none promise.below))

-- the same with the word of an address outside, with which no other stands
abbrev pub promised_in : Module → Family → Promise → Bytes → Promised
promised_in m family promise word =
    if bytes_eq word (codes "i64") then fact_if promise.number (may_stand_alone m family promise) promised.Number
    else (if promise.number then promised.Other else promised_by family promise word)

-- what is promised with this fact
abbrev pub promise_by : Module → Family → Promise → Promised → Form Promise
promise_by m family promise promised.Layout = skip >> layout_name m family >>= λ layout. pure (record promise { layout = Some layout })
promise_by m family promise promised.Nonnull = taken (record promise { nonnull = true })
promise_by m family promise promised.Below = skip >> count >>= λ n. pure (record promise { below = Some n })
promise_by m family promise promised.Number = taken (record promise { number = true })
promise_by m family promise promised.Again = twice
promise_by m family promise promised.Other = syntax

-- one more fact of a promise
unfoldable pub promised_fact : Module → Family → Promise → Form Promise
promised_fact m family promise = look (λ i. promised_in m family promise (word i)) (promise_by m family promise)

-- one more fact unless the line has ended
abbrev pub more_by : Module → Family → Promise → Bool → Form Promise
more_by m family promise true = pure promise
more_by m family promise false = promised_fact m family promise

-- one more fact unless the line ends
unfoldable pub more_facts : Module → Family → Promise → Form Promise
more_facts m family promise = look line_ends (more_by m family promise)

-- up to three facts and the line's end
unfoldable pub promise : Module → Family → Form Promise
promise m family = do
  one ← promised_fact m family no_promise
  two ← more_facts m family one
  three ← more_facts m family two
  all ← more_facts m family three
  line_end
  pure all

-- ---- facts

-- the bits of an integer begin its fact
abbrev pub number_head : Option ℕ → Head
number_head None = head.Other
number_head (Some bits) = head.Number bits

-- whether the bits are there and are these
abbrev pub has_bits : (bits : ℕ) → Option ℕ → Bool
has_bits bits None = false
has_bits bits (Some n) = n == bits

-- 64 bits are those of an address outside, where the value may be one
abbrev pub bits_head : Module → Family → Option ℕ → Head
bits_head m family bits = if may_be_outside m family && has_bits 64 bits then head.Outside else number_head (same_bits family bits)

-- which fact of such a value a word begins
abbrev pub head_by : Module → Family → Bytes → Head
head_by m family word =
    if bytes_eq word (codes "ref") then (if is_reference family then head.Reference else head.Other)
    else (if bytes_eq word (codes "addr") then (if is_address family then head.Address else head.Other) else bits_head m family (bits_of_word word))

-- a number after `below`, if that is the next word
abbrev pub below_by : Bool → Form (Option ℕ)
below_by true = skip >> count >>= λ n. pure (Some n)
below_by false = pure None

-- `below` and a number, or nothing
unfoldable pub below : Form (Option ℕ)
below = look (begins (codes "below")) below_by

-- a value after such a word, if that is the next word
abbrev pub listed_if : Function → Bool → Form (Option ℕ)
listed_if f true = skip >> listed_name f >>= λ value. pure (Some value)
listed_if f false = pure None

-- this word and a value that the block has to list, or nothing
unfoldable pub listed_after : Function → (wanted : Bytes) → Form (Option ℕ)
listed_after f wanted = look (begins wanted) (listed_if f)

-- a fact of a number
unfoldable pub number : (bits : ℕ) → Form Fact
number bits = do
  skip
  n ← below
  pure (fact.Number bits n)

-- a fact of a reference
unfoldable pub reference : Module → Function → Family → Form Fact
reference m f family = do
  skip
  layout ← layout_name m family
  nonnull ← flag (codes "nonnull")
  how ← age
  same ← listed_after f (codes "same")
  pure (fact.Reference layout nonnull how same)

-- a value that the block has to list, and words of its cell
unfoldable pub words_of_cell : Function → Form Fact
words_of_cell f = do
  base ← listed_name f
  words ← word_set
  pure (fact.Address base words)

-- the address of the global that is named
abbrev pub global_by : Naming → Form Fact
global_by NoName = syntax
global_by Unknown = unknown
global_by (Named symbol) = taken (fact.GlobalAddress symbol)

-- the name of a global
unfoldable pub global_address : Module → Form Fact
global_address m = look (λ i. global_of_word m (word i)) global_by

-- of a global where the sign of its name begins the word, and otherwise of words of a cell
abbrev pub address_by : Module → Function → (begins : Bool) → Form Fact
address_by m f true = global_address m
address_by m f false = words_of_cell f

-- a fact of an address
unfoldable pub address : Module → Function → Form Fact
address m f = skip >> look (λ i. begins_with 64 (word i)) (address_by m f)

-- the fact that begins so
abbrev pub fact_by : Module → Function → Family → Head → Form Fact
fact_by m f family (head.Number bits) = number bits
fact_by m f family head.Outside = taken (fact.Number 64 None)
fact_by m f family head.Reference = reference m f family
fact_by m f family head.Address = address m f
fact_by m f family head.Other = syntax

-- a fact that fits such a value
unfoldable pub fact_of : Module → Function → Family → Form Fact
fact_of m f family = look (λ i. head_by m family (word i)) (fact_by m f family)

-- ---- the ends of lines

-- whether a word is this age
abbrev pub has_age : Age → Bytes → Bool
has_age ages.Stale word = bytes_eq word (codes "stale")
has_age ages.Fresh word = bytes_eq word (codes "fresh")
has_age ages.Held word = false

-- a word of a fact that is given
abbrev pub has_word : Fact → Bytes → Bool
has_word (fact.Number bits below) word = has_bits bits (bits_of_word word) || (is_some below && bytes_eq word (codes "below"))
has_word (fact.Reference layout nonnull age same) word = bytes_eq word (codes "ref") || (nonnull && bytes_eq word (codes "nonnull")) || has_age age word || (is_some same && bytes_eq word (codes "same"))
has_word (fact.Address base words) word = bytes_eq word (codes "addr")
has_word (fact.GlobalAddress symbol) word = bytes_eq word (codes "addr")

-- the end of a line with this fact, which no word of it follows once more
unfoldable pub fact_end : Fact → Form (Unit {0})
fact_end given = checked (λ i. line_ends i || not (has_word given (word i))) (λ i. Wrong (ListedTwice (left i))) >> line_end

-- a word of a slot's line that is given
abbrev pub slot_has_word : (nonnull : Bool) → (holds : Option ℕ) → Bytes → Bool
slot_has_word nonnull holds word = (nonnull && bytes_eq word (codes "nonnull")) || (is_some holds && bytes_eq word (codes "holds"))

-- the end of a slot's line, likewise
unfoldable pub slot_end : (nonnull : Bool) → (holds : Option ℕ) → Form (Unit {0})
slot_end nonnull holds = checked (λ i. line_ends i || not (slot_has_word nonnull holds (word i))) (λ i. Wrong (ListedTwice (left i))) >> line_end

-- ---- lines

-- a claim about a value after the value's name
abbrev pub value_after : Module → Function → (block value : ℕ) → Form (Unit {0})
value_after m f block value = do
  fact ← fact_of m f (family_of_value m f value)
  fact_end fact
  put_value block value fact

-- a claim about a value
unfoldable pub value_claim : Module → Function → (block : ℕ) → Form (Unit {0})
value_claim m f block = new_value f block >>= λ value. value_after m f block value

-- a claim about a slot after its first word
abbrev pub slot_after : Function → (block : ℕ) → Form (Unit {0})
slot_after f block = do
  slot ← new_slot f block
  nonnull ← flag (codes "nonnull")
  holds ← listed_after f (codes "holds")
  slot_end nonnull holds
  put_slot block slot nonnull holds

-- a claim about a slot
unfoldable pub slot_claim : Function → (block : ℕ) → Form (Unit {0})
slot_claim f block = expect (codes "slot") >> slot_after f block

-- a claim about a slot, or else about a value
abbrev pub line_by : Module → Function → (block : ℕ) → Bool → Form (Unit {0})
line_by m f block true = slot_claim f block
line_by m f block false = value_claim m f block

-- a claim of a block
unfoldable pub line : Module → Function → (block : ℕ) → Form (Unit {0})
line m f block = look (begins (codes "slot")) (line_by m f block)
