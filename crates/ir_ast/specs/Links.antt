-- Names in one list of bytes, and the names that a hash leads to.
use Rattle.std.specs.Prelude.{◌≡◌, ℕ, zero, suc, ◌-◌, ◌<◌, ◌≤◌, ◌^◌, Bool, false, List, [], ◌∷◌, Option, None, Some, map, length, slice_get, bit_and, if◌then◌else◌}
use Rattle.std.specs.List.{AllByRecursion, slice_range}
use Rattle.std.specs.Str.{bytes_eq}
use Rattle.lemmas.specs.Lists.{IsIn}
use Rattle.ir_ast.specs.KeyedHash.{start, write, finish}
use Rattle.ir_ast.specs.Names.{place_of}
use Rattle.ir_ast.specs.declared.hash_key.HashKey.{HashKey}
use Rattle.ir_ast.specs.declared.links.Links.{Links}
use Rattle.ir_ast.specs.declared.links.Span.{Span}

-- the hash of a text
abbrev pub hash_by : HashKey → List ℕ → ℕ
hash_by key text = finish (write (start key) text)

-- the text at a span
abbrev pub text_of : List ℕ → Span → List ℕ
text_of bytes span = slice_range bytes span.start span.end

-- the texts at spans
abbrev pub texts_of : List ℕ → List Span → List (List ℕ)
texts_of bytes spans = map (text_of bytes) spans

-- a span lies within the bytes
abbrev pub IsWithin : List ℕ → Span → Type 0
IsWithin bytes span = (span.start ≤ span.end) × (span.end ≤ length bytes)

-- the head that a hash leads to, where there are `count` heads
abbrev pub head_place : ℕ → (count : ℕ) → ℕ
head_place hash count = bit_and hash (count - 1)

-- a number that is there, and those before it
abbrev pub and_before : Option ℕ → ℕ → (ℕ → List ℕ) → List ℕ
and_before None number rest = []
and_before (Some before) number rest = number ∷ rest before

-- at most `count` numbers, from this one back
abbrev pub chain : (count : ℕ) → List ℕ → ℕ → List ℕ
chain zero befores number = []
chain (suc count) befores number = and_before (slice_get befores number) number (chain count befores)

-- the numbers from a head back
abbrev pub from_head : Option ℕ → List ℕ → List ℕ
from_head None befores = []
from_head (Some number) befores = chain (length befores) befores number

-- the numbers that a hash leads to, the newest first
abbrev pub listed : (heads befores : List ℕ) → (hash : ℕ) → List ℕ
listed heads befores hash = from_head (slice_get heads (head_place hash (length heads))) befores

-- a name is this text
abbrev pub is_text : List ℕ → Option (List ℕ) → Bool
is_text text None = false
is_text text (Some name) = bytes_eq text name

-- the first of these numbers whose name is this text
abbrev pub first_named : List ℕ → List (List ℕ) → List ℕ → Option ℕ
first_named text names [] = None
first_named text names (number ∷ rest) = if is_text text (slice_get names number) then Some number else first_named text names rest

-- the hash of each name leads to it
abbrev pub AreListed : Links → List (List ℕ) → Type 0
AreListed links names = (number : ℕ) (name : List ℕ) → slice_get names number ≡ Some name → IsIn number (listed links.heads.items links.befores.items (hash_by links.key name))

-- and so it is of the names below a number
abbrev pub AreListedTo : (end : ℕ) → Links → List (List ℕ) → Type 0
AreListedTo end links names = (number : ℕ) (name : List ℕ) → slice_get names number ≡ Some name → number < end → IsIn number (listed links.heads.items links.befores.items (hash_by links.key name))

-- no name stands twice
abbrev pub AreDistinct : List (List ℕ) → Type 0
AreDistinct names = (number : ℕ) (name : List ℕ) → slice_get names number ≡ Some name → place_of name names ≡ Some number

-- what is true of the bytes, spans and links of a table
pub record AreNames (bytes : List ℕ) (spans : List Span) (links : Links) : Type 0 where
  pub within : AllByRecursion (IsWithin bytes) spans
  pub one_each : length links.befores.items ≡ length spans
  pub listed : AreListed links (texts_of bytes spans)
  pub distinct : AreDistinct (texts_of bytes spans)
  pub limit : length spans ≤ 2 ^ 32
