-- Operations on memory.
use Rattle.std.specs.Prelude.{ℕ, Bool, true, false, ◌&&◌, if◌then◌else◌, Some, None}
use Rattle.grammar.specs.Grammar.{pure, checked, look, ◌>>=◌, ◌>>◌}
use Rattle.ir_tokens.specs.declared.token.Kind.TheVariants as k
use Rattle.ir_ast.specs.declared.argument.Argument.{Argument}
use Rattle.ir_ast.specs.declared.memory.MemoryOp.{MemoryOp}
use Rattle.ir_ast.specs.declared.memory.MemoryOp.TheVariants as memory
use Rattle.ir_forms.specs.declared.written.Word.{Word}
use Rattle.ir_forms.specs.declared.written.Word.TheVariants as sort
use Rattle.ir_forms.specs.declared.written.WrittenType.{WrittenType}
use Rattle.ir_forms.specs.declared.input.Input.{Input}
use Rattle.ir_forms.specs.Cursor.{kind_after, same_kind, sees}
use Rattle.ir_forms.specs.Input.{Form, unexpected, skip, expect}
use Rattle.ir_forms.specs.Names.{set_type, set_slot}
use Rattle.ir_forms.specs.Written.{any_type, is_scalar, scalar, pointer_again, word_of}
use Rattle.ir_forms.specs.Operand.{operand}
use Rattle.ir_forms.specs.Decorations.{optional}

-- ---- memory of the stack

-- the type that an alloca holds: a number or a pointer, and each other type too where the wide forms may stand
abbrev pub held_by : (wide : Bool) → Form WrittenType
held_by true = any_type
held_by false = scalar

-- a count of elements follows, where the wide forms may stand: a comma with an integer type after it
unfoldable pub counts : Input → Bool
counts i = i.wide && (sees k.Comma i.cursor && same_kind (kind_after i.cursor) k.IntegerType)

-- a word that is an integer
abbrev pub is_integer_word : Word → Bool
is_integer_word (sort.Integer bits) = true
is_integer_word _ = false

-- a type of integers
unfoldable pub count_type : Form WrittenType
count_type = scalar >>= λ w. checked (λ _. is_integer_word (word_of w)) unexpected >> pure w

-- `T N`, of integers
unfoldable pub counted_by : Form Argument
counted_by = do
  w ← count_type
  x ← operand (word_of w)
  pure (record { written = w.id; operand = x })

-- `, T N`
unfoldable pub count : Form Argument
count = expect k.Comma >> counted_by

-- a number or a pointer is a slot, and an array or a struct is a buffer
abbrev pub single : WrittenType → MemoryOp
single held = if is_scalar held then memory.Alloca held.id else memory.Buffer held.id None

-- what is counted is a buffer, of whichever type
abbrev pub counted : WrittenType → Argument → MemoryOp
counted held x = memory.Buffer held.id (Some x)

-- a slot or a buffer, by whether a count follows its type
abbrev pub local_by : WrittenType → Bool → Form MemoryOp
local_by held true = count >>= λ x. pure (counted held x)
local_by held false = pure (single held)

-- the same of what is here
abbrev pub local_of : WrittenType → Form MemoryOp
local_of held = look counts (local_by held)

-- `alloca T`, whose name means a slot that holds a T, or a buffer; `alloca T, T N`, a buffer of N elements
unfoldable pub alloca : ℕ → Form MemoryOp
alloca value = do
  skip
  held ← look (λ i. i.wide) held_by
  made ← local_of held
  set_slot value held.id
  pure made

-- ---- loads and stores

-- `T* V`, a place of a T that is written before it
unfoldable pub place_of : WrittenType → Form Argument
place_of held = do
  place_type ← pointer_again held
  place ← operand sort.Pointer
  pure (record { written = place_type; operand = place })

-- `load T, T* V`
unfoldable pub load : ℕ → Form MemoryOp
load value = do
  skip
  optional k.Volatile
  loaded ← scalar
  expect k.Comma
  place ← place_of loaded
  set_type value loaded.id
  pure (memory.Load loaded.id place.written place.operand)

-- what follows `store`
abbrev pub stored_afterwards : Form MemoryOp
stored_afterwards = do
  stored ← scalar
  value ← operand (word_of stored)
  expect k.Comma
  place ← place_of stored
  pure (memory.Store stored.id value place.written place.operand)

-- a store, which may be `volatile`
abbrev pub stored_here : Form MemoryOp
stored_here = optional k.Volatile >> stored_afterwards

-- `store T V, T* W`
unfoldable pub store : Form MemoryOp
store = skip >> stored_here
