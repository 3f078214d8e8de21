-- The forms of shapes.
use Rattle.std.specs.Prelude.{◌≡◌, ℕ, Bool, true, false, not, ◌||◌, Option, Some, None, slice_get, codes, [], ◌∷◌}
use Rattle.std.proofs.Common.{lit<}
use Rattle.ir_ast.specs.declared.function.Function.{Function}
use Rattle.ir_ast.specs.declared.module.Module.{Module}
use Rattle.ir_ast.specs.declared.shapes.Shapes.{Shapes}
use Rattle.grammar.specs.Grammar.{pure, ◌>>=◌, ◌>>◌, step, checked, look, refuse}
use Rattle.grammar.specs.Many.{many}
use Rattle.grammar.specs.Takes.{Takes, TakesWhere, first_takes, look_takes}
use Rattle.name_text.specs.Numbers.{is_number, number_of_word}
use Rattle.name_text.specs.Reader.{left, ended, word, begins, recorded, recorded_falls}
use Rattle.name_text.specs.Forms.{syntax, wrong, skip, taken, expect, expect_takes, line_end, update}
use Rattle.name_text.specs.declared.found.WordFault.TheVariants.{Syntax, Wrong}
use Rattle.certificate.specs.Names.{function_of_word, global_of_word, value_of_word}
use Rattle.certs.specs.declared.family.Family.TheVariants.{Opaque}
use Rattle.certificate.specs.Forms.{unknown, layout_name}
use Rattle.certificate.specs.Input.{Progress, Input, Form, shaping, unshaped}
use Rattle.certificate.specs.NumberForms.{layout_numbers}
use Rattle.certificate.specs.ShapeDrafts.{is_pointer, name_of, has_word_shape, is_opaque_global, has_global_shape, is_root_slot, has_root_shape, with_word_shape, with_global_shape, with_root_shape, shapes_gap}
use Rattle.certificate.specs.declared.given_shapes.GivenShapes.{GivenShapes}
use Rattle.certificate.specs.declared.naming.Naming.{Naming}
use Rattle.certificate.specs.declared.naming.Naming.TheVariants.{NoName, Unknown, Named}
use Rattle.certificate.specs.declared.mistake.Mistake.{Mistake}
use Rattle.certificate.specs.declared.mistake.Mistake.TheVariants.{Version, ListedTwice}
use Rattle.certificate.specs.declared.shape_draft.ShapeDraft.{ShapeDraft}

-- ---- names

-- what is named, if there is something of the name
abbrev pub mentioned : Naming → Form ℕ
mentioned NoName = syntax
mentioned Unknown = unknown
mentioned (Named number) = taken number

-- the name of a layout
abbrev pub a_layout : Module → Form ℕ
a_layout m = layout_name m Opaque

-- the name of a defined function
unfoldable pub a_function : Module → Form ℕ
a_function m = look (λ i. function_of_word m (word i)) mentioned

-- the layout to which something refers, and the line's end
unfoldable pub referred : Module → Form ℕ
referred m = do
  expect (codes "ref")
  target ← a_layout m
  line_end
  pure target

-- ---- words of structs

-- a word that has no shape so far; the layout's name is where this much of the text is left
abbrev pub word_free : (at word : ℕ) → (given : Bool) → Form ℕ
word_free at word true = refuse (λ _. Wrong (ListedTwice at))
word_free at word false = taken word

-- a word of type `ptr`
abbrev pub word_by : Module → (at layout word : ℕ) → (pointer : Bool) → Form ℕ
word_by m at layout word false = syntax
word_by m at layout word true = look (λ i. has_word_shape i.read.shapes (name_of m layout) word) (word_free at word)

-- the word with this number
abbrev pub word_numbered : Module → (at layout : ℕ) → Option ℕ → Form ℕ
word_numbered m at layout None = syntax
word_numbered m at layout (Some word) = look (λ i. is_pointer i.read.shapes layout word) (word_by m at layout word)

-- the number of a word of type `ptr` of a struct, which has no shape so far
unfoldable pub new_word : Module → (at layout : ℕ) → Form ℕ
new_word m at layout = look (λ i. number_of_word (word i)) (word_numbered m at layout)

-- the shape of a word, after its first word
abbrev pub word_after : Module → (at : ℕ) → Form (Unit {0})
word_after m at = do
  layout ← a_layout m
  word ← new_word m at layout
  target ← referred m
  update (shaping (with_word_shape m layout word target))

-- the shape of a word
unfoldable pub word_line : Module → Form (Unit {0})
word_line m = expect (codes "layout") >> look left (word_after m)

-- ---- globals

-- what has no shape so far
abbrev pub free_by : (number : ℕ) → (given : Bool) → Form ℕ
free_by number true = wrong ListedTwice
free_by number false = taken number

-- a global of type `ptr`
abbrev pub global_by : (symbol : ℕ) → (opaque : Bool) → Form ℕ
global_by symbol false = syntax
global_by symbol true = look (λ i. has_global_shape i.read.shapes symbol) (free_by symbol)

-- the global that is named
abbrev pub global_named : Module → Naming → Form ℕ
global_named m NoName = syntax
global_named m Unknown = unknown
global_named m (Named symbol) = global_by symbol (is_opaque_global m symbol)

-- the name of a global of type `ptr`, which has no shape so far
unfoldable pub new_global : Module → Form ℕ
new_global m = look (λ i. global_of_word m (word i)) (global_named m)

-- the shape of a global, after its first word
abbrev pub global_after : Module → Form (Unit {0})
global_after m = do
  symbol ← new_global m
  target ← referred m
  update (shaping (with_global_shape symbol target))

-- the shape of a global
unfoldable pub global_line : Module → Form (Unit {0})
global_line m = expect (codes "global") >> global_after m

-- ---- root slots

-- a root slot
abbrev pub slot_by : Function → (slot : ℕ) → (root : Bool) → Form ℕ
slot_by f slot false = unknown
slot_by f slot true = look (λ i. has_root_shape i.read.shapes f slot) (free_by slot)

-- the slot that is named
abbrev pub slot_named : (function : ℕ) → Function → Naming → Form ℕ
slot_named function f NoName = syntax
slot_named function f Unknown = unknown
slot_named function f (Named slot) = look (λ i. is_root_slot i.read.shapes function slot) (slot_by f slot)

-- the name of a root slot of a function, which has no shape so far
unfoldable pub new_root : (function : ℕ) → Function → Form ℕ
new_root function f = look (λ i. value_of_word f (word i)) (slot_named function f)

-- the shape of a root slot, after its function's name
abbrev pub root_of : Module → (function : ℕ) → Function → Form (Unit {0})
root_of m function f = do
  slot ← new_root function f
  target ← referred m
  update (shaping (with_root_shape f slot target))

-- that of the function, if it is defined
abbrev pub root_in : Module → (function : ℕ) → Option Function → Form (Unit {0})
root_in m function None = unknown
root_in m function (Some f) = root_of m function f

-- the shape of a root slot, after its first word
abbrev pub root_after : Module → Form (Unit {0})
root_after m = a_function m >>= λ function. root_in m function (slice_get m.functions function)

-- the shape of a root slot
unfoldable pub root_line : Module → Form (Unit {0})
root_line m = expect (codes "root") >> root_after m

-- ---- lines

-- a line that is none of a word
abbrev pub other_by : Module → (global : Bool) → Form (Unit {0})
other_by m true = global_line m
other_by m false = root_line m

-- a line by its first word
abbrev pub line_by : Module → (word : Bool) → Form (Unit {0})
line_by m true = word_line m
line_by m false = look (begins (codes "global")) (other_by m)

-- the shape of a word, a global or a root slot
unfoldable pub shape_line : Module → Form (Unit {0})
shape_line m = look (begins (codes "layout")) (line_by m)

-- no shape comes here
abbrev pub past_shapes : Input → Bool
past_shapes i = not (begins (codes "layout") i || begins (codes "global") i || begins (codes "root") i)

-- a line takes bytes
pub shape_takes : (m : Module) → Takes (shape_line m)
unfolding shape_line word_line global_line root_line
shape_takes m = look_takes (begins (codes "layout")) (line_by m) each
  where
    other : (k : Bool) → TakesWhere (λ (i : Input). begins (codes "global") i ≡ k) (other_by m k)
    other true i a o p h = first_takes (expect (codes "global")) (λ _. global_after m) (expect_takes Progress Mistake (codes "global") (lit< tt)) i a o h
    other false i a o p h = first_takes (expect (codes "root")) (λ _. root_after m) (expect_takes Progress Mistake (codes "root") (lit< tt)) i a o h

    each : (k : Bool) → TakesWhere (λ (i : Input). begins (codes "layout") i ≡ k) (line_by m k)
    each true i a o p h = first_takes (expect (codes "layout")) (λ _. look left (word_after m)) (expect_takes Progress Mistake (codes "layout") (lit< tt)) i a o h
    each false i a o p h = look_takes (begins (codes "global")) (other_by m) other i a o h

-- shapes
unfoldable pub shape_lines : Module → Form (Unit {0})
shape_lines m = many past_shapes (shape_line m) (shape_takes m) >> pure tt

-- ---- what is read of them

-- the shapes that are read
unfoldable pub taken_shapes : Form ShapeDraft
taken_shapes = step (λ i. i.read.shapes) (recorded unshaped) (recorded_falls unshaped)

-- no shape is missing
abbrev pub whole_by : Option Mistake → Form (Unit {0})
whole_by None = pure tt
whole_by (Some gap) = refuse (λ _. Wrong gap)

-- of these no shape is missing
unfoldable pub none_missing : Module → ShapeDraft → Form (Unit {0})
none_missing m draft = whole_by (shapes_gap m draft)

-- ---- a file of shapes

-- the number 1
unfoldable pub version : Form (Unit {0})
version = do
  checked (λ i. is_number (word i)) (λ i. Syntax (left i))
  checked (begins (49 ∷ [])) (λ i. Wrong (Version (left i)))
  skip

-- shapes up to the text's end, of which none is missing
unfoldable pub whole : Module → Form Shapes
whole m = do
  shape_lines m
  checked ended (λ i. Syntax (left i))
  draft ← taken_shapes
  none_missing m draft
  pure draft.shapes

-- a text of shapes, with numbers of layouts before them
unfoldable pub text : Module → Form GivenShapes
text m = do
  expect (codes "shapes")
  version
  line_end
  numbers ← layout_numbers m
  shapes ← whole m
  pure (record { shapes = shapes; numbers = numbers })
