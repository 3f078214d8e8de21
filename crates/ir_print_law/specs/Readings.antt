-- What is printed of constants and names is read as them.
use Rattle.std.specs.Prelude.{◌≡◌, ℕ, ◌<◌, ◌≤◌, ◌^◌, true, false, List, ◌∷◌, ◌++◌, Option, ◌⊎◌, slice_get, option_and_then}
use Rattle.ir_ast.specs.LocalKeys.{key_of_name, key_of_digits}
use Rattle.ir_ast.specs.Names.{place_of, number_of}
use Rattle.ir_ast.specs.declared.operand.Constant.{Constant}
use Rattle.ir_ast.specs.declared.operand.Constant.TheVariants as c
use Rattle.ir_ast.specs.declared.operand.Operand.TheVariants.{Local, Global}
use Rattle.ir_tokens.specs.Bytes.{Text}
use Rattle.ir_tokens.specs.declared.token.Kind.TheVariants as k
use Rattle.std.specs.Fmt.{decimal}
use Rattle.ir_forms.specs.Cursor.{kind, next, local_key, spelled}
use Rattle.ir_forms.specs.Written.{integer}
use Rattle.ir_forms.specs.Intrinsics.{is_intrinsic, is_left_out}
use Rattle.ir_forms.specs.declared.uses.Wanted.{Wanted}
use Rattle.ir_forms.specs.declared.uses.Wanted.TheVariants as wants
use Rattle.ir_forms.specs.declared.input.Input.{Input}
use Rattle.ir_forms.specs.Input.{Form, advanced}
use Rattle.ir_forms.specs.Names.{struct_name, callee, used_label, target, new_value, new_label, numbered_value, quoted, may_be_operand, is_local, with_struct_use, with_symbol_use, with_local_use, with_value, with_label, with_number_taken}
use Rattle.ir_forms.specs.Operand.{constant, operand}
use Rattle.ir_ast.specs.declared.function.LocalSort.TheVariants.{Unknown}
use Rattle.ir_forms.specs.Table.{mentioned}
use Rattle.ir_forms.specs.declared.written.Word.{Word}
use Rattle.ir_print.specs.Ends.{target_text}
use Rattle.name_text.specs.Names.{name_text, quoted_text}
use Rattle.name_text.specs.Readings.{AreBytes}
use Rattle.name_text.specs.declared.blank.Blank.TheVariants as blank
use Rattle.ir_print.specs.Names.{name_at, local_text}
use Rattle.ir_print_law.specs.Fits.{FitsType, constant_shown}
use Rattle.ir_print_law.specs.Stands.{Stands, IsSeam, AreBlanks, AreDigits}

-- After blanks this form reads these bytes as this value, and makes this state of the one that it reads from. Then the bytes after them
-- come next.
abbrev pub IsRead : {A : Type 0} → Form A → (bytes : Text) → Input → A → Input → Type 0
IsRead form bytes i value o =
    (gap rest : Text) → AreBlanks gap → IsSeam rest → Stands i.cursor (gap ++ (bytes ++ rest)) → form.says i value o × Stands o.cursor rest

-- after a constant: a floating point number is two tokens, as it is printed
abbrev pub after_constant : Constant → Input → Input
after_constant (c.Float bits) i = advanced (advanced i)
after_constant _ i = advanced i

-- a printed constant that fits its word is read as itself, where a floating point number may stand
abbrev pub ConstantsAreRead : Type 0
ConstantsAreRead = (word : Word) (x : Constant) (i : Input) → FitsType word x → IsRead (constant word) (constant_shown word x) i x (after_constant x i)

-- a key of a local name: the digits of a number without zeros before them, or the key of some name
abbrev pub IsKey : Text → Type 0
IsKey key = (AreDigits key × (key_of_digits key ≡ key)) ⊎ ((name : Text) × AreBytes name × (key ≡ key_of_name name))

-- a printed local name is read as that name: by its number among those mentioned before, or else as the next one
abbrev pub LocalsAreRead : Type 0
LocalsAreRead =
    (wanted : Wanted) (locals : List Text) (value : ℕ) (i : Input) (gap rest : Text) → IsKey (name_at locals value) → number_of (name_at locals value) i.locals.names < 2 ^ 32
    → AreBlanks gap → IsSeam rest → Stands i.cursor (gap ++ (local_text locals value ++ rest))
    → (used_label wanted).says i (number_of (name_at locals value) i.locals.names) (with_local_use wanted i)
    × (local_key i.cursor ≡ name_at locals value) × Stands (with_local_use wanted i).cursor rest

-- so is one that is an operand
abbrev pub LocalOperandsAreRead : Type 0
LocalOperandsAreRead =
    (word : Word) (locals : List Text) (value : ℕ) (i : Input) (gap rest : Text) → IsKey (name_at locals value) → number_of (name_at locals value) i.locals.names < 2 ^ 32
    → AreBlanks gap → IsSeam rest → Stands i.cursor (gap ++ (local_text locals value ++ rest))
    → (operand word).says i (Local (number_of (name_at locals value) i.locals.names)) (with_local_use wants.Value i)
    × (local_key i.cursor ≡ name_at locals value) × Stands (with_local_use wants.Value i).cursor rest

-- a global name that may be an operand, and names no intrinsic, is read as that name where it is one
abbrev pub GlobalOperandsAreRead : Type 0
GlobalOperandsAreRead =
    (word : Word) (name : Text) (i : Input) (gap rest : Text) → AreBytes name → is_intrinsic name ≡ false
    → may_be_operand i.wide (option_and_then (slice_get i.symbols.sorts) (place_of name i.symbols.names)) name ≡ true → number_of name i.symbols.names < 2 ^ 32
    → AreBlanks gap → IsSeam rest → Stands i.cursor (gap ++ 64 ∷ (name_text blank.Kept name ++ rest))
    → (operand word).says i (Global (number_of name i.symbols.names)) (with_symbol_use false i)
    × (spelled i.cursor ≡ name) × Stands (with_symbol_use false i).cursor rest

-- the name of a function is read as that name where it is called
abbrev pub CalleesAreRead : Type 0
CalleesAreRead =
    (name : Text) (i : Input) (gap rest : Text) → AreBytes name → is_left_out i.wide name ≡ false → number_of name i.symbols.names < 2 ^ 32
    → AreBlanks gap → IsSeam rest → Stands i.cursor (gap ++ 64 ∷ (name_text blank.Kept name ++ rest))
    → callee.says i (number_of name i.symbols.names) (with_symbol_use true i) × (spelled i.cursor ≡ name) × Stands (with_symbol_use true i).cursor rest

-- the name of a struct is read as that name in a type
abbrev pub StructNamesAreRead : Type 0
StructNamesAreRead =
    (name : Text) (i : Input) (gap rest : Text) → AreBytes name → number_of name i.struct_names.names < 2 ^ 32
    → AreBlanks gap → IsSeam rest → Stands i.cursor (gap ++ 37 ∷ (name_text blank.Kept name ++ rest))
    → struct_name.says i (number_of name i.struct_names.names) (with_struct_use i) × (spelled i.cursor ≡ name) × Stands (with_struct_use i).cursor rest

-- a printed branch target is read as that block's name
abbrev pub TargetsAreRead : Type 0
TargetsAreRead =
    (locals : List Text) (label : ℕ) (i : Input) (gap rest : Text) → IsKey (name_at locals label) → number_of (name_at locals label) i.locals.names < 2 ^ 32
    → AreBlanks gap → IsSeam rest → Stands i.cursor (gap ++ (target_text locals label ++ rest))
    → target.says i (number_of (name_at locals label) i.locals.names) (with_local_use wants.Target (advanced i))
    × (local_key (advanced i).cursor ≡ name_at locals label) × Stands (with_local_use wants.Target (advanced i)).cursor rest

-- a printed name of a value is read as the name of a value that is defined there, where it is not defined before and there is room
abbrev pub NewValuesAreRead : Type 0
NewValuesAreRead =
    (name : Text) (i : Input) (gap rest : Text) → AreBytes name → number_of (key_of_name name) i.locals.names < 2 ^ 32
    → is_local (slice_get (mentioned (key_of_name name) Unknown i.locals).sorts (number_of (key_of_name name) i.locals.names)) ≡ false → i.values < 1000000
    → AreBlanks gap → IsSeam rest → Stands i.cursor (gap ++ 37 ∷ (name_text blank.Kept name ++ rest))
    → new_value.says i (number_of (key_of_name name) i.locals.names) (with_value i) × (local_key i.cursor ≡ key_of_name name) × Stands (with_value i).cursor rest

-- a printed label that is a name is read as the label of the block with this number, where the name is not defined before
abbrev pub LabelsAreRead : Type 0
LabelsAreRead =
    (block : ℕ) (name : Text) (i : Input) (gap rest : Text) → AreBytes name → number_of (key_of_name name) i.locals.names < 2 ^ 32
    → is_local (slice_get (mentioned (key_of_name name) Unknown i.locals).sorts (number_of (key_of_name name) i.locals.names)) ≡ false
    → AreBlanks gap → Stands i.cursor (gap ++ (name_text blank.Kept name ++ 58 ∷ rest))
    → (new_label block).says i (number_of (key_of_name name) i.locals.names) (with_label block i) × (local_key i.cursor ≡ key_of_name name) × Stands (with_label block i).cursor rest

-- the printed name of a collector is read as that name
abbrev pub CollectorsAreRead : Type 0
CollectorsAreRead =
    (name : Text) (i : Input) (gap rest : Text) → AreBytes name → AreBlanks gap → IsSeam rest → Stands i.cursor (gap ++ (quoted_text blank.Kept name ++ rest))
    → quoted.says i name (advanced i) × Stands (next i.cursor) rest

-- a printed integer type is read as an integer type of that number of bits
abbrev pub IntegerTypesAreRead : Type 0
IntegerTypesAreRead =
    (bits : ℕ) (i : Input) (gap rest : Text) → 1 ≤ bits → bits ≤ 64 → AreBlanks gap → IsSeam rest → Stands i.cursor (gap ++ (105 ∷ decimal bits ++ rest))
    → (kind i.cursor ≡ k.IntegerType) × integer.says i bits (advanced i) × Stands (next i.cursor) rest

-- a value without a name, printed by the next number of its function, is read as the value that has this number
abbrev pub NumberedValuesAreRead : Type 0
NumberedValuesAreRead =
    (i : Input) (gap rest : Text) → i.unnamed < 4294967295 → number_of (decimal i.unnamed) i.locals.names < 2 ^ 32
    → is_local (slice_get (mentioned (decimal i.unnamed) Unknown i.locals).sorts (number_of (decimal i.unnamed) i.locals.names)) ≡ false → i.values < 1000000
    → AreBlanks gap → IsSeam rest → Stands i.cursor (gap ++ 37 ∷ (decimal i.unnamed ++ rest))
    → numbered_value.says i (number_of (decimal i.unnamed) i.locals.names) (with_value (with_number_taken i))
    × (local_key i.cursor ≡ decimal i.unnamed) × Stands (with_value (with_number_taken i)).cursor rest
