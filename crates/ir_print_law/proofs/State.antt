-- The state of reading a printed module again, and how one form follows another.
use Rattle.std.specs.Prelude.{◌≡◌, ℕ, ◌+◌, ◌≤◌, Bool, true, false, List, length, slice_get, option_and_then}
use Rattle.lemmas.specs.Lists.{IsIn}
use Rattle.ir_ast.specs.Names.{place_of}
use Rattle.ir_ast.specs.declared.function.Function.{Function}
use Rattle.ir_ast.specs.declared.ir_type.IrType.{IrType}
use Rattle.ir_ast.specs.declared.module.Module.{Module}
use Rattle.ir_tokens.specs.Bytes.{Text}
use Rattle.ir_forms.specs.Cursor.{spelled, local_key}
use Rattle.ir_forms.specs.declared.uses.Wanted.{Wanted}
use Rattle.ir_forms.specs.declared.input.Input.{Input}
use Rattle.ir_forms.specs.Input.{Form, advanced}
use Rattle.ir_forms.specs.Names.{may_be_operand, with_struct_use, with_symbol_use, with_local_use}
use Rattle.ir_forms.specs.Written.{has_opaque, with_type_interned}
use Rattle.ir_forms.specs.Intrinsics.{is_left_out}
use Rattle.name_text.specs.Readings.{AreBytes}
use Rattle.ir_print_law.specs.Readings.{IsKey}
use Rattle.ir_print_law.specs.Stands.{Stands}
use Rattle.ir_print_law.specs.Definitions.{defined_structs, used_keys, IsUsed}
use Rattle.ir_print_law.proofs.Tables.{Begins, AreInOrder}

-- What holds of the names of the state all along, which no form of a type, an operand or an operation breaks.
pub record Invariant (m : Module) (f : Function) : Type 1 where
  pub Holds : Input → Type 0
  -- what is used is named as it is read
  pub is_key : (wanted : Wanted) (key : Text) → IsIn key (used_keys f wanted) → IsKey key
  pub is_symbol : (is_call : Bool) (name : Text) → IsUsed m is_call name → AreBytes name × (is_left_out m.wide name ≡ false)
  pub on_token : (i : Input) → Holds i → Holds (advanced i)
  pub on_type : (i : Input) (t : IrType) → Holds i → Holds (with_type_interned t i)
  pub on_struct : (i : Input) → IsIn (spelled i.cursor) (defined_structs m) → Holds i → Holds (with_struct_use i)
  pub on_symbol : (i : Input) (is_call : Bool) → IsUsed m is_call (spelled i.cursor) → Holds i → Holds (with_symbol_use is_call i)
  pub on_local : (i : Input) (wanted : Wanted) → IsIn (local_key i.cursor) (used_keys f wanted) → Holds i → Holds (with_local_use wanted i)
  pub may_stand : (i : Input) (name : Text) → IsUsed m false name → Holds i
      → may_be_operand m.wide (option_and_then (slice_get i.symbols.sorts) (place_of name i.symbols.names)) name ≡ true

-- there is room for this number of new types, and of new names of each sort
pub record HasRoom (i : Input) (bytes : ℕ) : Type 0 where
  pub types : length i.types + bytes ≤ 16777216
  pub structs : length i.struct_names.names + bytes ≤ 16777216
  pub symbols : length i.symbols.names + bytes ≤ 16777216
  pub locals : length i.locals.names + bytes ≤ 16777216

-- these bytes come next, and there is room for `spare` new types and names besides one for each byte
pub record Ready {m : Module} {f : Function} (v : Invariant m f) (spare : ℕ) (i : Input) (bytes : Text) : Type 0 where
  pub stands : Stands i.cursor bytes
  pub ordered : AreInOrder (has_opaque m.types) i.types
  pub room : HasRoom i (length bytes + spare)
  pub holds : v.Holds i
  pub forms : i.wide ≡ m.wide

-- what was read stays, and further types and names come after it
pub record Grows (i o : Input) : Type 0 where
  pub types : Begins i.types o.types
  pub structs : Begins i.struct_names.names o.struct_names.names
  pub symbols : Begins i.symbols.names o.symbols.names
  pub locals : Begins i.locals.names o.locals.names

-- a module, with the names of a function in it, whose tables begin with those that were read so far
pub record IsLater (i : Input) (n : Module) (others : List Text) : Type 0 where
  pub types : Begins i.types n.types
  pub structs : Begins i.struct_names.names n.struct_names
  pub symbols : Begins i.symbols.names n.symbols
  pub locals : Begins i.locals.names others

-- The form reads the bytes up to these, and what it gives is good then.
abbrev pub Reads : {m : Module} {f : Function} (v : Invariant m f) (spare : ℕ) {A : Type 0} → Form A → Input → (rest : Text) → (Good : A → Input → Type 0) → Type 0
Reads v spare {A = A} form i rest Good = (a : A) × (o : Input) × form.says i a o × Ready v spare o rest × Grows i o × Good a o

-- nothing more is asked
abbrev pub Any : {A : Type 0} → A → Input → Type 0
Any a o = Unit {0}
