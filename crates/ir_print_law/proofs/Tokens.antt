-- Forms of tokens, names of structs and types in the table, as they are read.
use Rattle.std.proofs.Common.{◌≡◌, ℕ, ◌<◌, Bool, true, false, length, slice_get, Some, refl, sym, subst, ◌∙◌}
use Rattle.std.specs.Prelude.{nat_lt}
use Rattle.std.proofs.lemmas.Option.{slice_get_within}
use Rattle.lemmas.specs.Lists.{IsIn}
use Rattle.grammar.specs.Grammar.{step}
use Rattle.ir_ast.specs.Names.{numbered, place_of}
use Rattle.ir_ast.specs.Types.{number_of_type, numbered_type}
use Rattle.ir_ast.specs.declared.function.Function.{Function}
use Rattle.ir_ast.specs.declared.ir_type.IrType.{IrType}
use Rattle.ir_ast.specs.declared.module.Module.{Module}
use Rattle.ir_tokens.specs.declared.token.Kind.{Kind}
use Rattle.ir_tokens.specs.Bytes.{Text}
use Rattle.ir_forms.specs.Cursor.{sees, spelled}
use Rattle.ir_forms.specs.declared.input.Input.{Input}
use Rattle.ir_forms.specs.declared.written.Base.{Base}
use Rattle.ir_forms.specs.declared.written.WrittenType.{WrittenType}
use Rattle.ir_forms.specs.Input.{limit, unexpected, advanced, advanced_falls, skip, expect}
use Rattle.ir_forms.specs.Names.{struct_name, struct_number, with_struct_use, with_struct_use_falls}
use Rattle.ir_forms.specs.Written.{has_opaque, is_other_kind, intern, intern_pointer, interned_pointer, is_second_kind, interned, place_in_table, with_type_interned, with_type_interned_falls}
use Rattle.name_text.specs.Readings.{AreBytes}
use Rattle.ir_print_law.specs.Definitions.{defined_structs}
use Rattle.ir_print_law.proofs.Forms.{Keeps, Same, Any, stepped, where_true}
use Rattle.ir_print_law.proofs.OneKind.{IsNext}
use Rattle.ir_print_law.proofs.Reading.{Reading, Within}
use Rattle.ir_print_law.proofs.Tables.{IsInOrder, stays, type_further, type_there, place_there, place_stays}

-- this type is at its number
abbrev pub IsAt : Module → IrType → ℕ → Type 0
IsAt m t n = (slice_get m.types n ≡ Some t) × IsInOrder (has_opaque m.types) n t

-- a name of a struct, with its number
abbrev pub IsStructName : Module → ℕ → Type 0
IsStructName m n = (name : Text) × (place_of name m.struct_names ≡ Some n) × AreBytes name × IsIn name (defined_structs m)

-- a type without a star that was just put into the table
abbrev pub IsInterned : Module → Base → (room : ℕ) → IrType → WrittenType → Type 0
IsInterned m b room t w = IsAt m t w.id × (w.base ≡ b) × (w.stars ≡ 0) × (w.room ≡ room)

-- the table of types has this number
abbrev pub Has : (Input → Type 0) → ℕ → Input → Type 0
Has Fore n i = Fore i × (n < length i.types)

-- The same reading, where the table of types has this number.
abbrev pub having : {m : Module} → Reading m → ℕ → Reading m
having r k = record {
  Fore = Has r.Fore k;
  Back = r.Back;
  ordered = r.ordered;
  bytes = λ i h back. r.bytes i h.0 back;
  forms = r.forms;
  has_types = r.has_types;
  has_structs = r.has_structs;
  has_symbols = r.has_symbols;
  on_token = λ i h. (r.on_token i h.0, h.1);
  from_token = r.from_token;
  on_type = λ i t next h. (r.on_type i t next h.0, type_further t i.types k h.1);
  from_type = r.from_type;
  on_struct = λ i h. (r.on_struct i h.0, h.1);
  from_struct = r.from_struct;
  struct_is = r.struct_is;
  on_symbol = λ i is_call h. (r.on_symbol i is_call h.0, h.1);
  from_symbol = r.from_symbol;
  symbol_is = r.symbol_is;
  on_lost = λ i lost h. (r.on_lost i lost h.0, h.1);
  from_lost = r.from_lost;
}

abbrev pub having_within : {m : Module} {f : Function} → Within m f → ℕ → Within m f
having_within v k = record {
  reading = having v.reading k;
  has_locals = v.has_locals;
  on_local = λ i wanted h. (v.on_local i wanted h.0, h.1);
  from_local = v.from_local;
  local_is = v.local_is;
}

module _ {m : Module} (r : Reading m) where
  pub skip_keeps : (i : Input) → Keeps r.Fore (Same r.Fore) r.Back skip Any i
  skip_keeps i = stepped r.Back r.Fore (Same r.Fore) Any (λ _. tt) advanced advanced_falls i (λ f. (r.on_token i f, λ b. (r.from_token i b, tt)))

  pub expect_keeps : (x : Kind) (i : Input) → Keeps r.Fore (Same r.Fore) r.Back (expect x) Any i
  expect_keeps x i = where_true r.Back r.Fore (Same r.Fore) Any (λ i. sees x i.cursor) unexpected skip i (λ e. skip_keeps i)

  pub intern_keeps : (t : IrType) (i : Input) → IsNext i.types t → Keeps r.Fore (Has r.Fore) r.Back (intern t) (IsAt m t) i
  unfolding intern
  intern_keeps t i last =
      where_true r.Back r.Fore (Has r.Fore) (IsAt m t) (λ i. nat_lt (place_in_table t i) 4294967296) limit (step (place_in_table t) (with_type_interned t) (with_type_interned_falls t)) i
      (λ e. stepped r.Back r.Fore (Has r.Fore) (IsAt m t) (place_in_table t) (with_type_interned t) (with_type_interned_falls t) i
      (λ f.
      let next = r.on_type i t last f in
      let there = type_there t i.types in (
        (next, slice_get_within (numbered_type t i.types) (number_of_type t i.types) t there),
        λ b.
            let at = stays (numbered_type t i.types) m.types (number_of_type t i.types) t (r.has_types (with_type_interned t i) b) there in
            (r.from_type i t b, (at, r.ordered (with_type_interned t i) b (number_of_type t i.types) t at)),
      )))

  -- the same, where it is not asked for how far the table goes
  pub intern_goes : (t : IrType) (i : Input) → IsNext i.types t → Keeps r.Fore (Same r.Fore) r.Back (intern t) (IsAt m t) i
  intern_goes t i last a o h f = let x = intern_keeps t i last a o h f in (x.0.0, x.1)

  -- so it is with a pointer type, which is of the text's kind
  pub pointer_goes : (start : ℕ) (t : IrType) (i : Input) → (is_other_kind t i.types ≡ false → IsNext i.types t) → Keeps r.Fore (Has r.Fore) r.Back (intern_pointer start t) (IsAt m t) i
  unfolding intern_pointer is_second_kind
  pointer_goes start t i next = by (is_other_kind t i.types) refl where
    by : (b : Bool) → is_other_kind t i.types ≡ b → Keeps r.Fore (Has r.Fore) r.Back (interned_pointer start t b) (IsAt m t) i
    by true e = λ n o h f. absurd (let no = h.3.2.0 in cc)
    by false e = λ n o h f.
        let x = intern_keeps t i (next e) h.0 h.1 h.2 f in
        let same = h.3.2.1 ∙ h.3.3.1 in
        (subst (λ (k : ℕ). Has r.Fore k o) h.3.3.0 (subst (Has r.Fore h.0) same x.0), λ b. let c = x.1 (subst r.Back (sym same) b) in (c.0, subst (IsAt m t) h.3.3.0 c.1))

  pub interned_keeps : (b : Base) (room : ℕ) (t : IrType) (i : Input) → IsNext i.types t
      → Keeps r.Fore (λ w o. Has r.Fore w.id o) r.Back (interned b room t) (IsInterned m b room t) i
  interned_keeps b room t i last w o h f =
      let x = intern_keeps t i last h.0 h.1 h.2 f in
      let e = h.3.0 in (
        subst (λ (y : WrittenType). Has r.Fore y.id o) e (subst (λ (y : Input). Has r.Fore h.0 y) h.3.1 x.0),
        λ k. let l = x.1 (subst r.Back (sym h.3.1) k) in (l.0, subst (IsInterned m b room t) e (l.1, refl, refl, refl)),
      )

  pub struct_name_keeps : (i : Input) → Keeps r.Fore (Same r.Fore) r.Back struct_name (IsStructName m) i
  unfolding struct_name
  struct_name_keeps i =
      where_true r.Back r.Fore (Same r.Fore) (IsStructName m) (λ i. nat_lt (struct_number i) 4294967296) limit (step struct_number with_struct_use with_struct_use_falls) i
      (λ e. stepped r.Back r.Fore (Same r.Fore) (IsStructName m) struct_number with_struct_use with_struct_use_falls i
      (λ f. (
        r.on_struct i f,
        λ b. (
          r.from_struct i b,
          (
            spelled i.cursor,
            place_stays (spelled i.cursor) (numbered (spelled i.cursor) i.struct_names.names) m.struct_names (struct_number i) (r.has_structs (with_struct_use i) b)
                (place_there (spelled i.cursor) i.struct_names.names),
            r.bytes i f (r.from_struct i b),
            r.struct_is i b,
          ),
        ),
      )))
