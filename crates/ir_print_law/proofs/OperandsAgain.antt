-- Printed operands are read as these operands again.
use Rattle.std.proofs.Common.{◌≡◌, ℕ, ◌+◌, ◌<◌, ◌≤◌, ◌^◌, Bool, true, false, not, List, [], ◌∷◌, ◌++◌, length, slice_get, Option, Some, refl, sym, ap, subst, ◌∙◌, arith, append_assoc, length-append}
use Rattle.std.specs.Prelude.{codes, nat_lt, option_and_then}
use Rattle.lemmas.specs.Lists.{IsIn}
use Rattle.grammar.specs.Grammar.{pure, ◌>>=◌, ◌>>◌}
use Rattle.ir_ast.specs.Names.{place_of, number_of, numbered}
use Rattle.ir_ast.specs.declared.function.Function.{Function}
use Rattle.ir_ast.specs.declared.ir_type.IrType.{IrType}
use Rattle.ir_ast.specs.declared.module.Module.{Module}
use Rattle.ir_ast.specs.declared.operand.Constant.{Constant}
use Rattle.ir_ast.specs.declared.operand.Constant.TheVariants as constant
use Rattle.ir_ast.specs.declared.operand.Operand.{Operand}
use Rattle.ir_ast.specs.declared.operand.Operand.TheVariants as operand
use Rattle.ir_tokens.specs.declared.token.Kind.{Kind}
use Rattle.ir_tokens.specs.declared.token.Kind.TheVariants as k
use Rattle.ir_tokens.specs.Bytes.{Text, class_of}
use Rattle.ir_tokens.specs.Keywords.{word_kind, keywords}
use Rattle.ir_forms.specs.Cursor.{kind, spelled, local_key}
use Rattle.ir_forms.specs.Intrinsics.{is_intrinsic}
use Rattle.ir_forms.specs.declared.uses.Wanted.{Wanted}
use Rattle.ir_forms.specs.declared.uses.Wanted.TheVariants as wants
use Rattle.ir_forms.specs.declared.input.Input.{Input}
use Rattle.ir_forms.specs.declared.written.WrittenType.{WrittenType}
use Rattle.ir_forms.specs.Input.{Form, advanced, skip, expect, start_of}
use Rattle.ir_forms.specs.Names.{may_be_operand, sort_of_symbol, symbol_number, used_symbol, used_global, with_symbol_use, with_local_use}
use Rattle.ir_forms.specs.Operand as form
use Rattle.ir_forms.specs.Written as w
use Rattle.ir_forms.specs.declared.written.Word.{Word}
use Rattle.ir_forms.specs.declared.written.Word.TheVariants as word
use Rattle.ir_forms.specs.declared.written.FloatType.TheVariants as size
use Rattle.ir_print_law.specs.Fits.{FitsType, is_bit_width, constant_shown}
use Rattle.name_text.specs.Names.{name_text}
use Rattle.name_text.specs.Readings.{AreBytes}
use Rattle.name_text.specs.declared.blank.Blank.TheVariants as blank
use Rattle.ir_print.specs.Names.{name_at, key_text, local_text, global_text}
use Rattle.ir_print.specs.Operands.{is_bit, number_text, constant_text, operand_text, cast_global_text}
use Rattle.ir_print_law.specs.Stands.{Stands, IsSeam, AreBlanks}
use Rattle.ir_print.specs.Types.{type_text}
use Rattle.ir_print_law.proofs.Constants.{constant_is_read}
use Rattle.ir_print_law.proofs.NamesRead.{local_operands_are_read, few}
use Rattle.name_text.specs.Reading.{name_spelled}
use Rattle.ir_print_law.proofs.Words.{global_comes, sign_comes, word_comes}
use Rattle.ir_print_law.specs.PartsAgain.{IsOperandAgain}
use Rattle.ir_print_law.specs.Parts.{IsType, IsGlobalUse, IsOperand}
use Rattle.ir_print_law.specs.Shapes.{Shape, Integer, Float, Pointer, Array, Empty, Struct, Named, Opaque, HasShape, word_of_shape, is_pointer_shape}
use Rattle.ir_print_law.specs.Definitions.{used_keys, IsUsed}
use Rattle.ir_print_law.proofs.Tables.{begins_itself, stays, name_begins, name_length, name_there, number_within}
use Rattle.ir_print_law.proofs.State.{Invariant, Ready, Grows, IsLater, Reads}
use Rattle.ir_print_law.specs.Readings.{after_constant}
use Rattle.ir_print_law.proofs.Shown.{shown, IsTypeRead}
use Rattle.ir_print_law.proofs.Steps.{grows_further, go_on, given, shorter, looked, sign_reads, word_reads, word_skipped, word_seen, later_before, grows_advanced, passed}
use Rattle.ir_print_law.proofs.Types.{EndsType, Comes, ends_type}
use Rattle.ir_print_law.proofs.PrintedTypes.{type_shown, read_again, pointer_type_reads}

-- ---- constants

-- whether a type is i1 is told by its shape
bit_is : (types : List IrType) (names : List Text) (shape : Shape) (n : ℕ) → HasShape types names shape n → is_bit (slice_get types n) ≡ is_bit_width (word_of_shape shape)
bit_is types names (Integer bits) n h = ap is_bit h
bit_is types names (Float size.Single) n h = ap is_bit h
bit_is types names (Float size.Double) n h = ap is_bit h
bit_is types names (Pointer part) n h = ap is_bit h.1
bit_is types names (Array count part) n h = ap is_bit h.1
bit_is types names Empty n h = ap is_bit h
bit_is types names (Struct first rest) n h = ap is_bit h.2
bit_is types names (Named name) n h = ap is_bit h.1
bit_is types names Opaque n h = ap is_bit h

-- a constant is printed by the shape of its type
pub constant_by_shape : (n : Module) (shape : Shape) (t : ℕ) (x : Constant) → HasShape n.types n.struct_names shape t → constant_text n t x ≡ constant_shown (word_of_shape shape) x
constant_by_shape n shape t (constant.Number number) h = ap (λ b. number_text b number) (bit_is n.types n.struct_names shape t h)
constant_by_shape n shape t (constant.Float number) h = refl
constant_by_shape n shape t constant.Null h = refl
constant_by_shape n shape t (constant.Truth truth) h = refl

-- an operand is this one again, in each module later on
abbrev pub OperandAgain : Module → (locals : List Text) → Operand → Operand → Input → Type 0
OperandAgain m locals x y o = (n : Module) (others : List Text) → IsLater o n others → IsOperandAgain m n locals others x y

-- the name of a global is read where it is an operand
global_said : (i : Input) (name : Text) → spelled i.cursor ≡ name → is_intrinsic name ≡ false
    → may_be_operand i.wide (option_and_then (slice_get i.symbols.sorts) (place_of name i.symbols.names)) name ≡ true → number_of name i.symbols.names < 2 ^ 32
    → used_global.says i (number_of name i.symbols.names) (with_symbol_use false i)
unfolding used_global used_symbol
global_said i name e own stands less =
    let no_intrinsic : not (is_intrinsic (spelled i.cursor)) ≡ true = ap (λ (x : Text). not (is_intrinsic x)) e ∙ ap not own in
    let none : may_be_operand i.wide (sort_of_symbol i) (spelled i.cursor) ≡ true =
    ap (λ (x : Text). may_be_operand i.wide (option_and_then (slice_get i.symbols.sorts) (place_of x i.symbols.names)) x) e ∙ stands in
    let same : symbol_number i ≡ number_of name i.symbols.names = ap (λ (x : Text). number_of x i.symbols.names) e in
    (tt, i, (tt, i, (no_intrinsic, refl), (none, refl)), (tt, i, (ap (λ (n : ℕ). nat_lt n 4294967296) same ∙ few (number_of name i.symbols.names) less, refl), (same, refl)))

-- ---- what comes first in an operand

-- an operand begins with a token of this kind
abbrev pub begins_operand : Kind → Bool
begins_operand k.LocalName = true
begins_operand k.LocalNumber = true
begins_operand k.GlobalName = true
begins_operand k.Bitcast = true
begins_operand k.Number = true
begins_operand k.Word = true
begins_operand k.True = true
begins_operand k.False = true
begins_operand k.Null = true
begins_operand k.Undef = true
begins_operand k.Zeroinitializer = true
begins_operand _ = false

-- such a token ends a type
type_ended : (x : Kind) → begins_operand x ≡ true → ends_type x ≡ true
type_ended k.Star e = absurd cc
type_ended k.OpenRound e = absurd cc
type_ended _ e = refl

-- a constant begins with such a token
constant_kind : (bits : Word) (i o : Input) (x : Constant) (y : Kind) → (form.constant_by bits y).says i x o → begins_operand y ≡ true
constant_kind bits i o x k.Number h = refl
constant_kind bits i o x k.Word h = refl
constant_kind bits i o x k.True h = refl
constant_kind bits i o x k.False h = refl
constant_kind bits i o x k.Null h = refl
constant_kind bits i o x k.Undef h = refl
constant_kind bits i o x k.Zeroinitializer h = refl
constant_kind bits i o x _ h = absurd h

-- a constant is an operand
by_constant : (bits : Word) (i o : Input) (x : Constant) (y : Kind) → (form.constant_by bits y).says i x o → (form.constant bits).says i x o → (form.operand_by bits y).says i (operand.Constant x) o
by_constant bits i o x k.LocalName h said = absurd h
by_constant bits i o x k.LocalNumber h said = absurd h
by_constant bits i o x k.GlobalName h said = absurd h
by_constant bits i o x k.Bitcast h said = absurd h
by_constant bits i o x k.Getelementptr h said = absurd h
by_constant bits i o x _ h said = (x, o, said, (refl, refl))

-- so it is read as one
constant_said : (bits : Word) (i o : Input) (x : Constant) → (form.constant bits).says i x o → (form.operand bits).says i (operand.Constant x) o
unfolding form.operand form.constant
constant_said bits i o x h = by_constant bits i o x (kind i.cursor) h h

-- its first token
constant_ends : (bits : Word) (i o : Input) (x : Constant) → (form.constant bits).says i x o → begins_operand (kind i.cursor) ≡ true
unfolding form.constant
constant_ends bits i o x h = constant_kind bits i o x (kind i.cursor) h

-- a constant is no local name
no_local : (x : Constant) (n : ℕ) → operand.Constant x ≡ operand.Local n → ⊥
no_local x n e = cc

-- an address outside is no local name
no_global : (symbol n : ℕ) → operand.Global symbol ≡ operand.Local n → ⊥
no_global symbol n e = cc

-- a constant getelementptr gives no local name
element_no_local : (bits : Word) (wide : Bool) (i o : Input) (n : ℕ) → (form.element_by bits wide).says i (operand.Local n) o → ⊥
element_no_local word.Pointer true i o n h = no_global h.0 n h.3.0
element_no_local word.Pointer false i o n h = no_local h.0 n h.3.0
element_no_local (word.Integer bits) wide i o n h = no_local h.0 n h.3.0
element_no_local word.Float wide i o n h = no_local h.0 n h.3.0
element_no_local word.Double wide i o n h = no_local h.0 n h.3.0

-- a local name begins with such a token
local_kind : (bits : Word) (i o : Input) (n : ℕ) (y : Kind) → (form.operand_by bits y).says i (operand.Local n) o → begins_operand y ≡ true
unfolding form.element_operand
local_kind bits i o n k.LocalName h = refl
local_kind bits i o n k.LocalNumber h = refl
local_kind bits i o n k.GlobalName h = refl
local_kind bits i o n k.Bitcast h = refl
local_kind bits i o n k.Getelementptr h = absurd (element_no_local bits i.wide i o n h)
local_kind bits i o n _ h = absurd (no_local h.0 n h.3.0)

-- its first token
local_ends : (bits : Word) (i o : Input) (n : ℕ) → (form.operand bits).says i (operand.Local n) o → begins_operand (kind i.cursor) ≡ true
unfolding form.operand
local_ends bits i o n h = local_kind bits i o n (kind i.cursor) h

-- `bitcast (T* @g to U*)` of these texts
abbrev cast_by : (from symbol to : Text) → Text
cast_by from symbol to = codes "bitcast (" ++ from ++ 32 ∷ symbol ++ codes " to " ++ to ++ 41 ∷ []

-- the parts of a bitcast, and what follows it
cast_front : (from symbol to rest : Text) → cast_by from symbol to ++ rest ≡ codes "bitcast" ++ (32 ∷ 40 ∷ (from ++ (32 ∷ (symbol ++ (codes " to " ++ (to ++ 41 ∷ rest))))))
cast_front from symbol to rest = simp append_assoc

-- a round bracket ends a type
pub ends_round : (afterwards : Text) → EndsType (41 ∷ afterwards)
unfolding class_of
ends_round afterwards = (refl, λ i at. ap ends_type (sign_comes i.cursor [] 41 afterwards k.CloseRound refl refl refl at).0)

-- the name of a global ends a type
pub ends_global : (name afterwards : Text) → AreBytes name → IsSeam afterwards → EndsType (32 ∷ 64 ∷ (name_text blank.Kept name ++ afterwards))
unfolding class_of
ends_global name afterwards own seam = (refl, λ i at. ap ends_type (global_comes i.cursor (32 ∷ []) name afterwards refl own seam at).0)

-- the forms after the parts of a bitcast
abbrev cast_end : WrittenType → ℕ → WrittenType → Form Operand
cast_end from global to = expect k.CloseRound >> pure (operand.CastGlobal from.id global to.id)

-- the type that is cast to, and what follows it
abbrev cast_type : WrittenType → ℕ → Form Operand
cast_type from global = w.pointer_type >>= cast_end from global

-- the global, and what follows it
abbrev cast_global : WrittenType → Form Operand
cast_global from = form.cast_operand >>= form.cast_to from

module _ {m : Module} {f : Function} (v : Invariant m f) where
  -- ---- names

  -- a use of a local name leaves what was read
  pub local_grows : (wanted : Wanted) (i : Input) → Grows i (with_local_use wanted i)
  local_grows wanted i = record {
    types = begins_itself i.types;
    structs = begins_itself i.struct_names.names;
    symbols = begins_itself i.symbols.names;
    locals = name_begins (local_key i.cursor) i.locals.names;
  }

  -- a local name was used
  pub local_ready : (wanted : Wanted) (i : Input) (bytes rest : Text) (s : ℕ) (key : Text) → local_key i.cursor ≡ key → IsIn key (used_keys f wanted) → Ready v s i bytes → length rest + 1 ≤ length bytes
      → Stands (with_local_use wanted i).cursor rest → Ready v s (with_local_use wanted i) rest
  local_ready wanted i bytes rest s key e there ready le at =
      let room = ready.room in
      let longer = name_length (local_key i.cursor) i.locals.names in
      record {
        stands = at;
        ordered = ready.ordered;
        forms = ready.forms;
        room = record {
          types = let h = room.types in omega (arith, h, le);
          structs = let h = room.structs in omega (arith, h, le);
          symbols = let h = room.symbols in omega (arith, h, le);
          locals = let h = room.locals in omega (arith, h, le, longer);
        };
        holds = v.on_local i wanted (subst (λ (x : Text). IsIn x (used_keys f wanted)) (sym e) there) ready.holds;
      }

  -- there is room for a local name
  pub local_few : (i : Input) (bytes : Text) (s : ℕ) (key : Text) → Ready v s i bytes → number_of key i.locals.names < 2 ^ 32
  local_few i bytes s key ready = let within = number_within key i.locals.names in let room = ready.room in let h = room.locals in omega (arith, within, h)

  -- the local name has its number then
  pub local_there : (i : Input) (key : Text) (wanted : Wanted) → local_key i.cursor ≡ key → slice_get (with_local_use wanted i).locals.names (number_of key i.locals.names) ≡ Some key
  local_there i key wanted e = subst (λ (x : Text). slice_get (numbered x i.locals.names) (number_of key i.locals.names) ≡ Some key) (sym e) (name_there key i.locals.names)

  -- a use of a global name leaves what was read
  pub symbol_grows : (is_call : Bool) (i : Input) → Grows i (with_symbol_use is_call i)
  symbol_grows is_call i = record {
    types = begins_itself i.types;
    structs = begins_itself i.struct_names.names;
    symbols = name_begins (spelled i.cursor) i.symbols.names;
    locals = begins_itself i.locals.names;
  }

  -- a global name was used
  pub symbol_ready : (is_call : Bool) (i : Input) (bytes rest : Text) (s : ℕ) (name : Text) → spelled i.cursor ≡ name → IsUsed m is_call name → Ready v s i bytes → length rest + 1 ≤ length bytes
      → Stands (with_symbol_use is_call i).cursor rest → Ready v s (with_symbol_use is_call i) rest
  symbol_ready is_call i bytes rest s name e there ready le at =
      let room = ready.room in
      let longer = name_length (spelled i.cursor) i.symbols.names in
      record {
        stands = at;
        ordered = ready.ordered;
        forms = ready.forms;
        room = record {
          types = let h = room.types in omega (arith, h, le);
          structs = let h = room.structs in omega (arith, h, le);
          symbols = let h = room.symbols in omega (arith, h, le, longer);
          locals = let h = room.locals in omega (arith, h, le);
        };
        holds = v.on_symbol i is_call (subst (λ (x : Text). IsUsed m is_call x) (sym e) there) ready.holds;
      }

  -- there is room for a global name
  pub symbol_few : (i : Input) (bytes : Text) (s : ℕ) (name : Text) → Ready v s i bytes → number_of name i.symbols.names < 2 ^ 32
  symbol_few i bytes s name ready = let within = number_within name i.symbols.names in let room = ready.room in let h = room.symbols in omega (arith, within, h)

  -- the global name has its number then
  pub symbol_there : (i : Input) (name : Text) (is_call : Bool) → spelled i.cursor ≡ name → slice_get (with_symbol_use is_call i).symbols.names (number_of name i.symbols.names) ≡ Some name
  symbol_there i name is_call e = subst (λ (x : Text). slice_get (numbered x i.symbols.names) (number_of name i.symbols.names) ≡ Some name) (sym e) (name_there name i.symbols.names)

  -- a name takes a byte
  byte_less : (gap word rest : Text) → length rest + 1 ≤ length (gap ++ 37 ∷ (word ++ rest))
  byte_less gap word rest = let a = length-append gap (37 ∷ (word ++ rest)) in let b = length-append word rest in omega (arith, a, b)

  -- a sign before a name takes a byte
  pub sign_less : (b : ℕ) (gap word rest : Text) → length rest + 1 ≤ length (gap ++ b ∷ (word ++ rest))
  sign_less b gap word rest = let a = length-append gap (b ∷ (word ++ rest)) in let c = length-append word rest in omega (arith, a, c)

  -- the name of a global as an operand
  pub global_reads : (name : Text) (i : Input) (gap rest : Text) (s : ℕ) → IsUsed m false name → is_intrinsic name ≡ false → AreBlanks gap → IsSeam rest
      → Ready v s i (gap ++ 64 ∷ (name_text blank.Kept name ++ rest)) → Reads v s used_global i rest (λ n o. slice_get o.symbols.names n ≡ Some name)
  global_reads name i gap rest s there own blanks seam ready =
      let is = v.is_symbol false name there in
      let c = global_comes i.cursor gap name rest blanks is.0 seam ready.stands in
      let e : spelled i.cursor ≡ name = c.2 ∙ name_spelled blank.Kept name is.0 in
      let n = number_of name i.symbols.names in (
        number_of name i.symbols.names,
        with_symbol_use false i,
        global_said i name e own (ap (λ (wide : Bool). may_be_operand wide (option_and_then (slice_get i.symbols.sorts) (place_of name i.symbols.names)) name) ready.forms ∙ v.may_stand i name there ready.holds) (symbol_few i _ s name ready),
        symbol_ready false i (gap ++ 64 ∷ (name_text blank.Kept name ++ rest)) rest s name e there ready (sign_less 64 gap (name_text blank.Kept name) rest) c.3,
        symbol_grows false i,
        symbol_there i name false e,
      )

  -- the name of a global comes
  pub global_seen : (name : Text) (i : Input) (gap rest : Text) (s : ℕ) → AreBytes name → AreBlanks gap → IsSeam rest → Ready v s i (gap ++ 64 ∷ (name_text blank.Kept name ++ rest)) → kind i.cursor ≡ k.GlobalName
  global_seen name i gap rest s own blanks seam ready = (global_comes i.cursor gap name rest blanks own seam ready.stands).0

  -- ---- operands

  -- after the tokens of a constant
  pub constant_ready : (x : Constant) (i : Input) (bytes rest : Text) (s : ℕ) → Ready v s i bytes → Stands (after_constant x i).cursor rest → length rest ≤ length bytes → Ready v s (after_constant x i) rest
  constant_ready (constant.Number n) i bytes rest s ready at le = passed v i bytes rest s s ready at (omega (arith, le))
  constant_ready constant.Null i bytes rest s ready at le = passed v i bytes rest s s ready at (omega (arith, le))
  constant_ready (constant.Truth t) i bytes rest s ready at le = passed v i bytes rest s s ready at (omega (arith, le))
  constant_ready (constant.Float n) i bytes rest s ready at le = record {
    stands = at;
    ordered = ready.ordered;
    forms = ready.forms;
    room = let room = ready.room in record {
      types = let h = room.types in omega (arith, le, h);
      structs = let h = room.structs in omega (arith, le, h);
      symbols = let h = room.symbols in omega (arith, le, h);
      locals = let h = room.locals in omega (arith, le, h);
    };
    holds = v.on_token (advanced i) (v.on_token i ready.holds);
  }

  -- they change no table
  pub constant_grows : (x : Constant) (i : Input) → Grows i (after_constant x i)
  constant_grows (constant.Number n) i = grows_advanced v i
  constant_grows constant.Null i = grows_advanced v i
  constant_grows (constant.Truth t) i = grows_advanced v i
  constant_grows (constant.Float n) i = grows_further i (advanced i) (advanced (advanced i)) (grows_advanced v i) (grows_advanced v (advanced i))

  -- no fewer bytes are before a word and what follows it
  pub word_longer : (gap word rest : Text) → length rest ≤ length (gap ++ (word ++ rest))
  word_longer gap word rest = let a = length-append gap (word ++ rest) in let b = length-append word rest in omega (arith, a, b)

  -- a constant is read as itself
  constant_reads : (shape : Shape) (x : Constant) (i : Input) (gap rest : Text) (s : ℕ) → FitsType (word_of_shape shape) x → AreBlanks gap → IsSeam rest
      → Ready v s i (gap ++ (constant_shown (word_of_shape shape) x ++ rest)) → Reads v s (form.constant (word_of_shape shape)) i rest (λ y o. x ≡ y)
  constant_reads shape x i gap rest s fits blanks seam ready =
      let r = constant_is_read (word_of_shape shape) x i gap rest fits blanks seam ready.stands in
      (x, after_constant x i, r.0, constant_ready x i (gap ++ (constant_shown (word_of_shape shape) x ++ rest)) rest s ready r.1 (word_longer gap (constant_shown (word_of_shape shape) x) rest), constant_grows x i, refl)

  -- a local name is read as an operand
  local_reads : (shape : Shape) (value : ℕ) (i : Input) (gap rest : Text) (s : ℕ) → IsIn (name_at f.locals value) (used_keys f wants.Value) → AreBlanks gap → IsSeam rest
      → Ready v s i (gap ++ (local_text f.locals value ++ rest)) → Reads v s (form.operand (word_of_shape shape)) i rest (OperandAgain m f.locals (operand.Local value))
  local_reads shape value i gap rest s there blanks seam ready =
      let key = name_at f.locals value in
      let r = local_operands_are_read (word_of_shape shape) f.locals value i gap rest (v.is_key wants.Value key there) (local_few i _ s key ready) blanks seam ready.stands in (
        operand.Local (number_of key i.locals.names),
        with_local_use wants.Value i,
        r.0,
        local_ready wants.Value i (gap ++ (local_text f.locals value ++ rest)) rest s key r.1 there ready (byte_less gap (key_text key) rest) r.2,
        local_grows wants.Value i,
        λ n others later. stays (with_local_use wants.Value i).locals.names others (number_of key i.locals.names) key later.locals (local_there i key wants.Value r.1),
      )

  -- the name of a global is read as an operand
  global_operand_reads : (shape : Shape) (symbol : ℕ) (i : Input) (gap rest : Text) (s : ℕ) → IsGlobalUse m symbol → AreBlanks gap → IsSeam rest
      → Ready v s i (gap ++ (global_text m symbol ++ rest)) → Reads v s (form.operand (word_of_shape shape)) i rest (OperandAgain m f.locals (operand.Global symbol))
  unfolding form.operand
  global_operand_reads shape symbol i gap rest s used blanks seam ready =
      let name = name_at m.symbols symbol in
      let good = OperandAgain m f.locals (operand.Global symbol) in
      let is = v.is_symbol false name used.0 in
      looked v (λ i. kind i.cursor) (form.operand_by (word_of_shape shape)) i rest s good k.GlobalName (global_seen name i gap rest s is.0 blanks seam ready)
      (go_on v used_global (λ n. pure (operand.Global n)) i rest rest s s (λ n o. slice_get o.symbols.names n ≡ Some name) good
      (global_reads name i gap rest s used.0 used.1 blanks seam ready)
      (λ number o ready g there. given v (operand.Global number) o rest s good ready
      (λ n others later. stays o.symbols.names n.symbols number name later.symbols there)))

  -- a bitcast of a global is read as an operand
  cast_reads : (shape first second : Shape) (from symbol to : ℕ) (i : Input) (gap rest : Text) (s : ℕ)
      → IsType m first from → is_pointer_shape first ≡ true → IsGlobalUse m symbol → IsType m second to → is_pointer_shape second ≡ true → AreBlanks gap
      → Ready v s i (gap ++ (cast_global_text m from symbol to ++ rest)) → Reads v s (form.operand (word_of_shape shape)) i rest (OperandAgain m f.locals (operand.CastGlobal from symbol to))
  unfolding form.operand form.cast form.cast_operand word_kind keywords class_of
  cast_reads shape first second from symbol to i gap rest s a pa used b pb blanks ready =
      let name = name_at m.symbols symbol in
      let good = OperandAgain m f.locals (operand.CastGlobal from symbol to) in
      let is = v.is_symbol false name used.0 in
      let from_text = type_shown m first from a.0 a.1 in
      let to_text = type_shown m second to b.0 b.1 in
      let whole : cast_global_text m from symbol to ≡ cast_by (shown false first) (global_text m symbol) (shown false second) =
      ap (λ (x : Text). cast_by x (global_text m symbol) (type_text m to)) from_text ∙ ap (λ (x : Text). cast_by (shown false first) (global_text m symbol) x) to_text in
      let t5 = 41 ∷ rest in
      let t4 = shown false second ++ t5 in
      let t3 = codes " to " ++ t4 in
      let t2 = 32 ∷ 64 ∷ (name_text blank.Kept name ++ t3) in
      let t1 = shown false first ++ t2 in
      let there : Ready v s i (gap ++ (cast_by (shown false first) (global_text m symbol) (shown false second) ++ rest)) = subst (λ (x : Text). Ready v s i (gap ++ (x ++ rest))) whole ready in
      let there : Ready v s i (gap ++ (codes "bitcast" ++ (32 ∷ 40 ∷ (shown false first ++ (32 ∷ 64 ∷ (name_text blank.Kept (name_at m.symbols symbol) ++ (codes " to " ++ (shown false second ++ 41 ∷ rest)))))))) = simp append_assoc at there in
      looked v (λ i. kind i.cursor) (form.operand_by (word_of_shape shape)) i rest s good k.Bitcast (word_seen v (codes "bitcast") i gap (32 ∷ 40 ∷ t1) s blanks refl refl there)
      (go_on v skip (λ _. form.cast_after) i (32 ∷ 40 ∷ t1) rest s s (λ _ o. advanced i ≡ o) good
      (word_skipped v (codes "bitcast") i gap (32 ∷ 40 ∷ t1) s s blanks refl refl (omega arith) there)
      (λ _ o ready g e.
      go_on v (expect k.OpenRound) (λ _. w.pointer_type >>= cast_global) o t1 rest s s (λ _ q. advanced o ≡ q) good
      (sign_reads v 40 k.OpenRound o (32 ∷ []) t1 s s refl refl refl (omega arith) ready)
      (λ _ o ready g e.
      go_on v w.pointer_type cast_global o t2 rest s s (IsTypeRead first 64) good
      (pointer_type_reads v first o [] t2 s a.2 a.1 pa refl (ends_global name t3 is.0 refl) ready)
      (λ p o ready g read.
      go_on v form.cast_operand (form.cast_to p) o t3 rest s s (λ n o. slice_get o.symbols.names n ≡ Some name) good
      (looked v (λ i. kind i.cursor) form.cast_operand_by o t3 s (λ n o. slice_get o.symbols.names n ≡ Some name) k.GlobalName (global_seen name o (32 ∷ []) t3 s is.0 refl refl ready)
      (global_reads name o (32 ∷ []) t3 s used.0 used.1 refl refl ready))
      (λ number q ready h there.
      go_on v (expect k.To) (λ _. cast_type p number) q (32 ∷ t4) rest s s (λ _ r. advanced q ≡ r) good
      (word_reads v (codes "to") q (32 ∷ []) (32 ∷ t4) s s refl refl refl (omega arith) ready)
      (λ _ r ready hh e.
      go_on v w.pointer_type (cast_end p number) r t5 rest s s (IsTypeRead second 64) good
      (pointer_type_reads v second r (32 ∷ []) t5 s b.2 b.1 pb refl (ends_round rest) ready)
      (λ p2 r2 ready h2 read2.
      go_on v (expect k.CloseRound) (λ _. pure (operand.CastGlobal p.id number p2.id)) r2 rest rest s s (λ _ x. advanced r2 ≡ x) good
      (sign_reads v 41 k.CloseRound r2 [] rest s s refl refl refl (omega arith) ready)
      (λ _ x ready h3 e. given v (operand.CastGlobal p.id number p2.id) x rest s good ready
      (λ n others later.
      let later2 = later_before r2 x n others h3 later in
      let laterq = later_before q r n others hh (later_before r r2 n others h2 later2) in
      let latero = later_before o q n others h laterq in (
        read_again m first from p.id o n others a.0 read.has_shape latero,
        stays q.symbols.names n.symbols number name laterq.symbols there,
        read_again m second to p2.id r2 n others b.0 read2.has_shape later2,
      ))))))))))

  -- an operand is read as this one again
  pub operand_reads : (shape : Shape) (t : ℕ) (x : Operand) (i : Input) (gap rest : Text) (s : ℕ) → HasShape m.types m.struct_names shape t → IsOperand m f (word_of_shape shape) x → AreBlanks gap → IsSeam rest
      → Ready v s i (gap ++ (operand_text m f.locals t x ++ rest)) → Reads v s (form.operand (word_of_shape shape)) i rest (OperandAgain m f.locals x)
  operand_reads shape t (operand.Constant x) i gap rest s has own blanks seam ready =
      let text = constant_by_shape m shape t x has in
      let r = constant_reads shape x i gap rest s own blanks seam (subst (λ (y : Text). Ready v s i (gap ++ (y ++ rest))) text ready) in
      let said = subst (λ (y : Constant). (form.constant (word_of_shape shape)).says i y r.1) (sym r.5) r.2 in
      (operand.Constant x, r.1, constant_said (word_of_shape shape) i r.1 x said, r.3, r.4, λ n others later. refl)
  operand_reads shape t (operand.Local value) i gap rest s has own blanks seam ready = local_reads shape value i gap rest s own blanks seam ready
  operand_reads shape t (operand.Global symbol) i gap rest s has own blanks seam ready = global_operand_reads shape symbol i gap rest s own blanks seam ready
  operand_reads shape t (operand.CastGlobal from symbol to) i gap rest s has own blanks seam ready =
      cast_reads shape own.0.0 own.2.0 from symbol to i gap rest s own.0.1 own.0.2 own.1 own.2.1 own.2.2 blanks ready

  -- no type goes on with an operand
  pub operand_begins : (shape : Shape) (t : ℕ) (x : Operand) (rest : Text) → HasShape m.types m.struct_names shape t → IsOperand m f (word_of_shape shape) x → IsSeam rest
      → Comes begins_operand (32 ∷ (operand_text m f.locals t x ++ rest))
  unfolding class_of word_kind keywords
  operand_begins shape t x rest has own seam = (λ i at. by x own i at) where
    by : (x : Operand) → IsOperand m f (word_of_shape shape) x → (i : Input) → Stands i.cursor (32 ∷ (operand_text m f.locals t x ++ rest)) → begins_operand (kind i.cursor) ≡ true
    by (operand.Constant x) own i at =
        let at : Stands i.cursor ((32 ∷ []) ++ (constant_shown (word_of_shape shape) x ++ rest)) = subst (λ (y : Text). Stands i.cursor (32 ∷ (y ++ rest))) (constant_by_shape m shape t x has) at in
        constant_ends (word_of_shape shape) i (after_constant x i) x (constant_is_read (word_of_shape shape) x i (32 ∷ []) rest own refl seam at).0
    by (operand.Local value) own i at =
        let key = name_at f.locals value in
        let few : number_of key (start_of i.cursor).locals.names < 2 ^ 32 = omega arith in
        let r = local_operands_are_read (word_of_shape shape) f.locals value (start_of i.cursor) (32 ∷ []) rest (v.is_key wants.Value key own) few refl seam at in
        local_ends (word_of_shape shape) (start_of i.cursor) _ _ r.0
    by (operand.Global symbol) own i at = ap begins_operand (global_comes i.cursor (32 ∷ []) (name_at m.symbols symbol) rest refl (v.is_symbol false _ own.0).0 seam at).0
    by (operand.CastGlobal from symbol to) own i at =
        let afterwards = 32 ∷ 40 ∷ (type_text m from ++ (32 ∷ (global_text m symbol ++ (codes " to " ++ (type_text m to ++ 41 ∷ rest))))) in
        let at = subst (λ (x : Text). Stands i.cursor (32 ∷ x)) (cast_front (type_text m from) (global_text m symbol) (type_text m to) rest) at in
        ap begins_operand (word_comes i.cursor (32 ∷ []) (codes "bitcast") afterwards refl refl refl at).0

  -- so an operand ends a type
  pub ends_operand : (shape : Shape) (t : ℕ) (x : Operand) (rest : Text) → HasShape m.types m.struct_names shape t → IsOperand m f (word_of_shape shape) x → IsSeam rest → EndsType (32 ∷ (operand_text m f.locals t x ++ rest))
  unfolding class_of
  ends_operand shape t x rest has own seam = (refl, λ i at. type_ended (kind i.cursor) (operand_begins shape t x rest has own seam i at))
