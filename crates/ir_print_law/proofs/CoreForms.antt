-- Where the wide forms may not stand, operations on integers and names of intrinsics are read as if there were none.
use Rattle.std.proofs.Common.{◌≡◌, ℕ, Bool, true, false, Option, None, Some, Ok, refl, ap, sym, subst, ◌∙◌}
use Rattle.std.specs.Prelude.{◌&&◌, not, Err, if◌then◌else◌, drop, length, codes}
use Rattle.std.specs.Str.{bytes_eq}
use Rattle.std.proofs.lemmas.Slice.Eq.{bytes_eq-Decides}
use Rattle.grammar.specs.Outcome.{and_then}
use Rattle.ir_ast.specs.IntegerFunctions.{has_width, integers_named, function_begun, width_of, with_digits, with_width, word_of}
use Rattle.ir_ast.specs.declared.integer_function.IntegerFunction.{IntegerFunction}
use Rattle.ir_ast.specs.declared.numbers.Arithmetic.{Arithmetic}
use Rattle.ir_ast.specs.declared.numbers.NumberOp.{NumberOp}
use Rattle.ir_ast.specs.declared.op.Op.TheVariants as op
use Rattle.ir_ast.specs.declared.runtime.Runtime.TheVariants.{Integer}
use Rattle.ir_forms.specs.Cursor.{kind, left_out, sees, spelled, spelling}
use Rattle.ir_forms.specs.Casts.{freezes}
use Rattle.ir_forms.specs.FloatOps.{float_word_of, float_word_here, number_op_by, number_op}
use Rattle.ir_forms.specs.Written.{float_of, float_here, float_by}
use Rattle.ir_forms.specs.declared.float_ops.FloatWord.{FloatWord}
use Rattle.ir_forms.specs.declared.written.FloatType.{FloatType}
use Rattle.ir_tokens.specs.declared.token.Kind.TheVariants as k
use Rattle.ir_ast.specs.FloatFunctions as floats
use Rattle.ir_ast.specs.RuntimeNames.{numbers_named}
use Rattle.ir_ast.specs.declared.float_function.FloatFunction.{FloatFunction}
use Rattle.ir_ast.specs.declared.runtime.Runtime.{Runtime}
use Rattle.ir_forms.specs.Instructions.{wide_op, wide_op_by}
use Rattle.ir_forms.specs.Intrinsics.{is_intrinsic, is_left_out, may_be_named}
use Rattle.ir_forms.specs.Numbers.{arithmetic_by, arithmetic_of, integer_op, wide_here, wide_or_resized}
use Rattle.ir_forms.specs.Input.{Outcome}
use Rattle.ir_forms.specs.declared.input.Input.{Input}
use Rattle.ir_tokens.specs.Bytes.{Text}
use Rattle.ir_print_law.specs.CoreForms.{AreCoreTypesRead, AreCoreNamesRead, AreCoreRead, AreCoreWordsRead, core_by, is_core_left_out}

read_by : (value : ℕ) (i : Input) (x : Option Arithmetic) → i.wide ≡ false → (arithmetic_by value x).read i ≡ (core_by value x).read i
unfolding wide_or_resized wide_here
read_by value i None core = rw core refl
read_by value i (Some x) core = refl

pub read_core : AreCoreRead
unfolding integer_op
read_core value i core = read_by value i (arithmetic_of (kind i.cursor)) core

freezes_not : (i : Input) → i.wide ≡ false → freezes i ≡ false
unfolding freezes
freezes_not i core = ap (λ (wide : Bool). wide && bytes_eq (spelling i.cursor) (codes "freeze")) core

-- no operation on floating point numbers is named, and no type of them
no_float_word : (i : Input) → i.wide ≡ false → float_word_here i ≡ None
unfolding float_word_here
no_float_word i core = ap (λ (wide : Bool). if wide && sees k.LeftOut i.cursor then float_word_of (spelling i.cursor) else None) core

no_float_type : (i : Input) → i.wide ≡ false → float_here i ≡ None
unfolding float_here
no_float_type i core = ap (λ (wide : Bool). if wide && sees k.LeftOut i.cursor then float_of (spelling i.cursor) else None) core

pub read_core_types : AreCoreTypesRead
read_core_types room i core = ap (λ (t : Option FloatType). (float_by room t).read i) (no_float_type i core)

pub read_core_words : AreCoreWordsRead
unfolding wide_op number_op
read_core_words value i core =
    ap (λ (is : Bool). (wide_op_by value is).read i) (freezes_not i core)
    ∙ ap (λ (x : Option FloatWord). (number_op_by value x).read i) (no_float_word i core)
    ∙ ap (λ (r : Outcome NumberOp). and_then r (λ x o. Ok (op.Number x, o))) (read_core value i core)

-- ---- names of intrinsics

by_width : (function : IntegerFunction) (bits : Option ℕ) → may_be_named false (with_width function bits) ≡ false
by_width function None = refl
by_width function (Some bits) = by (has_width function bits) where
  by : (has : Bool) → may_be_named false (if has then Some (Integer function bits) else None) ≡ false
  by true = refl
  by false = refl

by_word : (name : Text) (function : Option IntegerFunction) → may_be_named false (with_digits name function) ≡ false
by_word name None = refl
by_word name (Some function) = by_width function (width_of (drop (length (word_of function)) name))

float_width : (function : FloatFunction) (bits : Option ℕ) → may_be_named false (floats.with_width function bits) ≡ false
float_width function None = refl
float_width function (Some bits) = refl

float_by_word : (name : Text) (function : Option FloatFunction) → may_be_named false (floats.with_digits name function) ≡ false
float_by_word name None = refl
float_by_word name (Some function) = float_width function (floats.width_of (drop (length (floats.word_of function)) name))

-- a function of integers or of floating point numbers may not stand
no_numbers : (name : Text) (named : Option Runtime) → may_be_named false named ≡ false → may_be_named false (numbers_named name named) ≡ false
no_numbers name (Some named) none = none
no_numbers name None none = float_by_word name (floats.function_begun name)

-- a function of integers may not stand
no_integers : (name : Text) → may_be_named false (integers_named name) ≡ false
no_integers name = by_word name (function_begun name)

module _ (name : Text) where
  -- it is so of this name
  abbrev Agrees : Text → Type 0
  Agrees x = is_left_out false x ≡ is_core_left_out x

  is_one : (known : Text) → bytes_eq name known ≡ true → Agrees known → Agrees name
  is_one known same h = subst Agrees (sym ((bytes_eq-Decides name known).0 same)) h

  is_none_of : bytes_eq name (codes "dg_alloc") ≡ false → bytes_eq name (codes "dg_safepoint") ≡ false → bytes_eq name (codes "llvm.gcroot") ≡ false
      → bytes_eq name (codes "llvm.gcread") ≡ false → bytes_eq name (codes "llvm.gcwrite") ≡ false → Agrees name
  is_none_of a b c d e = rw (a, b, c, d, e) (ap (λ (may : Bool). is_intrinsic name && not may) (no_numbers name (integers_named name) (no_integers name)))

  names_agree : Agrees name
  names_agree = alloc (bytes_eq name (codes "dg_alloc")) refl where
    gcwrite : (is : Bool) → bytes_eq name (codes "llvm.gcwrite") ≡ is → bytes_eq name (codes "dg_alloc") ≡ false → bytes_eq name (codes "dg_safepoint") ≡ false
        → bytes_eq name (codes "llvm.gcroot") ≡ false → bytes_eq name (codes "llvm.gcread") ≡ false → Agrees name
    gcwrite true e a b c d = is_one (codes "llvm.gcwrite") e refl
    gcwrite false e a b c d = is_none_of a b c d e

    gcread : (is : Bool) → bytes_eq name (codes "llvm.gcread") ≡ is → bytes_eq name (codes "dg_alloc") ≡ false → bytes_eq name (codes "dg_safepoint") ≡ false
        → bytes_eq name (codes "llvm.gcroot") ≡ false → Agrees name
    gcread true d a b c = is_one (codes "llvm.gcread") d refl
    gcread false d a b c = gcwrite (bytes_eq name (codes "llvm.gcwrite")) refl a b c d

    gcroot : (is : Bool) → bytes_eq name (codes "llvm.gcroot") ≡ is → bytes_eq name (codes "dg_alloc") ≡ false → bytes_eq name (codes "dg_safepoint") ≡ false → Agrees name
    gcroot true c a b = is_one (codes "llvm.gcroot") c refl
    gcroot false c a b = gcread (bytes_eq name (codes "llvm.gcread")) refl a b c

    safepoint : (is : Bool) → bytes_eq name (codes "dg_safepoint") ≡ is → bytes_eq name (codes "dg_alloc") ≡ false → Agrees name
    safepoint true b a = is_one (codes "dg_safepoint") b refl
    safepoint false b a = gcroot (bytes_eq name (codes "llvm.gcroot")) refl a b

    alloc : (is : Bool) → bytes_eq name (codes "dg_alloc") ≡ is → Agrees name
    alloc true a = is_one (codes "dg_alloc") a refl
    alloc false a = safepoint (bytes_eq name (codes "dg_safepoint")) refl a

pub read_core_names : AreCoreNamesRead
read_core_names i core =
    ap (λ (is : Bool). if not is then Ok (tt, i) else Err (left_out i.cursor))
    (ap (λ (wide : Bool). is_left_out wide (spelled i.cursor)) core ∙ names_agree (spelled i.cursor))
