-- Texts in which the wide forms may not stand: they are read as if there were no wide forms.
use Rattle.std.specs.Prelude.{◌≡◌, ℕ, Bool, false, not, ◌&&◌, ◌||◌, Option, Some, None, codes}
use Rattle.std.specs.Str.{bytes_eq}
use Rattle.grammar.specs.Grammar.{checked, refuse, look}
use Rattle.ir_ast.specs.declared.numbers.Arithmetic.{Arithmetic}
use Rattle.ir_ast.specs.declared.numbers.NumberOp.{NumberOp}
use Rattle.ir_ast.specs.declared.op.Op.TheVariants as op
use Rattle.ir_forms.specs.Cursor.{kind, left_out, spelled}
use Rattle.ir_forms.specs.Input.{Form, left, unread}
use Rattle.ir_forms.specs.Written.{begins_unread_type, float_written}
use Rattle.ir_forms.specs.Instructions.{wide_op}
use Rattle.ir_forms.specs.Intrinsics.{is_intrinsic}
use Rattle.ir_forms.specs.Names.{not_left_out}
use Rattle.ir_forms.specs.Ops.{as_op}
use Rattle.ir_forms.specs.Numbers.{arithmetic, arithmetic_of, integer_op, resized}
use Rattle.ir_forms.specs.declared.input.Input.{Input}
use Rattle.ir_tokens.specs.Bytes.{Text}
use Rattle.ir_tokens.specs.Tokens.{IsLexed}
use Rattle.ir_tokens.specs.declared.lexed.Lexed.{Lexed}
use Rattle.ir_text.specs.ItemsOfText.{whole}
use Rattle.ir_text.specs.Late.{late_fault}
use Rattle.ir_text.specs.Read.{start_in}
use Rattle.name_text.specs.Readings.{AreBytes}

-- an operation of two integers, if the word names one of the six, or else a change of width
abbrev pub core_by : ℕ → Option Arithmetic → Form NumberOp
core_by value None = resized value
core_by value (Some x) = arithmetic x value

-- an operation on integers, where there are no wide forms
abbrev pub core_op : ℕ → Form NumberOp
core_op value = look (λ i. arithmetic_of (kind i.cursor)) (core_by value)

-- where the wide forms may not stand, the same operation is read, or the same fault is found
abbrev pub AreCoreRead : Type 0
AreCoreRead = (value : ℕ) (i : Input) → i.wide ≡ false → (integer_op value).read i ≡ (core_op value).read i

-- and so it is after a word that begins a wide form
abbrev pub AreCoreWordsRead : Type 0
AreCoreWordsRead = (value : ℕ) (i : Input) → i.wide ≡ false → (wide_op value).read i ≡ (as_op op.Number (core_op value)).read i

-- and a word begins no type of floating point numbers
abbrev pub AreCoreTypesRead : Type 0
AreCoreTypesRead = (room : ℕ) (i : Input) → i.wide ≡ false → (float_written room).read i ≡ (refuse {left = left} (unread begins_unread_type)).read i

-- of the intrinsics, all but three of the runtime are left out
abbrev pub is_core_left_out : Text → Bool
is_core_left_out name = is_intrinsic name && not (bytes_eq name (codes "llvm.gcroot") || bytes_eq name (codes "llvm.gcread") || bytes_eq name (codes "llvm.gcwrite"))

-- a global name that may be defined or called, where there are no wide forms
abbrev pub core_name : Form (Unit {0})
core_name = checked (λ i. not (is_core_left_out (spelled i.cursor))) (λ i. left_out i.cursor)

-- and the same names may be defined and called
abbrev pub AreCoreNamesRead : Type 0
AreCoreNamesRead = (i : Input) → i.wide ≡ false → not_left_out.read i ≡ core_name.read i

-- and where a text is read, whether they may stand is at its end as it was before its first token
abbrev pub FormsStay : Type 0
FormsStay = (wide : Bool) (bytes : Text) (lexed : Lexed) (o : Input) → AreBytes bytes → IsLexed bytes lexed → whole.says (start_in wide bytes lexed) tt o → late_fault o ≡ None → o.wide ≡ wide
