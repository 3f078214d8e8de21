-- Kinds of tokens with which forms begin that are left out, and of flags.
use Rattle.std.specs.Prelude.{ℕ, Bool, true, false, ◌||◌, List, codes}
use Rattle.std.specs.Str.{bytes_eq}
use Rattle.ir_tokens.specs.declared.token.Kind.{Kind}
use Rattle.ir_tokens.specs.declared.token.Kind.TheVariants as k
use Rattle.ir_forms.specs.Cursor.{same_kind}

-- any type, also one that is left out
abbrev pub begins_any_type : Kind → Bool
begins_any_type k.IntegerType = true
begins_any_type k.LocalName = true
begins_any_type k.LocalNumber = true
begins_any_type k.OpenSquare = true
begins_any_type k.OpenBrace = true
begins_any_type k.Less = true
begins_any_type k.Ptr = true
begins_any_type _ = false

-- a word of a type that is left out
abbrev pub is_left_out_type : List ℕ → Bool
is_left_out_type word =
    bytes_eq word (codes "half") || bytes_eq word (codes "bfloat") || bytes_eq word (codes "float") || bytes_eq word (codes "double")
    || bytes_eq word (codes "x86_fp80") || bytes_eq word (codes "fp128") || bytes_eq word (codes "ppc_fp128")
    || bytes_eq word (codes "x86_mmx") || bytes_eq word (codes "x86_amx")
    || bytes_eq word (codes "metadata") || bytes_eq word (codes "token")

-- a token of this kind and spelling makes a level of a type, which is of any form
abbrev pub makes_level : Kind → List ℕ → Bool
makes_level k.Void word = true
makes_level k.Label word = true
makes_level k.Target word = true
makes_level k.LeftOut word = is_left_out_type word
makes_level x word = begins_any_type x

-- what is called in place of a function by its name
abbrev pub is_indirect_callee : Kind → Bool
is_indirect_callee k.LocalName = true
is_indirect_callee k.LocalNumber = true
is_indirect_callee k.Bitcast = true
is_indirect_callee k.OpenRound = true
is_indirect_callee _ = false

-- the instruction with this word has a result that may wrap
abbrev pub may_wrap : Kind → Bool
may_wrap k.Add = true
may_wrap k.Sub = true
may_wrap k.Mul = true
may_wrap k.Trunc = true
may_wrap k.LeftOut = true
may_wrap _ = false

-- a flag of the instruction with the word x: it says when the result is poison
abbrev pub is_flag_of : (x flag : Kind) → Bool
is_flag_of x k.Nuw = may_wrap x || same_kind x k.Getelementptr
is_flag_of x k.Nsw = may_wrap x
is_flag_of x k.Nusw = same_kind x k.Getelementptr
is_flag_of x k.Inbounds = same_kind x k.Getelementptr
is_flag_of x k.Nneg = same_kind x k.Zext
is_flag_of x k.Disjoint = same_kind x k.Or
is_flag_of x k.Samesign = same_kind x k.Icmp
is_flag_of x _ = false
