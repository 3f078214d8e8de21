-- The words that have kinds of their own.
use Rattle.std.specs.Prelude.{ℕ, Bool, false, ◌&&◌, ◌||◌, ◌==◌, if◌then◌else◌, List, [], ◌∷◌, ◌++◌, Option, Some, None, codes, map, unwrap_or}
use Rattle.std.specs.List.{list_all}
use Rattle.std.specs.Str.{bytes_eq}
use Rattle.ir_tokens.specs.declared.token.Kind.{Kind}
use Rattle.ir_tokens.specs.declared.token.Kind.TheVariants as k
use Rattle.ir_tokens.specs.Bytes.{Text, within, is_digit}

-- the words of items
abbrev pub item_words : List (Text × Kind)
item_words =
    (codes "define", k.Define) ∷ (codes "declare", k.Declare) ∷ (codes "type", k.Type) ∷ (codes "global", k.Global) ∷
    (codes "constant", k.Constant) ∷ (codes "source_filename", k.SourceFilename) ∷ (codes "target", k.Target) ∷
    (codes "datalayout", k.Datalayout) ∷ (codes "triple", k.Triple) ∷ (codes "attributes", k.Attributes) ∷
    (codes "comdat", k.Comdat) ∷ (codes "gc", k.Gc) ∷ (codes "external", k.External) ∷
    (codes "extern_weak", k.ExternWeak) ∷ []

-- the words of types
abbrev pub type_words : List (Text × Kind)
type_words =
    (codes "void", k.Void) ∷ (codes "label", k.Label) ∷ (codes "x", k.X) ∷ (codes "ptr", k.Ptr) ∷ []

-- the words of constants
abbrev pub constant_words : List (Text × Kind)
constant_words =
    (codes "null", k.Null) ∷ (codes "true", k.True) ∷ (codes "false", k.False) ∷ (codes "undef", k.Undef) ∷
    (codes "zeroinitializer", k.Zeroinitializer) ∷ []

-- the words of instructions
abbrev pub instruction_words : List (Text × Kind)
instruction_words =
    (codes "alloca", k.Alloca) ∷ (codes "load", k.Load) ∷ (codes "store", k.Store) ∷
    (codes "getelementptr", k.Getelementptr) ∷ (codes "bitcast", k.Bitcast) ∷ (codes "add", k.Add) ∷
    (codes "sub", k.Sub) ∷ (codes "mul", k.Mul) ∷ (codes "and", k.And) ∷ (codes "or", k.Or) ∷ (codes "xor", k.Xor) ∷
    (codes "zext", k.Zext) ∷ (codes "sext", k.Sext) ∷ (codes "trunc", k.Trunc) ∷ (codes "icmp", k.Icmp) ∷
    (codes "select", k.Select) ∷ (codes "phi", k.Phi) ∷ (codes "call", k.Call) ∷ (codes "br", k.Br) ∷
    (codes "switch", k.Switch) ∷ (codes "ret", k.Ret) ∷ (codes "unreachable", k.Unreachable) ∷ (codes "to", k.To) ∷ []

-- the conditions of icmp
abbrev pub condition_words : List (Text × Kind)
condition_words =
    (codes "eq", k.Eq) ∷ (codes "ne", k.Ne) ∷ (codes "ugt", k.Ugt) ∷ (codes "uge", k.Uge) ∷ (codes "ult", k.Ult) ∷
    (codes "ule", k.Ule) ∷ (codes "sgt", k.Sgt) ∷ (codes "sge", k.Sge) ∷ (codes "slt", k.Slt) ∷ (codes "sle", k.Sle) ∷ []

-- the words that are read without effect
abbrev pub decoration_words : List (Text × Kind)
decoration_words =
    (codes "align", k.Align) ∷ (codes "inbounds", k.Inbounds) ∷ (codes "volatile", k.Volatile) ∷
    (codes "nsw", k.Nsw) ∷ (codes "nuw", k.Nuw) ∷ (codes "nusw", k.Nusw) ∷ (codes "nneg", k.Nneg) ∷
    (codes "disjoint", k.Disjoint) ∷ (codes "samesign", k.Samesign) ∷ (codes "tail", k.Tail) ∷ (codes "notail", k.Notail) ∷ []

-- words of forms that are left out
abbrev pub left_out : List Text → List (Text × Kind)
left_out = map (λ word. (word, k.LeftOut))

-- left out: division, remainder and shifts
abbrev pub division_words : List Text
division_words =
    codes "sdiv" ∷ codes "udiv" ∷ codes "fdiv" ∷ codes "srem" ∷ codes "urem" ∷ codes "frem" ∷ codes "shl" ∷
    codes "lshr" ∷ codes "ashr" ∷ []

-- left out: floating point
abbrev pub float_words : List Text
float_words =
    codes "fadd" ∷ codes "fsub" ∷ codes "fmul" ∷ codes "fneg" ∷ codes "fcmp" ∷ codes "fptrunc" ∷ codes "fpext" ∷
    codes "fptoui" ∷ codes "fptosi" ∷ codes "uitofp" ∷ codes "sitofp" ∷ codes "half" ∷ codes "bfloat" ∷
    codes "float" ∷ codes "double" ∷ codes "x86_fp80" ∷ codes "fp128" ∷ codes "ppc_fp128" ∷ []

-- left out: vectors and values in parts
abbrev pub part_words : List Text
part_words =
    codes "x86_mmx" ∷ codes "x86_amx" ∷ codes "extractelement" ∷ codes "insertelement" ∷ codes "shufflevector" ∷ codes "extractvalue" ∷
    codes "insertvalue" ∷ []

-- left out: pointers as numbers or with signatures, and address spaces
abbrev pub pointer_words : List Text
pointer_words =
    codes "ptrtoint" ∷ codes "ptrtoaddr" ∷ codes "ptrauth" ∷ codes "inttoptr" ∷ codes "addrspacecast" ∷ codes "addrspace" ∷ []

-- left out: other ways of control
abbrev pub control_words : List Text
control_words =
    codes "invoke" ∷ codes "landingpad" ∷ codes "resume" ∷ codes "musttail" ∷ codes "indirectbr" ∷ codes "callbr" ∷
    codes "catchpad" ∷ codes "catchret" ∷ codes "catchswitch" ∷ codes "cleanuppad" ∷ codes "cleanupret" ∷
    codes "personality" ∷ codes "prefix" ∷ codes "prologue" ∷ []

-- left out: threads
abbrev pub thread_words : List Text
thread_words =
    codes "atomic" ∷ codes "fence" ∷ codes "cmpxchg" ∷ codes "atomicrmw" ∷ codes "thread_local" ∷ []

-- left out: other words
abbrev pub further_words : List Text
further_words =
    codes "asm" ∷ codes "module" ∷ codes "freeze" ∷ codes "va_arg" ∷ codes "blockaddress" ∷
    codes "dso_local_equivalent" ∷ codes "no_cfi" ∷ codes "poison" ∷ codes "opaque" ∷ codes "byval" ∷ codes "sret" ∷
    codes "inalloca" ∷ codes "preallocated" ∷ codes "metadata" ∷ codes "token" ∷ codes "alias" ∷ codes "ifunc" ∷
    codes "uselistorder" ∷ codes "uselistorder_bb" ∷ []

-- each word that has a kind of its own, with that kind
unfoldable pub keywords : List (Text × Kind)
keywords =
    item_words ++ type_words ++ constant_words ++ instruction_words ++ condition_words ++ decoration_words
    ++ left_out (division_words ++ float_words ++ part_words ++ pointer_words ++ control_words ++ thread_words ++ further_words)

-- the kind of a word in a list
abbrev pub kind_in : List (Text × Kind) → Text → Option Kind
kind_in [] word = None
kind_in (entry ∷ entries) word = if bytes_eq entry.0 word then Some entry.1 else kind_in entries word

-- digits, at least one
abbrev pub is_number : Text → Bool
is_number [] = false
is_number (b ∷ bs) = is_digit b && list_all is_digit bs

-- `i` and a number
abbrev pub is_integer_type : Text → Bool
is_integer_type [] = false
is_integer_type (b ∷ bs) = b == 105 && is_number bs

-- `-` and a number
abbrev pub is_negative_number : Text → Bool
is_negative_number [] = false
is_negative_number (b ∷ bs) = b == 45 && is_number bs

-- a lower-case letter
abbrev pub is_lowercase : ℕ → Bool
is_lowercase b = within 97 122 b

-- a byte that a lower-case word may have
abbrev pub is_lowercase_part : ℕ → Bool
is_lowercase_part b = is_lowercase b || is_digit b || b == 95

-- a lower-case letter, and then lower-case letters, digits and `_`
abbrev pub is_lowercase_word : Text → Bool
is_lowercase_word [] = false
is_lowercase_word (b ∷ bs) = is_lowercase b && list_all is_lowercase_part bs

-- the kind of a word that has no kind of its own
abbrev pub other_word : Text → Kind
other_word word =
    if is_negative_number word then k.Number
    else (if is_lowercase_word word then k.LowercaseWord
    else (if bytes_eq word (codes "...") then k.Dots
    else k.Word))

-- the kind of what is written like a plain name and has no sign before it
unfoldable pub word_kind : Text → Kind
word_kind word = if is_integer_type word then k.IntegerType else unwrap_or (kind_in keywords word) (other_word word)
