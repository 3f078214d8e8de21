-- How types are printed where they say how words lie in a cell: each number is a word of 64 bits.
use Rattle.std.specs.Prelude.{ℕ, zero, suc, [], Option, Some, None, slice_get, codes}
use Rattle.ir_ast.specs.declared.ir_type.IrType.{IrType}
use Rattle.ir_ast.specs.declared.ir_type.IrType.TheVariants.{Void, Integer, Float, Double, Pointer, Opaque, Array, EmptyStruct, Struct, Named}
use Rattle.ir_ast.specs.declared.module.Module.{Module}
use Rattle.ir_tokens.specs.Bytes.{Text}
use Rattle.ir_print.specs.Names.{struct_text}
use Rattle.ir_print.specs.Types.{array_text, struct_type_text}

-- a type, whose parts are shown by this function: a number is i64, and a pointer is ptr
abbrev pub words_by : (ℕ → Text) → Module → Option IrType → Text
words_by shown m None = []
words_by shown m (Some Void) = codes "void"
words_by shown m (Some (Integer bits)) = codes "i64"
words_by shown m (Some Float) = codes "i64"
words_by shown m (Some Double) = codes "i64"
words_by shown m (Some (Pointer part)) = codes "ptr"
words_by shown m (Some Opaque) = codes "ptr"
words_by shown m (Some (Array count part)) = array_text shown count part
words_by shown m (Some EmptyStruct) = codes "{}"
words_by shown m (Some (Struct first rest)) = struct_type_text shown m first rest
words_by shown m (Some (Named name)) = struct_text m name

-- a type of at most n levels, in words
unfoldable pub words_within : ℕ → Module → (written : ℕ) → Text
words_within zero m written = []
words_within (suc levels) m written = words_by (words_within levels m) m (slice_get m.types written)

-- a type, which has at most 64 levels, in words
abbrev pub words_text : Module → (written : ℕ) → Text
words_text = words_within 64
