-- Where the parts of a type lie in it, counted in words.
use Rattle.std.specs.Prelude.{ℕ, zero, suc, ◌+◌, nat_lt, if◌then◌else◌, Option, Some, None, slice_get, unwrap_or}
use Rattle.ir_ast.specs.declared.ir_type.IrType.{IrType}
use Rattle.ir_ast.specs.declared.ir_type.IrType.TheVariants.{Array, Struct}
use Rattle.ir_ast.specs.declared.argument.Argument.{Argument}
use Rattle.layout.specs.Layouts.{LaidOut}
use Rattle.layout.specs.declared.step.Step.{Step}
use Rattle.layout.specs.declared.step.Step.TheVariants.{Field, Elements}
use Rattle.types.specs.Elements.{type_at, written_out, field_at, index_number}

-- how many words a type has, if it has at most 64
abbrev pub size_of : LaidOut → (written : ℕ) → Option ℕ
size_of program written = unwrap_or (slice_get program.sizes written) None

-- the sum of two numbers of words, if it is at most 64
abbrev pub sum_of : Option ℕ → Option ℕ → Option ℕ
sum_of (Some one) (Some other) = if nat_lt 64 (one + other) then None else Some (one + other)
sum_of _ _ = None

-- how many words lie before the n-th field, from 0, of a struct type that is written out; none where they are more than 64
abbrev pub words_before : LaidOut → Option IrType → (n : ℕ) → Option ℕ
words_before program (Some (Struct first rest)) zero = Some 0
words_before program (Some (Struct first rest)) (suc n) = sum_of (size_of program first) (words_before program (slice_get program.of_module.types rest) n)
words_before program _ n = None

-- how many words lie before the n-th field of a struct type, which may be a name
abbrev pub field_offset : LaidOut → (written n : ℕ) → Option ℕ
field_offset program written n = words_before program (type_at program.of_module (written_out program.of_module written (slice_get program.of_module.types written))) n

-- the step to a field of this type, after this number of words
abbrev pub to_field : (words part : Option ℕ) → Option Step
to_field (Some words) (Some part) = Some (Field words part)
to_field _ _ = None

-- the step to the field with this number, if there is a number
abbrev pub to_field_by : LaidOut → (written : ℕ) → (number : Option ℕ) → Option Step
to_field_by program written None = None
to_field_by program written (Some n) = to_field (field_offset program written n) (field_at program.of_module written n)

-- the step to the elements of an array, of n words each
abbrev pub to_elements : (length part : ℕ) → (words : Option ℕ) → Option Step
to_elements length part (Some words) = Some (Elements length words part)
to_elements length part None = None

-- how an index leads into a type, by what the type is
abbrev pub step_into : LaidOut → (written : ℕ) → Option IrType → Argument → Option Step
step_into program written (Some (Array length part)) index = to_elements length part (size_of program part)
step_into program written _ index = to_field_by program written (index_number program.of_module index)

-- how an index leads from a type to a part of it; none where a size on the way is not known, or there is no such field
abbrev pub step_of : LaidOut → (written : ℕ) → Argument → Option Step
step_of program written index = step_into program written (slice_get program.of_module.types written) index
