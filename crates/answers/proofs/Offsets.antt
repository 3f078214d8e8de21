-- Where parts lie does not depend on functions.
use Rattle.std.specs.Prelude.{List, None, Option, Some, refl, slice_get, suc, zero, ℕ, ◌≡◌}
use Rattle.ir_ast.specs.declared.argument.Argument.{Argument}
use Rattle.ir_ast.specs.declared.function.Function.{Function}
use Rattle.ir_ast.specs.declared.ir_type.IrType.{IrType}
use Rattle.ir_ast.specs.declared.ir_type.IrType.TheVariants.{Array, Struct}
use Rattle.layout.specs.Layouts.{LaidOut}
use Rattle.layout.specs.Offsets.{field_offset, size_of, step_into, step_of, sum_of, to_elements, to_field, to_field_by, words_before}
use Rattle.answers.proofs.Types.{field_at_same, index_number_same, type_at_same, written_out_same}
use Rattle.answers.specs.Local.{laid_with}

pub size_of_same : (program : LaidOut) (fs : List Function) → size_of (laid_with program fs) ≡ size_of program
size_of_same program fs = refl

words_before_by : (program : LaidOut) (fs : List Function) (type : Option IrType) (n : ℕ) → words_before (laid_with program fs) type n ≡ words_before program type n
words_before_by program fs (Some (Struct first rest)) zero = refl
words_before_by program fs (Some (Struct first rest)) (suc n) = λ along. sum_of (size_of_same program fs along first) (words_before_by program fs (slice_get program.of_module.types rest) n along)
words_before_by program fs _ n = refl

pub words_before_same : (program : LaidOut) (fs : List Function) → words_before (laid_with program fs) ≡ words_before program
words_before_same program fs = λ along type n. words_before_by program fs type n along

pub field_offset_same : (program : LaidOut) (fs : List Function) → field_offset (laid_with program fs) ≡ field_offset program
field_offset_same program fs = λ along written n. words_before_same program fs along (type_at_same program.of_module fs along (written_out_same program.of_module fs along written (slice_get program.of_module.types written))) n

to_field_by_by : (program : LaidOut) (fs : List Function) (written : ℕ) (number : Option ℕ) → to_field_by (laid_with program fs) written number ≡ to_field_by program written number
to_field_by_by program fs written None = refl
to_field_by_by program fs written (Some n) = λ along. to_field (field_offset_same program fs along written n) (field_at_same program.of_module fs along written n)

pub to_field_by_same : (program : LaidOut) (fs : List Function) → to_field_by (laid_with program fs) ≡ to_field_by program
to_field_by_same program fs = λ along written number. to_field_by_by program fs written number along

step_into_by : (program : LaidOut) (fs : List Function) (written : ℕ) (type : Option IrType) (index : Argument) → step_into (laid_with program fs) written type index ≡ step_into program written type index
step_into_by program fs written (Some (Array length part)) index = λ along. to_elements length part (size_of_same program fs along part)
step_into_by program fs written _ index = λ along. to_field_by_same program fs along written (index_number_same program.of_module fs along index)

pub step_into_same : (program : LaidOut) (fs : List Function) → step_into (laid_with program fs) ≡ step_into program
step_into_same program fs = λ along written type index. step_into_by program fs written type index along

pub step_of_same : (program : LaidOut) (fs : List Function) → step_of (laid_with program fs) ≡ step_of program
step_of_same program fs = λ along written index. step_into_same program fs along written (slice_get program.of_module.types written) index
