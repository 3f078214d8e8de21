-- Forms that are left as they are where nothing of them is there.
use Rattle.std.proofs.Common.{◌≡◌, ℕ, ◌<◌, ◌^◌, Bool, true, false, ◌&&◌, Some, Ok, refl, arith}
use Rattle.std.specs.Prelude.{nat_lt}
use Rattle.std.proofs.lemmas.Bool.Decides.{nat_tests}
use Rattle.grammar.specs.Many.{many_from}
use Rattle.ir_tokens.specs.declared.token.Kind.{Kind}
use Rattle.ir_tokens.specs.declared.token.Kind.TheVariants as k
use Rattle.ir_ast.specs.Types.{place_of_type}
use Rattle.ir_ast.specs.declared.ir_type.IrType.{IrType}
use Rattle.ir_forms.specs.declared.decorating.Spot.{Spot}
use Rattle.ir_forms.specs.declared.decorating.Trail.{Trail}
use Rattle.ir_forms.specs.declared.input.Input.{Input}
use Rattle.ir_forms.specs.Cursor.{kind, sees, begins_line}
use Rattle.ir_forms.specs.Decorations.{begins_decoration, decorations, flags, trailing}
use Rattle.ir_forms.specs.Records.{begins_record, debug_records}
use Rattle.ir_forms.specs.ManyWith.{many_with_from}
use Rattle.ir_forms.specs.Starts.{is_flag_of}
use Rattle.ir_forms.specs.Written.{place_in_table, with_type_interned, has_other_pointer, intern, intern_pointer, is_second_kind}

pub no_decorations : (s : Spot) (i : Input) → begins_decoration s (begins_line i.cursor) (kind i.cursor) ≡ false → (decorations s).read i ≡ Ok (tt, i)
unfolding decorations many_with_from
no_decorations s i e = rw e refl

pub no_flags : (x : Kind) (i : Input) → is_flag_of x (kind i.cursor) ≡ false → (flags x).read i ≡ Ok (tt, i)
unfolding flags many_with_from
no_flags x i e = rw e refl

pub no_records : (i : Input) → begins_record i ≡ false → debug_records.read i ≡ Ok (tt, i)
unfolding debug_records many_from
no_records i e = rw e refl

pub no_trail : (t : Trail) (i : Input) → sees k.Comma i.cursor ≡ false → (trailing t).read i ≡ Ok (tt, i)
unfolding trailing many_with_from
no_trail t i e = rw e refl

no_other : (b : Bool) → (b && false) ≡ false
no_other true = refl
no_other false = refl

-- a pointer type that the table has is of no other kind, and leaves the table as it is
pub known_pointer : (start : ℕ) (t : IrType) (id : ℕ) (i : Input) → place_of_type t i.types ≡ Some id → id < 2 ^ 32 → (intern_pointer start t).read i ≡ Ok (id, i)
unfolding intern_pointer is_second_kind intern
known_pointer start t id i e less =
    let few : nat_lt id 4294967296 ≡ true = grind (arith, nat_tests) in
    let value : place_in_table t i ≡ id = rw e refl in
    let state : with_type_interned t i ≡ i = rw e refl in
    rw (e, no_other (has_other_pointer t i.types), few) cc
