-- What is asked of bitcasts, and what is known after them, does not depend on functions.
use Rattle.std.specs.Prelude.{List, None, Option, Some, false, refl, ℕ, ◌&&◌, ◌==◌, ◌||◌, ◌≡◌}
use Rattle.block_rules.specs.Casts.{after_cast, cast_constant, cast_number, casts_base, casts_constant, casts_global, casts_known, casts_local, casts_null, casts_operand, casts_other, casts_slot, casts_to, casts_words, layout_of_null, may_cast}
use Rattle.block_rules.specs.Integers.{define_number}
use Rattle.block_rules.specs.Operands.{known_of}
use Rattle.type_kinds.specs.WantedWords.{layout_of_word}
use Rattle.block_rules.specs.Places.{define_held}
use Rattle.type_kinds.specs.TypeKinds.{fits_layout, is_bits, may_be_reference}
use Rattle.fact_tables.specs.Rows.{known_at}
use Rattle.facts.specs.Facts.{FactSet, define}
use Rattle.fact_tables.specs.declared.known.Known.{Known}
use Rattle.fact_tables.specs.declared.known.Known.TheVariants.{Address, Cell, GlobalAddress, Nothing, Null, Number}
use Rattle.ir_ast.specs.declared.function.Function.{Function}
use Rattle.ir_ast.specs.declared.module.Module.{Module}
use Rattle.ir_ast.specs.declared.operand.Constant.{Constant}
use Rattle.ir_ast.specs.declared.operand.Constant.TheVariants.{Float as Floating, Null as NullWritten, Number as Numeral, Truth}
use Rattle.ir_ast.specs.declared.operand.Operand.{Operand}
use Rattle.ir_ast.specs.declared.operand.Operand.TheVariants.{CastGlobal, Constant as Written, Local}
use Rattle.layout.specs.Globals.{global_word}
use Rattle.layout.specs.Layouts.{LaidOut}
use Rattle.pools.specs.declared.word_set.WordSet.{WordSet}
use Rattle.shadow_stack.specs.Slots.{SlotTable, slot_of}
use Rattle.answers.proofs.Operands.{is_outside_same, kind_of_same, known_in_same, place_kind_same, slot_kind_same}
use Rattle.answers.specs.Local.{laid_with, with_functions}

pub casts_null_same : (m : Module) (fs : List Function) → casts_null (with_functions m fs) ≡ casts_null m
casts_null_same m fs = λ along from to. (may_be_reference (kind_of_same m fs along from) && may_be_reference (kind_of_same m fs along to))
    || (may_be_reference (place_kind_same m fs along from) && may_be_reference (place_kind_same m fs along to))

casts_constant_by : (m : Module) (fs : List Function) (from : ℕ) (to : ℕ) (constant : Constant) → casts_constant (with_functions m fs) from to constant ≡ casts_constant m from to constant
casts_constant_by m fs from to NullWritten = λ along. casts_null_same m fs along from to
casts_constant_by m fs from to _ = refl

pub casts_constant_same : (m : Module) (fs : List Function) → casts_constant (with_functions m fs) ≡ casts_constant m
casts_constant_same m fs = λ along from to constant. casts_constant_by m fs from to constant along

casts_base_by : (p : LaidOut) (fs : List Function) (to : ℕ) (words : WordSet) (base : Known) → casts_base (laid_with p fs) to words base ≡ casts_base p to words base
casts_base_by p fs to words (Cell class layout stale) = λ along. casts_words p.layouts layout words (place_kind_same p.of_module fs along to)
casts_base_by p fs to words _ = refl

pub casts_base_same : (p : LaidOut) (fs : List Function) → casts_base (laid_with p fs) ≡ casts_base p
casts_base_same p fs = λ along to words base. casts_base_by p fs to words base along

pub casts_global_same : (m : Module) (fs : List Function) → casts_global (with_functions m fs) ≡ casts_global m
casts_global_same m fs = λ along to symbol. casts_to (layout_of_word (global_word m symbol)) (place_kind_same m fs along to)

casts_operand_by : (m : Module) (fs : List Function) (operand : Operand) → casts_operand (with_functions m fs) operand ≡ casts_operand m operand
casts_operand_by m fs (CastGlobal from symbol to) = λ along. (from == to) || casts_global_same m fs along to symbol || is_outside_same m fs along symbol
casts_operand_by m fs _ = refl

pub casts_operand_same : (m : Module) (fs : List Function) → casts_operand (with_functions m fs) ≡ casts_operand m
casts_operand_same m fs = λ along operand. casts_operand_by m fs operand along

casts_known_by : (p : LaidOut) (fs : List Function) (facts : FactSet) (from : ℕ) (to : ℕ) (known : Known) → casts_known (laid_with p fs) facts from to known ≡ casts_known p facts from to known
casts_known_by p fs facts from to Nothing = refl
casts_known_by p fs facts from to (Number bits below) = λ along. is_bits bits (kind_of_same p.of_module fs along from) && is_bits bits (kind_of_same p.of_module fs along to)
casts_known_by p fs facts from to (Cell class layout stale) = λ along. fits_layout layout (kind_of_same p.of_module fs along to)
casts_known_by p fs facts from to Null = λ along. may_be_reference (kind_of_same p.of_module fs along to)
casts_known_by p fs facts from to (Address base words) = λ along. casts_base_same p fs along to words (known_at facts.values base)
casts_known_by p fs facts from to (GlobalAddress symbol) = λ along. casts_global_same p.of_module fs along to symbol

pub casts_known_same : (p : LaidOut) (fs : List Function) → casts_known (laid_with p fs) ≡ casts_known p
casts_known_same p fs = λ along facts from to known. casts_known_by p fs facts from to known along

casts_local_by : (p : LaidOut) (fs : List Function) (slots : SlotTable) (facts : FactSet) (from : ℕ) (to : ℕ) (known : Known) (slot : Option ℕ) → casts_local (laid_with p fs) slots facts from to known slot ≡ casts_local p slots facts from to known slot
casts_local_by p fs slots facts from to known None = λ along. casts_known_same p fs along facts from to known
casts_local_by p fs slots facts from to known (Some s) = λ along. casts_slot (slot_kind_same p.of_module fs along slots s) (place_kind_same p.of_module fs along to)

pub casts_local_same : (p : LaidOut) (fs : List Function) → casts_local (laid_with p fs) ≡ casts_local p
casts_local_same p fs = λ along slots facts from to known slot. casts_local_by p fs slots facts from to known slot along

casts_other_by : (p : LaidOut) (fs : List Function) (slots : SlotTable) (facts : FactSet) (from : ℕ) (to : ℕ) (operand : Operand) → casts_other (laid_with p fs) slots facts from to operand ≡ casts_other p slots facts from to operand
casts_other_by p fs slots facts from to (Written c) = λ along. casts_constant_same p.of_module fs along from to c
casts_other_by p fs slots facts from to (Local v) = λ along. casts_local_same p fs along slots facts from to (known_at facts.values v) (slot_of slots v)
casts_other_by p fs slots facts from to operand = λ along. casts_known_same p fs along facts from to (known_of facts operand)

pub casts_other_same : (p : LaidOut) (fs : List Function) → casts_other (laid_with p fs) ≡ casts_other p
casts_other_same p fs = λ along slots facts from to operand. casts_other_by p fs slots facts from to operand along

pub may_cast_same : (p : LaidOut) (fs : List Function) → may_cast (laid_with p fs) ≡ may_cast p
may_cast_same p fs = λ along slots facts from to operand. (from == to) || casts_other_same p fs along slots facts from to operand

cast_constant_by : (m : Module) (fs : List Function) (v : ℕ) (from : ℕ) (to : ℕ) (constant : Constant) (facts : FactSet) → cast_constant (with_functions m fs) v from to constant facts ≡ cast_constant m v from to constant facts
cast_constant_by m fs v from to (Numeral n) facts = λ along. cast_number v n (kind_of_same m fs along to) facts
cast_constant_by m fs v from to (Floating n) facts = λ along. define_number v (kind_of_same m fs along to) None facts
cast_constant_by m fs v from to (Truth b) facts = refl
cast_constant_by m fs v from to NullWritten facts = λ along. define_held v (layout_of_null (kind_of_same m fs along from) (kind_of_same m fs along to)) false facts

pub cast_constant_same : (m : Module) (fs : List Function) → cast_constant (with_functions m fs) ≡ cast_constant m
cast_constant_same m fs = λ along v from to constant facts. cast_constant_by m fs v from to constant facts along

after_cast_by : (m : Module) (fs : List Function) (slots : SlotTable) (v : ℕ) (from : ℕ) (to : ℕ) (operand : Operand) (facts : FactSet) → after_cast (with_functions m fs) slots v from to operand facts ≡ after_cast m slots v from to operand facts
after_cast_by m fs slots v from to (Written c) facts = λ along. cast_constant_same m fs along v from to c facts
after_cast_by m fs slots v from to (Local u) facts = refl
after_cast_by m fs slots v from to operand facts = λ along. define v (known_in_same m fs along facts operand) facts

pub after_cast_same : (m : Module) (fs : List Function) → after_cast (with_functions m fs) ≡ after_cast m
after_cast_same m fs = λ along slots v from to operand facts. after_cast_by m fs slots v from to operand facts along
