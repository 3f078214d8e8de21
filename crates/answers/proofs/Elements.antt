-- What is asked of a getelementptr, and what is known after it, does not depend on functions.
use Rattle.std.specs.List.{list_all}
use Rattle.std.specs.Prelude.{List, None, Option, Some, [], if◌then◌else◌, is_some, length, refl, slice_get, ℕ, ◌&&◌, ◌∷◌, ◌≡◌}
use Rattle.block_rules.specs.Elements.{after_element, are_indices, array_stride, base_layout, counted_words, define_words, element_of_known, element_part, element_words, is_index, is_zero, leads_from, leads_into, may_lead, part_led, part_reached, start_of, stays_at_first, stays_in, step_part, step_stride, strode, words_after}
use Rattle.block_rules.specs.Operands.{number_of}
use Rattle.types.specs.Elements.{is_integer}
use Rattle.fact_tables.specs.Rows.{known_at}
use Rattle.facts.specs.Facts.{FactSet, define}
use Rattle.fact_tables.specs.declared.known.Known.{Known}
use Rattle.fact_tables.specs.declared.known.Known.TheVariants.{GlobalAddress, Number}
use Rattle.ir_ast.specs.declared.argument.Argument.{Argument}
use Rattle.ir_ast.specs.declared.function.Function.{Function}
use Rattle.ir_ast.specs.declared.ir_type.IrType.{IrType}
use Rattle.ir_ast.specs.declared.ir_type.IrType.TheVariants.{Array}
use Rattle.ir_ast.specs.declared.module.Module.{Module}
use Rattle.ir_ast.specs.declared.operand.Operand.{Operand}
use Rattle.ir_ast.specs.declared.operand.Operand.TheVariants.{Local}
use Rattle.layout.specs.Layouts.{LaidOut}
use Rattle.pools.specs.declared.word_set.WordSet.{WordSet}
use Rattle.answers.proofs.Offsets.{size_of_same, step_of_same}
use Rattle.answers.proofs.Operands.{is_value_same, kind_of_same, known_in_same}
use Rattle.answers.proofs.Types.{part_at_same}
use Rattle.answers.specs.Local.{laid_with, with_functions}

words_after_by : (p : LaidOut) (fs : List Function) (facts : FactSet) (part : Option ℕ) (indices : List Argument) (words : Option WordSet) → words_after (laid_with p fs) facts part indices words ≡ words_after p facts part indices words
words_after_by p fs facts None indices words = refl
words_after_by p fs facts (Some written) [] words = refl
words_after_by p fs facts (Some written) (index ∷ indices) None = refl
words_after_by p fs facts (Some written) (index ∷ indices) (Some words) = λ along. let step = step_of_same p fs along written index in
    words_after_by p fs facts (step_part step) indices (strode (step_stride facts (kind_of_same p.of_module fs along index.written) index step) words) along

pub words_after_same : (p : LaidOut) (fs : List Function) → words_after (laid_with p fs) ≡ words_after p
words_after_same p fs = λ along facts part indices words. words_after_by p fs facts part indices words along

element_words_by : (p : LaidOut) (fs : List Function) (facts : FactSet) (source : ℕ) (arguments : List Argument) (start : WordSet) → element_words (laid_with p fs) facts source arguments start ≡ element_words p facts source arguments start
element_words_by p fs facts source [] start = refl
element_words_by p fs facts source (first ∷ []) start = refl
element_words_by p fs facts source (first ∷ index ∷ indices) start = λ along. if is_zero (number_of first.operand) then words_after_same p fs along facts (Some source) (index ∷ indices) (Some start) else None

pub element_words_same : (p : LaidOut) (fs : List Function) → element_words (laid_with p fs) ≡ element_words p
element_words_same p fs = λ along facts source arguments start. element_words_by p fs facts source arguments start along

leads_into_by : (p : LaidOut) (fs : List Function) (facts : FactSet) (type : Option IrType) (index : Argument) → leads_into (laid_with p fs) facts type index ≡ leads_into p facts type index
leads_into_by p fs facts (Some (Array length part)) index = λ along. is_some (array_stride facts (counted_words (size_of_same p fs along part)) length (kind_of_same p.of_module fs along index.written) index.operand)
leads_into_by p fs facts _ index = refl

pub leads_into_same : (p : LaidOut) (fs : List Function) → leads_into (laid_with p fs) ≡ leads_into p
leads_into_same p fs = λ along facts type index. leads_into_by p fs facts type index along

pub part_led_same : (p : LaidOut) (fs : List Function) → part_led (laid_with p fs) ≡ part_led p
part_led_same p fs = λ along facts written index. if leads_into_same p fs along facts (slice_get p.of_module.types written) index then part_at_same p.of_module fs along written index else None

part_reached_by : (p : LaidOut) (fs : List Function) (facts : FactSet) (part : Option ℕ) (indices : List Argument) → part_reached (laid_with p fs) facts part indices ≡ part_reached p facts part indices
part_reached_by p fs facts None indices = refl
part_reached_by p fs facts (Some written) [] = refl
part_reached_by p fs facts (Some written) (index ∷ indices) = λ along. part_reached_by p fs facts (part_led_same p fs along facts written index) indices along

pub part_reached_same : (p : LaidOut) (fs : List Function) → part_reached (laid_with p fs) ≡ part_reached p
part_reached_same p fs = λ along facts part indices. part_reached_by p fs facts part indices along

element_part_by : (p : LaidOut) (fs : List Function) (facts : FactSet) (source : ℕ) (arguments : List Argument) → element_part (laid_with p fs) facts source arguments ≡ element_part p facts source arguments
element_part_by p fs facts source [] = refl
element_part_by p fs facts source (first ∷ []) = refl
element_part_by p fs facts source (first ∷ index ∷ indices) = λ along. if is_zero (number_of first.operand) then part_reached_same p fs along facts (Some source) (index ∷ indices) else None

pub element_part_same : (p : LaidOut) (fs : List Function) → element_part (laid_with p fs) ≡ element_part p
element_part_same p fs = λ along facts source arguments. element_part_by p fs facts source arguments along

leads_from_by : (p : LaidOut) (fs : List Function) (facts : FactSet) (source : ℕ) (indices : List Argument) (start : WordSet) (layout : Option ℕ) → leads_from (laid_with p fs) facts source indices start layout ≡ leads_from p facts source indices start layout
leads_from_by p fs facts source indices start None = λ along. is_some (element_part_same p fs along facts source indices)
leads_from_by p fs facts source indices start (Some layout) = λ along. stays_in p.layouts layout (element_words_same p fs along facts source indices start)

pub leads_from_same : (p : LaidOut) (fs : List Function) → leads_from (laid_with p fs) ≡ leads_from p
leads_from_same p fs = λ along facts source indices start layout. leads_from_by p fs facts source indices start layout along

may_lead_by : (p : LaidOut) (fs : List Function) (facts : FactSet) (source : ℕ) (indices : List Argument) (base : Known) → may_lead (laid_with p fs) facts source indices base ≡ may_lead p facts source indices base
may_lead_by p fs facts source indices (GlobalAddress symbol) = λ along. stays_at_first (element_words_same p fs along facts source indices (start_of (GlobalAddress symbol)))
may_lead_by p fs facts source indices base = λ along. leads_from_same p fs along facts source indices (start_of base) (base_layout facts base)

pub may_lead_same : (p : LaidOut) (fs : List Function) → may_lead (laid_with p fs) ≡ may_lead p
may_lead_same p fs = λ along facts source indices base. may_lead_by p fs facts source indices base along

pub is_index_same : (m : Module) (fs : List Function) → is_index (with_functions m fs) ≡ is_index m
is_index_same m fs = λ along f slots facts index. is_value_same m fs along f slots facts index.written index.operand && is_integer (slice_get m.types index.written)

pub are_indices_same : (m : Module) (fs : List Function) → are_indices (with_functions m fs) ≡ are_indices m
are_indices_same m fs = λ along f slots facts indices. list_all (is_index_same m fs along f slots facts) indices

element_of_known_by : (p : LaidOut) (fs : List Function) (v u source : ℕ) (base : Known) (indices : List Argument) (facts : FactSet) → element_of_known (laid_with p fs) v u source base indices facts ≡ element_of_known p v u source base indices facts
element_of_known_by p fs v u source (Number bits below) indices facts = refl
element_of_known_by p fs v u source base indices facts = λ along. define_words v u base (element_words_same p fs along facts source indices (start_of base)) facts

pub element_of_known_same : (p : LaidOut) (fs : List Function) → element_of_known (laid_with p fs) ≡ element_of_known p
element_of_known_same p fs = λ along v u source base indices facts. element_of_known_by p fs v u source base indices facts along

after_element_by : (p : LaidOut) (fs : List Function) (v : ℕ) (source : ℕ) (base : Operand) (indices : List Argument) (facts : FactSet) → after_element (laid_with p fs) v source base indices facts ≡ after_element p v source base indices facts
after_element_by p fs v source (Local u) indices facts = λ along. element_of_known_same p fs along v u source (known_at facts.values u) indices facts
after_element_by p fs v source base indices facts = λ along. define v (known_in_same p.of_module fs along facts base) facts

pub after_element_same : (p : LaidOut) (fs : List Function) → after_element (laid_with p fs) ≡ after_element p
after_element_same p fs = λ along v source base indices facts. after_element_by p fs v source base indices facts along
