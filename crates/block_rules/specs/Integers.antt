-- Arithmetic, changes of width, comparisons, and the choice between two values.
use Rattle.std.specs.Prelude.{ℕ, ◌==◌, Bool, true, false, ◌&&◌, if◌then◌else◌, Option, Some, None, nat_lt}
use Rattle.ir_ast.specs.declared.module.Module.{Module}
use Rattle.ir_ast.specs.declared.numbers.Arithmetic.{Arithmetic}
use Rattle.ir_ast.specs.declared.numbers.Arithmetic.TheVariants as arithmetic
use Rattle.ir_ast.specs.declared.numbers.Comparison.{Comparison}
use Rattle.ir_ast.specs.declared.numbers.Comparison.TheVariants as comparison
use Rattle.ir_ast.specs.declared.numbers.Resize.{Resize}
use Rattle.ir_ast.specs.declared.numbers.Resize.TheVariants as resize
use Rattle.ir_ast.specs.declared.operand.Constant.{Constant}
use Rattle.ir_ast.specs.declared.operand.Operand.{Operand}
use Rattle.ir_ast.specs.declared.operand.Operand.TheVariants.{Constant as Written, Local}
use Rattle.fact_tables.specs.declared.known.Known.{Known}
use Rattle.fact_tables.specs.declared.known.Known.TheVariants.{Nothing, Number, Cell}
use Rattle.fact_tables.specs.Rows.{known_at}
use Rattle.facts.specs.Facts.{FactSet, define, define_test, drop_fresh_of}
use Rattle.type_kinds.specs.declared.type_kind.TypeKind.{TypeKind}
use Rattle.type_kinds.specs.declared.type_kind.TypeKind.TheVariants.{Bits, Reference, AnyReference}
use Rattle.block_rules.specs.Operands.{known_of, known_in, number_of, is_nonnull, is_null_constant, is_number_known}
use Rattle.block_rules.specs.Places.{define_held}
use Rattle.type_kinds.specs.TypeKinds.{layout_of_kind}
use Rattle.block_rules.specs.Bounds.{below_next}

-- what a number is known to be below
abbrev pub below_known : Known → Option ℕ
below_known (Number bits below) = below
below_known _ = None

-- what a constant is known to be below
abbrev pub constant_below : Option ℕ → Option ℕ
constant_below None = None
constant_below (Some n) = below_next n

-- what an operand is known to be below
abbrev pub below_of : FactSet → Operand → Option ℕ
below_of facts (Written c) = constant_below (number_of (Written c))
below_of facts operand = below_known (known_of facts operand)

-- the smaller of two bounds
abbrev pub smaller : Option ℕ → Option ℕ → Option ℕ
smaller None other = other
smaller (Some n) None = Some n
smaller (Some n) (Some m) = if nat_lt m n then Some m else Some n

-- the larger of two bounds, where there are both
abbrev pub weaker_bound : Option ℕ → Option ℕ → Option ℕ
weaker_bound (Some n) (Some m) = if nat_lt n m then Some m else Some n
weaker_bound _ _ = None

-- what a remainder is known to be below, by what it is divided by
abbrev pub remainder_bound : Option ℕ → Option ℕ
remainder_bound None = None
remainder_bound (Some n) = if nat_lt 0 n then Some n else None

-- what the result of arithmetic is known to be below: `and` is no more than each constant, and a remainder by a constant less than that
abbrev pub arithmetic_below : Arithmetic → (first second : Operand) → Option ℕ
arithmetic_below arithmetic.And first second = smaller (constant_below (number_of first)) (constant_below (number_of second))
arithmetic_below arithmetic.Remainder first second = remainder_bound (number_of second)
arithmetic_below _ first second = None

-- v is an integer of a type of this kind
abbrev pub define_number : (v : ℕ) → TypeKind → (below : Option ℕ) → FactSet → FactSet
define_number v (Bits bits) below facts = define v (Number bits below) facts
define_number v _ below facts = define v Nothing facts

-- a number of `from` bits may be changed to `to` bits
abbrev pub changes_width : Resize → (from to : ℕ) → Bool
changes_width resize.ZeroExtend from to = nat_lt from to
changes_width resize.SignExtend from to = nat_lt from to
changes_width resize.Truncate from to = nat_lt to from

-- K2: one type may be changed to the other
abbrev pub may_resize : Resize → (from to : TypeKind) → Bool
may_resize kind (Bits from) (Bits to) = changes_width kind from to
may_resize kind _ _ = false

-- a number that gets zeros in front stays below what it was
abbrev pub resized_below : Resize → (below : Option ℕ) → Option ℕ
resized_below resize.ZeroExtend below = below
resized_below _ below = None

-- a comparison for equality
abbrev pub is_equality : Comparison → Bool
is_equality comparison.Equal = true
is_equality comparison.NotEqual = true
is_equality _ = false

-- K2: integers are compared, or references for equality
abbrev pub may_compare : Comparison → TypeKind → Bool
may_compare kind (Bits bits) = true
may_compare kind (Reference layout) = is_equality kind
may_compare kind AnyReference = is_equality kind
may_compare kind _ = false

-- a comparison of a value with a constant is kept as a test; whether an address outside is null tells nothing
abbrev pub after_constant : (v u : ℕ) → Comparison → Constant → Known → FactSet → FactSet
after_constant v u kind c known facts =
    if is_null_constant c && is_number_known known then define v (Number 1 None) facts else define_test v (record { tested = u; kind = kind; constant = c }) facts

-- after a comparison; from a test the edges that it decides learn
abbrev pub after_compare : (v : ℕ) → Comparison → (first second : Operand) → FactSet → FactSet
after_compare v kind (Local u) (Written c) facts = after_constant v u kind c (known_at facts.values u) facts
after_compare v kind _ _ facts = define v (Number 1 None) facts

-- the layout of a reference, if it is known
abbrev pub known_layout : Known → Option ℕ
known_layout (Cell class layout stale) = Some layout
known_layout _ = None

-- two layouts, if both are known, are one
abbrev pub one_layout : Option ℕ → Option ℕ → Bool
one_layout (Some layout) (Some other) = layout == other
one_layout _ _ = true

-- the first of these, if there is one, or else the second
abbrev pub or_else : Option ℕ → Option ℕ → Option ℕ
or_else None other = other
or_else (Some layout) other = Some layout

-- K2: integers are chosen from, or references
abbrev pub may_choose : TypeKind → Bool
may_choose (Bits bits) = true
may_choose (Reference layout) = true
may_choose AnyReference = true
may_choose _ = false

-- the layout of the reference that is chosen: its type says it, or one of the two
abbrev pub chosen_layout : TypeKind → (chosen other : Known) → Option ℕ
chosen_layout kind chosen other = or_else (layout_of_kind kind) (or_else (known_layout chosen) (known_layout other))

-- one of two references, with a new class of its own; neither of their classes is fresh any more
abbrev pub choose_reference : (v : ℕ) → TypeKind → (chosen other : Known) → FactSet → FactSet
choose_reference v kind chosen other facts =
    define_held v (chosen_layout kind chosen other) (is_nonnull facts chosen && is_nonnull facts other) (drop_fresh_of other (drop_fresh_of chosen facts))

-- one of two pointers: of two addresses outside it is one
abbrev pub choose_pointer : (v : ℕ) → TypeKind → (chosen other : Known) → FactSet → FactSet
choose_pointer v kind (Number bits below) other facts = define v (Number bits None) facts
choose_pointer v kind chosen other facts = choose_reference v kind chosen other facts

-- after a choice
abbrev pub after_select : Module → (v : ℕ) → TypeKind → (chosen other : Operand) → FactSet → FactSet
after_select m v (Bits bits) chosen other facts = define v (Number bits (weaker_bound (below_of facts chosen) (below_of facts other))) facts
after_select m v kind chosen other facts = choose_pointer v kind (known_in m facts chosen) (known_in m facts other) facts
