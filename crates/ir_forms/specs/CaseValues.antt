-- The constants of a switch's cases, by their values.
use Rattle.std.specs.Prelude.{Bool, true, false, ◌==◌, if◌then◌else◌, List, [], ◌∷◌, ◌++◌}
use Rattle.std.specs.List.{list_any}
use Rattle.ir_ast.specs.declared.operand.Constant.{Constant}
use Rattle.ir_ast.specs.declared.operand.Constant.TheVariants as c
use Rattle.ir_forms.specs.declared.case_values.CaseValue.{CaseValue}
use Rattle.ir_forms.specs.declared.case_values.CaseValue.TheVariants as v

-- what a constant is as a case
abbrev pub value_of : Constant → CaseValue
value_of (c.Number number) = v.Number number
value_of (c.Float bits) = v.Float bits
value_of c.Null = v.Null
value_of (c.Truth truth) = if truth then v.True else v.False

-- two constants of a switch are one value
abbrev pub is_same_value : CaseValue → CaseValue → Bool
is_same_value (v.Number number) (v.Number other) = number == other
is_same_value (v.Float bits) (v.Float other) = bits == other
is_same_value v.Null v.Null = true
is_same_value v.True v.True = true
is_same_value v.False v.False = true
is_same_value _ _ = false

-- a constant of this value is among them
abbrev pub is_among : CaseValue → List CaseValue → Bool
is_among value seen = list_any (is_same_value value) seen

-- the values with this one
abbrev pub with_value : CaseValue → List CaseValue → List CaseValue
with_value value seen = if is_among value seen then seen else seen ++ value ∷ []
