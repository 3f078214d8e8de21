-- The values of cases are told apart by the definitions' test.
use Rattle.std.proofs.Common.{◌≡◌, List, [], ◌∷◌, ◌++◌, if◌then◌else◌, refl, ap, ◌∙◌}
use Rattle.std.specs.List.{list_any}
use Rattle.ir_forms.specs.declared.case_values.CaseValue.{CaseValue}
use Rattle.ir_forms.specs.declared.case_values.CaseValue.TheVariants as v
use Rattle.ir_forms.specs.contracts.case_values.CaseValuePartialEq.TheImpl.{eq-value}
use Rattle.ir_forms.specs.CaseValues.{is_same_value, with_value}

derived : (one other : CaseValue) → eq-value.it one other ≡ is_same_value one other
derived (v.Number number) (v.Number other) = refl
derived (v.Float bits) (v.Float other) = refl
derived v.Null v.Null = refl
derived v.True v.True = refl
derived v.False v.False = refl
derived _ _ = refl

pub values-are : (value : CaseValue) (keys seen : List CaseValue) → keys ≡ seen → (if list_any (eq-value.it value) keys then keys else keys ++ value ∷ []) ≡ with_value value seen
values-are value keys seen e =
    ap (λ test. if list_any test keys then keys else keys ++ value ∷ []) (λ j other. derived value other j)
    ∙ ap (λ (each : List CaseValue). with_value value each) e
