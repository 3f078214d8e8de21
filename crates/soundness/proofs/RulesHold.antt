-- What an allowed instruction keeps: the condition of each rule, picked by the rule.
use Rattle.std.proofs.Common.{◌≡◌, ℕ, ◌==◌, Bool, true, false, if◌then◌else◌, List, [], ◌∷◌, Option, Some, None, refl}
use Rattle.std.specs.Prelude.{◌++◌}
use Rattle.block_rules.specs.declared.rule.Rule.{Rule}
use Rattle.block_rules.specs.declared.rule.Rule.TheVariants.{K1, K2, K3, K4, K5, K6, K7, K8, K9, K10, K11, K12, K13, K14, K15, K16, K17, K18, K19, K20}
use Rattle.block_rules.specs.Certified.{breach_by}
use Rattle.block_rules.specs.FirstFailing.{first_failing}

-- the number in a rule's printed code
abbrev pub code : Rule → ℕ
code K1 = 1
code K2 = 2
code K3 = 3
code K4 = 4
code K5 = 5
code K6 = 6
code K7 = 7
code K8 = 8
code K9 = 9
code K10 = 10
code K11 = 11
code K12 = 12
code K13 = 13
code K14 = 14
code K15 = 15
code K16 = 16
code K17 = 17
code K18 = 18
code K19 = 19
code K20 = 20

-- the condition of a rule in a list of conditions; true where the list has none
abbrev pub condition_of : Rule → List (Rule × Bool) → Bool
condition_of rule [] = true
condition_of rule (condition ∷ rest) = if code condition.0 == code rule then condition.1 else condition_of rule rest

-- the condition of each rule holds
abbrev pub RulesHold : List (Rule × Bool) → Type 0
RulesHold conditions = (rule : Rule) → condition_of rule conditions ≡ true

-- where no condition of a list fails, that of each rule holds
pub rules_hold : (conditions : List (Rule × Bool)) → first_failing conditions ≡ None → RulesHold conditions
rules_hold [] e rule = refl
rules_hold (condition ∷ rest) e rule = pick (code condition.0 == code rule) condition.1 refl e (λ rest_holds. rules_hold rest rest_holds rule) where
  pick : (same holds : Bool) → condition.1 ≡ holds → (if holds then first_failing rest else Some condition.0) ≡ None → (first_failing rest ≡ None → condition_of rule rest ≡ true)
      → (if same then condition.1 else condition_of rule rest) ≡ true
  pick true true is e others = is
  pick false true is e others = others e
  pick same false is e others = absurd cc

-- where no condition of a list fails, none of its front does
pub first_passes : (first rest : List (Rule × Bool)) → first_failing (first ++ rest) ≡ None → first_failing first ≡ None
first_passes [] rest e = refl
first_passes (condition ∷ first) rest e = pick condition.1 (first_passes first rest) e where
  pick : (b : Bool) → (first_failing (first ++ rest) ≡ None → first_failing first ≡ None) → (if b then first_failing (first ++ rest) else Some condition.0) ≡ None → (if b then first_failing first else Some condition.0) ≡ None
  pick true others e = others e
  pick false others e = absurd cc

-- where no rule is broken, none is failed
pub unbroken : (rule : Option Rule) → breach_by rule ≡ None → rule ≡ None
unbroken None e = refl
unbroken (Some rule) e = absurd cc
