-- What is known after the parameters of a function, one by one.
use Rattle.std.proofs.Common.{◌≡◌, ℕ, zero, suc, ◌+◌, ◌<◌, List, [], ◌∷◌, ◌≤◌, ◌-◌, length, take, drop, get_or, refl, ap, arith, Option, None}
use native.Mathlib.Numerals.{unary_clauses}
use Rattle.ir_ast.specs.declared.function.Parameter.{Parameter}
use Rattle.ir_ast.specs.declared.module.Module.{Module}
use Rattle.certs.specs.declared.section.Promise.{Promise}
use Rattle.facts.specs.Claims.{receive, receive_all}
use Rattle.facts.specs.Facts.{FactSet}
use Rattle.block_rules.specs.Edges.{parameters_given}
use Rattle.block_rules.specs.Promises.{given_by}
use Rattle.type_kinds.specs.TypeKinds.{kind_of}

-- what is known after a parameter that has this promise
abbrev pub after : Module → Parameter → Option Promise → FactSet → FactSet
after m p promise f = receive p.value (given_by (kind_of m p.written)) promise f

with_promise : (m : Module) (parameters : List Parameter) (i : ℕ) (p : Parameter) (promise : Option Promise) (rest : List (Option Promise)) (f : FactSet) → i < length parameters → p ≡ get_or parameters i p
    → receive_all (parameters_given m (drop i parameters) (promise ∷ rest)) f ≡ receive_all (parameters_given m (drop (suc i) parameters) rest) (after m p promise f)
with_promise m [] i p promise rest f within is = absurd (omega (arith, within))
with_promise m (q ∷ parameters) zero p promise rest f within is = rw is refl
with_promise m (q ∷ parameters) (suc i) p promise rest f within is = with_promise m parameters i p promise rest f (omega (arith, within)) is

without_promise : (m : Module) (parameters : List Parameter) (i : ℕ) (p : Parameter) (rest : List (Option Promise)) (f : FactSet) → i < length parameters → p ≡ get_or parameters i p → length rest < 1
    → receive_all (parameters_given m (drop i parameters) rest) f ≡ receive_all (parameters_given m (drop (suc i) parameters) rest) (after m p None f)
without_promise m parameters i p (promise ∷ rest) f within is none = absurd (omega (arith, none))
without_promise m [] i p [] f within is none = absurd (omega (arith, within))
without_promise m (q ∷ parameters) zero p [] f within is none = rw is refl
without_promise m (q ∷ parameters) (suc i) p [] f within is none = without_promise m parameters i p [] f (omega (arith, within)) is none

-- a parameter of which a promise is left
pub received_with : (m : Module) (parameters : List Parameter) (i : ℕ) (p : Parameter) (promise : Option Promise) (rest : List (Option Promise)) (f : FactSet) → i < length parameters → p ≡ get_or parameters i p
    → receive_all (parameters_given m (drop i parameters) (promise ∷ rest)) f ≡ receive_all (parameters_given m (drop (i + 1) parameters) rest) (after m p promise f)
received_with m parameters i p promise rest f within is = simp unary_clauses (with_promise m parameters i p promise rest f within is)

-- a parameter of which none is left
pub received_without : (m : Module) (parameters : List Parameter) (i : ℕ) (p : Parameter) (rest : List (Option Promise)) (f : FactSet) → i < length parameters → p ≡ get_or parameters i p → length rest < 1
    → receive_all (parameters_given m (drop i parameters) rest) f ≡ receive_all (parameters_given m (drop (i + 1) parameters) rest) (after m p None f)
received_without m parameters i p rest f within is none = simp unary_clauses (without_promise m parameters i p rest f within is none)

-- promises of which one is left
pub first_of : (promises : List (Option Promise)) (promise : Option Promise) → 0 < length promises → promise ≡ get_or promises 0 promise → promises ≡ promise ∷ drop 1 promises
first_of [] promise within is = absurd (omega (arith, within))
first_of (other ∷ promises) promise within is = rw is refl

take_all : (n : ℕ) (promises : List (Option Promise)) → length promises ≤ n → take n promises ≡ promises
take_all zero [] few = refl
take_all (suc n) [] few = refl
take_all zero (promise ∷ promises) few = absurd (omega (arith, few))
take_all (suc n) (promise ∷ promises) few = ap (λ rest. promise ∷ rest) (take_all n promises (omega (arith, few)))

-- those after the first
pub others_of : (promises : List (Option Promise)) → 0 < length promises → take (length promises - 1) (drop 1 promises) ≡ drop 1 promises
others_of [] within = absurd (omega (arith, within))
others_of (promise ∷ promises) within = take_all (length (promise ∷ promises) - 1) promises (omega arith)
