-- Roots of a thread as references of a run.
use Rattle.std.proofs.Common.{◌≡◌, ◌<◌, ℕ, zero, suc, inl, inr, List, [], ◌∷◌, map, length, slice_index_or, refl, sym, ap, arith}
use Rattle.std.specs.List.{Contains}
use Rattle.lemmas.specs.Lists.{IsIn}
use Rattle.machine.specs.declared.value.Value.{Value}
use Rattle.runs.specs.Machine.{WordValue}
use Rattle.program_safety.specs.Threads.{reference_in}

-- one value more in front
after_one : (v w : Value) (values : List Value) → Contains values w → Contains (v ∷ values) w
after_one v w values c = (suc c.0, omega (arith, c.1), c.2)

-- a reference among those of some values is that of one of them
pub from_values : (values : List Value) (r : WordValue) → IsIn r (map reference_in values) → (v : Value) × Contains values v × (r ≡ reference_in v)
from_values [] r h = absurd h
from_values (v ∷ values) r (inl e) = (v, (0, omega arith, refl), e)
from_values (v ∷ values) r (inr h) =
    let there = from_values values r h in
    (there.0, after_one v there.0 values there.1, there.2)

-- the reference of a value is among those of the values
pub among_values : (values : List Value) (v : Value) → Contains values v → IsIn (reference_in v) (map reference_in values)
among_values values v c = at_place values c.0 c.1 c.2
  where
    at_place : (values : List Value) (k : ℕ) → k < length values → slice_index_or values k v ≡ v → IsIn (reference_in v) (map reference_in values)
    at_place [] k within is = absurd (omega (arith, within))
    at_place (w ∷ values) zero within is = inl (ap reference_in (sym is))
    at_place (w ∷ values) (suc k) within is = inr (at_place values k (omega (arith, within)) is)
