-- The first struct that holds itself, where a struct has no end.
use Rattle.std.specs.Prelude.{ℕ, Option, Some, None, unwrap_or}
use Rattle.layout.specs.declared.fault.LayoutFault.{LayoutFault}
use Rattle.layout.specs.declared.fault.LayoutFault.TheVariants.{HoldsItself}
use Rattle.layout.specs.Layouts.{IsFirst}

-- the first number of which this holds, if there is one
abbrev pub IsFirstIfAny : (P : ℕ → Type 0) → Option ℕ → Type 0
IsFirstIfAny P (Some number) = IsFirst P number
IsFirstIfAny P None = (number : ℕ) → P number → ⊥

-- a fault at the first struct that holds itself, if there is one and the struct it was found at has no end
abbrev pub at_ring : (ring : Option ℕ) → LayoutFault → LayoutFault
at_ring ring (HoldsItself endless) = HoldsItself (unwrap_or ring endless)
at_ring ring fault = fault
