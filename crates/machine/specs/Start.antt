-- Which arguments a function may be started with.
use Rattle.std.specs.Prelude.{◌≡◌, ℕ, ◌==◌, Bool, true, false, not, ◌&&◌, List, [], ◌∷◌, map, slice_get, Some}
use Rattle.std.specs.List.{list_any}
use Rattle.ir_ast.specs.declared.function.Function.{Function}
use Rattle.ir_ast.specs.declared.function.Parameter.{Parameter}
use Rattle.ir_ast.specs.declared.module.Module.{Module}
use Rattle.layout.specs.Layouts.{LaidOut}
use Rattle.machine.specs.declared.value.Value.{Value}
use Rattle.machine.specs.declared.value.Value.TheVariants as value
use Rattle.machine.specs.Kinds.{is_integer, bits_at, wrapped}

-- a parameter is no integer
abbrev pub is_reference_parameter : Module → Parameter → Bool
is_reference_parameter m parameter = not (is_integer (slice_get m.types parameter.written))

-- a function takes a reference
abbrev pub takes_reference : Module → Function → Bool
takes_reference m f = list_any (is_reference_parameter m) f.parameters

-- a number fits the type of a parameter
abbrev pub argument_fits : Module → Parameter → ℕ → Bool
argument_fits m parameter argument = wrapped (bits_at m parameter.written) argument == argument

-- there is one argument for each parameter, and each fits its type
abbrev pub arguments_fit : Module → List Parameter → List ℕ → Bool
arguments_fit m [] [] = true
arguments_fit m (parameter ∷ parameters) (argument ∷ arguments) = argument_fits m parameter argument && arguments_fit m parameters arguments
arguments_fit m _ _ = false

-- the arguments as values
abbrev pub argument_values : List ℕ → List Value
argument_values arguments = map (λ n. value.Number n) arguments

-- a function of the program takes a reference
abbrev pub StartsByReference : LaidOut → (function : ℕ) → Type 0
StartsByReference p function = (f : Function) × (slice_get p.of_module.functions function ≡ Some f) × (takes_reference p.of_module f ≡ true)

-- a function of the program takes numbers alone, but not these
abbrev pub StartsWrongly : LaidOut → (function : ℕ) → List ℕ → Type 0
StartsWrongly p function arguments =
    (f : Function) × (slice_get p.of_module.functions function ≡ Some f) × (takes_reference p.of_module f ≡ false) × (arguments_fit p.of_module f.parameters arguments ≡ false)
